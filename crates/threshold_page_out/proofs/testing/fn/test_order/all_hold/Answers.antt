use Rattle.shelf.proofs.TypeRuns.{run_small}
use Rattle.page.proofs.SlotWalk.{places_run}
use Rattle.threshold_page_out.proofs.testing.fn.test_order.all_hold.Goals as goal

pub places_in-requires : goal.places_in-requires
places_in-requires c = run_small c.captures.shelf.now c.args.j c.requires.run_value

pub element_ordered-requires : goal.element_ordered-requires
element_ordered-requires c =
    let e = places_run c.captures.shelf.now c.args.j c.requires.run_value c.places_in.ensures in
    record { has_element = c.requires.has_element; has_slots = rw e c.requires.has_slots; at_value = e }
