use Rattle.shelf.proofs.TypeRuns.{run_kind}
use Rattle.shelf_formed.proofs.fn.elements_formed.all_hold.Goals as goal

pub element_formed-requires : goal.element_formed-requires
element_formed-requires c = record { has_element = c.requires.has_element; kind_value = run_kind c.captures.shelf.now c.args.j c.requires.run_value }
