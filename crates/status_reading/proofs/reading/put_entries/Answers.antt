use mathlib.Core.Path.{◌≡◌, refl, ap, ◌∙◌}
use native.Mathlib.Omega.{arith}
use Rattle.bits.proofs.RowsPut.{rows_next, rows_length}
use Rattle.page.proofs.SlotWalk.{run_stands, slot_walked, walk_on}
use Rattle.status_record.specs.Entries.{entry_place, entries_put}
use Rattle.status_reading.specs.Read.{slot_shown}
use Rattle.status_reading.proofs.Loops.{slot_shows}
use Rattle.status_reading.proofs.reading.put_entries.Goals as goal

pub loop-i-init : goal.loop-i-init
loop-i-init c = (omega arith, c.first_run-run.ensures, refl, omega arith)

pub run_to-run-requires : goal.run_to-run-requires
run_to-run-requires c = record { has_front = c.requires.has_front; i_bound = omega (arith, c.requires.n_bound, c.loop-i-test.true); run_value = c.loop-i.invariant.1 }

pub slot_in-at-requires : goal.slot_in-at-requires
slot_in-at-requires c = let all = run_stands c.args.configuration.now c.requires.has_front.0 c.loop-i.i (omega (arith, c.requires.n_bound, c.loop-i-test.true)) c.run_to-run.ensures in record { i_lt_end = all.0; types_bound = all.1 }

pub slot_shown-requires : goal.slot_shown-requires
slot_shown-requires c = omega (arith, c.requires.n_in_bounds, c.loop-i-test.true)

pub put_entry-requires : goal.put_entry-requires
put_entry-requires c = let l = c.loop-i in omega (arith, c.requires.n_in_bounds_2, c.loop-i-test.true, rows_length entry_place (slot_shown c.args.configuration.now c.args.page.now) c.args.fields.now l.i l.invariant.2)

pub loop-i-preserved : goal.loop-i-preserved
loop-i-preserved c = let q = c.args in
    let s = q.configuration.now in
    let p = q.page.now in
    let l = c.loop-i in
    let r = c.run_to-run.ensures in
    let slot = slot_walked s l.i r c.slot_in-at.ensures in
    let shown = slot_shows s p l.i slot c.slot_shown.ensures in (
      omega (arith, c.loop-i-test.true),
      walk_on s l.i r,
      rows_next entry_place (slot_shown s p) q.fields.now l.i l.invariant.2 refl shown c.put_entry.ensures,
      l.invariant.3,
    )

pub shape_of-fields : goal.shape_of-fields
shape_of-fields c = let s = c.args in rows_length entry_place (slot_shown s.configuration.now s.page.now) s.fields.now c.loop-i.i c.loop-i.invariant.2

pub returns : goal.returns
returns c = let s = c.args in let l = c.loop-i in let e : l.i ≡ s.n = omega arith in l.invariant.2 ∙ ap (entries_put (slot_shown s.configuration.now s.page.now) s.fields.now) e
