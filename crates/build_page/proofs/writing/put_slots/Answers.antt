use mathlib.Core.Path.{◌≡◌, refl, ap, ◌∙◌}
use native.Mathlib.Omega.{arith}
use Rattle.shelf_formed.proofs.ElementTypes.{front_formed_lem}
use Rattle.page.specs.Slots.{slot_place, slots_put}
use Rattle.shelf_formed.proofs.ElementPut.{shelf_there}
use Rattle.page.proofs.SlotWalk.{run_stands, slot_walked, walk_on}
use Rattle.bits.proofs.FoursPut.{fours_next, fours_length}
use Rattle.build_page.proofs.Loops.{row_next, count_next, slot_wishes}
use Rattle.build_page.specs.Page.{row_for, selects_for}
use Rattle.build_page.proofs.writing.put_slots.Goals as goal

pub loop-i-init : goal.loop-i-init
loop-i-init c = (omega arith, omega arith, refl, refl, refl, c.first_run-run.ensures, omega arith)

pub run_to-run-requires : goal.run_to-run-requires
run_to-run-requires c = record { has_front = shelf_there c.args.shelf.now c.requires.has_page.0; i_bound = omega (arith, c.requires.n_value, c.loop-i-test.true); run_value = c.loop-i.invariant.5 }

pub slot_in-at-requires : goal.slot_in-at-requires
slot_in-at-requires c = let s = c.args.shelf.now in let all = run_stands s (front_formed_lem s c.requires.has_page.0) c.loop-i.i (omega (arith, c.requires.n_value, c.loop-i-test.true)) c.run_to-run.ensures in record { i_lt_end = all.0; types_bound = all.1 }

pub overall-current-requires : goal.overall-current-requires
overall-current-requires c = let s = c.args.shelf.now in let l = c.loop-i in slot_wishes s c.args.wanted.now c.requires.has_page.0 c.requires.shelf_in_bounds l.i (omega (arith, c.requires.n_value, c.loop-i-test.true)) (slot_walked s l.i c.run_to-run.ensures c.slot_in-at.ensures)

pub row-bytes-requires : goal.row-bytes-requires
row-bytes-requires c = let s = c.args.shelf.now in
    let l = c.loop-i in
    slot_wishes s c.args.wanted.now c.requires.has_page.0 c.requires.shelf_in_bounds l.i (omega (arith, c.requires.n_value, c.loop-i-test.true))
    (slot_walked s l.i c.run_to-run.ensures c.slot_in-at.ensures)

pub put_four-requires : goal.put_four-requires
put_four-requires c = let l = c.loop-i in
    let n = fours_length slot_place (row_for c.args.shelf.now c.args.wanted.now) c.args.out.now l.i l.invariant.4 in
    omega (arith, c.slot_place.ensures, c.requires.has_page.1, c.requires.n_value, c.loop-i-test.true, n)

pub overflow_cast-sum : goal.overflow_cast-sum
overflow_cast-sum c = let s = c.args in
    let l = c.loop-i in
    let r = row_next s.shelf.now s.wanted.now l.i c.run_to-run.ensures c.slot_in-at.ensures l.invariant.2
    c.overall-current.ensures c.row-bytes.ensures in
    omega (arith, r.2)

pub overflow_add-sum : goal.overflow_add-sum
overflow_add-sum c = let s = c.args in
    let l = c.loop-i in
    let r = row_next s.shelf.now s.wanted.now l.i c.run_to-run.ensures c.slot_in-at.ensures l.invariant.2
    c.overall-current.ensures c.row-bytes.ensures in
    omega (arith, r.2, l.invariant.1, l.invariant.0, l.invariant.6)

pub loop-i-preserved : goal.loop-i-preserved
loop-i-preserved c = let s = c.args in
    let l = c.loop-i in
    let r = row_next s.shelf.now s.wanted.now l.i c.run_to-run.ensures c.slot_in-at.ensures l.invariant.2
    c.overall-current.ensures c.row-bytes.ensures in (
      omega (arith, c.loop-i-test.true),
      omega (arith, r.2, l.invariant.1),
      r.0,
      count_next s.shelf.now s.wanted.now l.i l.invariant.3 r.1,
      fours_next slot_place (row_for s.shelf.now s.wanted.now) s.out.now l.i l.invariant.4 c.slot_place.ensures r.1
          c.put_four.ensures,
      walk_on s.shelf.now l.i c.run_to-run.ensures,
      l.invariant.6,
    )

pub shape_of-out : goal.shape_of-out
shape_of-out c = let s = c.args in fours_length slot_place (row_for s.shelf.now s.wanted.now) s.out.now c.loop-i.i c.loop-i.invariant.4

pub returns : goal.returns
returns c = let s = c.args in let l = c.loop-i in let e : l.i ≡ s.n = omega (arith, l.invariant.0, c.loop-i-test.false) in record { value = l.invariant.3 ∙ ap (selects_for s.shelf.now s.wanted.now) e; out_after = l.invariant.4 ∙ ap (slots_put (row_for s.shelf.now s.wanted.now) s.out.now) e }
