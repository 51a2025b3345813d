use mathlib.Core.Path.{◌≡◌, refl, ap}
use mathlib.Core.Bool.{not}
use native.Mathlib.Omega.{arith}
use borrow.Author.Tests.{le-ltb}
use Rattle.bits.specs.Choice.{refused_in}
use Rattle.bits.proofs.Logic.{fails, below_next}
use Rattle.page.proofs.SlotWalk.{walk_on}
use Rattle.threshold_rows.specs.Rows.{row_offending, row_had, row_ordered}
use Rattle.threshold_rows.proofs.Loops.{row_offends, row_had_lem, row_ordered_lem, and_next}
use Rattle.threshold_rows.proofs.RowTests.{refused_row, rows_seen}
use Rattle.threshold_rows.proofs.scan.Goals as goal

pub loop-i-init : goal.loop-i-init
loop-i-init c = (omega arith, c.first_run-run.ensures, refl, refl, refl)

pub run_to-run-requires : goal.run_to-run-requires
run_to-run-requires c = record { has_front = c.requires.0; i_bound = omega (arith, c.requires.1, c.loop-i-test.true); run_value = c.loop-i.invariant.1 }

pub overflow_cast-result : goal.overflow_cast-result
overflow_cast-result c = omega arith

pub overflow_add-result : goal.overflow_add-result
overflow_add-result c = omega (arith, c.row_place.ensures)

pub returns-then-k-lt4 : goal.returns-then-k-lt4
returns-then-k-lt4 c = let s = c.args in
    let l = c.loop-i in
    let h = row_offends s.configuration.now s.block.now s.start l.i c.run_to-run.ensures
    c.row_at-e.ensures c.row_offending-k.ensures in
    refused_row s.configuration.now s.block.now s.start s.n l.i c.loop-i-test.true
    l.invariant.2 h c.if-k-lt4.true c.row_place.ensures

pub loop-i-preserved : goal.loop-i-preserved
loop-i-preserved c = let s = c.args in
    let x = s.configuration.now in
    let b = s.block.now in
    let l = c.loop-i in
    let r = c.run_to-run.ensures in
    let e = c.row_at-e.ensures in
    let k = row_offends x b s.start l.i r e c.row_offending-k.ensures in (
      omega arith,
      walk_on x l.i r,
      below_next (fails (refused_in (row_offending x b s.start))) l.i l.invariant.2 (ap not (le-ltb (row_offending x b s.start l.i) 4 (rw k at c.if-k-lt4.false))),
      and_next (row_had x b s.start) l.i l.invariant.3 (row_had_lem x b s.start l.i r e c.are_had-had.ensures),
      and_next (row_ordered x b s.start) l.i l.invariant.4 (row_ordered_lem x b s.start l.i r e c.are_ordered-ordered.ensures),
    )

pub returns : goal.returns
returns c = let s = c.args in
    let l = c.loop-i in
    let e : l.i ≡ s.n = omega arith in
    rows_seen s.configuration.now s.block.now s.start s.n (rw e at l.invariant.2) (rw e at l.invariant.3) (rw e at l.invariant.4)
