use Rattle.std.proofs.Common.{ap, arith}
use Rattle.page.specs.declared.slots.SlotRun.{SlotRun}
use Rattle.page.proofs.SlotBounds.{slots_bound}
use Rattle.page.proofs.SlotWalk.{run_stands, walk_on}
use Rattle.tool_show.proofs.named.tell_entries.Goals as goal

pub run_to-run-requires : goal.run_to-run-requires
run_to-run-requires g c = record {
  has_front = c.requires.has_front;
  i_bound = omega (arith, c.requires.n_value, c.loop-i-test.true);
  run_value = c.loop-i.invariant;
}

pub tell_entry-requires : goal.tell_entry-requires
tell_entry-requires g c =
    let x = c.args.shelf.now in
    let q = c.run_to-run.ensures in
    let t = ap (λ (r : SlotRun). r.types) q in
    let l = c.loop-i-test.true in
    let a = run_stands x c.requires.has_front.0 c.loop-i.i (omega (arith, c.requires.n_value, l)) q in
    record {
      le_types = omega (arith, t);
      i_lt_end = a.0;
      types_bound = a.1;
      i_bound = omega (arith, c.requires.n_value, l, slots_bound x c.requires.has_front.0);
    }

pub loop-i-preserved : goal.loop-i-preserved
loop-i-preserved g c = walk_on c.args.shelf.now c.loop-i.i c.run_to-run.ensures
