use Rattle.std.proofs.Common.{arith}
use Rattle.page.proofs.SlotWalk.{walk_on}
use Rattle.tool_show.proofs.place.run_of.Goals as goal

pub run_to-run-requires : goal.run_to-run-requires
run_to-run-requires c = record {
  has_front = c.requires.has_front;
  i_bound = omega (arith, c.requires.i_bound);
  run_value = c.first_run.ensures;
}

pub run_to-run-requires-in-loop-j : goal.run_to-run-requires-in-loop-j
run_to-run-requires-in-loop-j c =
    let l = c.loop-j in
    record {
      has_front = c.requires.has_front;
      i_bound = omega (arith, c.requires.i_bound, c.loop-j-test.true);
      run_value = walk_on c.args.shelf.now l.j l.invariant;
    }
