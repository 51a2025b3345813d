use native.Mathlib.Omega.{arith}
use Rattle.shelf.proofs.TypeRuns.{run_stays, run_behind}
use Rattle.shelf.proofs.types.run_to.Goals as goal

pub returns-then-j-run : goal.returns-then-j-run
returns-then-j-run c = let s = c.args in run_stays s.shelf.now s.j c.requires.run_value c.if-j-run.true

pub overflow_cast-run : goal.overflow_cast-run
overflow_cast-run c = let b = run_behind c.args.shelf.now c.args.j c.requires.run_value in
    omega (arith, b.0)

pub run_from-requires : goal.run_from-requires
run_from-requires c = let b = run_behind c.args.shelf.now c.args.j c.requires.run_value in
    record { has_element = c.requires.has_element; t_le_most_types = b.0; start_value = b.1; t_value = b.2 }
