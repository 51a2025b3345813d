use native.Mathlib.Omega.{arith}
use Rattle.page.proofs.SlotWalk.{types_fit, element_fits, overall_in_lem, element_in}
use Rattle.page.proofs.slots.slot_in.Goals as goal

pub overflow_sub-after : goal.overflow_sub-after
overflow_sub-after c = types_fit c.args.run c.args.i c.requires.types_bound

pub overflow_sub-result : goal.overflow_sub-result
overflow_sub-result c = omega (arith, types_fit c.args.run c.args.i c.requires.types_bound, c.requires.i_lt_end)

pub overflow_sub-result-else-run : goal.overflow_sub-result-else-run
overflow_sub-result-else-run c = element_fits c.args.run c.args.i c.requires.types_bound c.if-run.false

pub returns-then-run : goal.returns-then-run
returns-then-run c = overall_in_lem _ _ c.if-run.true

pub returns-else-run : goal.returns-else-run
returns-else-run c = element_in _ _ c.if-run.false
