use native.Mathlib.Omega.{arith}
use Rattle.page.proofs.SlotBounds.{slots_bound}
use Rattle.page.proofs.SlotWalk.{slot_stays, slot_steps, next_there, next_run}
use Rattle.page.proofs.slots.run_to.Goals as goal

pub returns-then-i-run : goal.returns-then-i-run
returns-then-i-run c = slot_stays c.args.configuration.now c.requires.has_front.0 c.args.i c.requires.i_bound c.requires.run_value c.if-i-run.true

pub code_of-requires : goal.code_of-requires
code_of-requires c = next_there c.args.configuration.now c.requires.has_front.0 c.args.i c.requires.i_bound c.requires.run_value c.if-i-run.false c.requires.has_front.1

pub overflow_add-result : goal.overflow_add-result
overflow_add-result c = omega (arith, (slot_steps c.args.configuration.now c.requires.has_front.0 c.args.i c.requires.i_bound c.requires.run_value c.if-i-run.false).0)

pub elements_of-requires : goal.elements_of-requires
elements_of-requires c = next_there c.args.configuration.now c.requires.has_front.0 c.args.i c.requires.i_bound c.requires.run_value c.if-i-run.false c.requires.has_front.1

pub overflow_add-result-2 : goal.overflow_add-result-2
overflow_add-result-2 c = omega (arith, c.requires.i_bound, slots_bound c.args.configuration.now c.requires.has_front.0)

pub overflow_add-result-3 : goal.overflow_add-result-3
overflow_add-result-3 c = omega (arith, c.requires.i_bound, slots_bound c.args.configuration.now c.requires.has_front.0)

pub returns : goal.returns
returns c = next_run c.args.configuration.now c.requires.has_front.0 c.args.i c.requires.i_bound c.requires.run_value c.if-i-run.false c.code_of.ensures c.of-kind.ensures c.elements_of.ensures
