use native.Mathlib.Omega.{arith}
use Rattle.page.proofs.SlotsCounted.{no_configuration, configuration_sum, configuration_slots}
use Rattle.page.proofs.testing.configuration_slots.Goals as goal

pub returns-in_default : goal.returns-in_default
returns-in_default c = no_configuration c.args.configuration.now c.open_configuration-opened.ensures c.in_default.is

pub overflow_add-result : goal.overflow_add-result
overflow_add-result c = omega
    (arith, configuration_sum c.args.configuration.now c.open_configuration-opened.ensures c.in-Some.is)

pub returns : goal.returns
returns c = configuration_slots c.args.configuration.now
    c.open_configuration-opened.ensures c.in-Some.is
