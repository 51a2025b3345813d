use mathlib.Core.Path.{◌∙◌}
use Rattle.shelf_formed.proofs.Opening.{is_configuration, no_configuration}
use Rattle.shelf_formed.proofs.open_configuration.Goals as goal

pub returns-then-configuration-eq-CONFIGURATION : goal.returns-then-configuration-eq-CONFIGURATION
returns-then-configuration-eq-CONFIGURATION c = c.front.ensures ∙ is_configuration c.args.configuration.now c.if-configuration-eq-CONFIGURATION.true

pub returns-else-configuration-eq-CONFIGURATION : goal.returns-else-configuration-eq-CONFIGURATION
returns-else-configuration-eq-CONFIGURATION c = no_configuration c.args.configuration.now c.if-configuration-eq-CONFIGURATION.false
