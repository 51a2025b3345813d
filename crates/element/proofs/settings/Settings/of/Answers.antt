use Rattle.element.specs.Settings.{settings_of}
use Rattle.element.proofs.settings.Settings.of.Goals as goal

pub returns : goal.returns
unfolding settings_of
returns c = rw (← c.of.ensures) c.said.ensures
