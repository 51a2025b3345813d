use Rattle.element.specs.Settings.{settings_bytes}
use Rattle.element.proofs.settings.Settings.bytes.Goals as goal

pub returns : goal.returns
unfolding settings_bytes
returns c = rw (← c.of.ensures) c.stored.ensures
