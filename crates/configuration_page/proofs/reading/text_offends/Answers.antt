use mathlib.Core.Path.{ap}
use mathlib.Core.Bool.{not}
use Rattle.configuration_page.specs.Read.{text_offends}
use Rattle.configuration_page.proofs.reading.text_offends.Goals as goal

pub returns : goal.returns
unfolding text_offends
returns c = ap not c.is_printable.ensures
