use Rattle.element.specs.Thresholds.{taken}
use Rattle.element_thresholds.proofs.taken.Goals as goal

pub returns : goal.returns
unfolding taken
returns c = rw (c.byte_taken.ensures, c.byte_taken-2.ensures, c.byte_taken-3.ensures, c.byte_taken-4.ensures)
