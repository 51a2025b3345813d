use Rattle.bits.proofs.Halves.{and1}
use Rattle.status_reading.specs.Read.{bits_on}
use Rattle.status_reading.proofs.reading.bits_on.Goals as goal

pub returns : goal.returns
unfolding bits_on
returns c = rw (c.byte_at-b.ensures, and1, and1)
