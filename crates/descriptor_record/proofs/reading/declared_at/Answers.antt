use Rattle.descriptor_record.specs.Read.{declared}
use borrow.Author.Rules.{rules}
use Rattle.descriptor_record.proofs.reading.declared_at.Goals as goal

pub returns : goal.returns
unfolding declared
returns c = search rules
