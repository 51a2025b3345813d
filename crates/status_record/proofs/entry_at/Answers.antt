use Rattle.status_record.proofs.EntryRows.{entry_read}
use Rattle.status_record.proofs.entry_at.Goals as goal

pub returns : goal.returns
returns c = entry_read c.args.fields.now c.args.i c.entry_place.ensures c.copy.ensures
