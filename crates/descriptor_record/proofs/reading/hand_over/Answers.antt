use native.Mathlib.Omega.{arith}
use Rattle.descriptor_record.proofs.Refusals.{read_front, record_placed}
use Rattle.descriptor_record.proofs.reading.hand_over.Goals as goal

pub count-n-requires : goal.count-n-requires
count-n-requires c = (read_front c.args.configuration.now c.args.page.now c.requires).1

pub returns : goal.returns
returns c = record_placed c.args.configuration.now c.args.page.now c.requires c.args.fields.now c.count-n.ensures (omega arith) c.put.ensures c.put_names.ensures
