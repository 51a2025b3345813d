use mathlib.Core.Path.{◌≡◌}
use lib.ListN.{length}
use Rattle.status_record.proofs.EntryRows.{entry_put_lem}
use borrow.Author.Rules.{rules}
use Rattle.status_record.proofs.put_entry.Goals as goal

pub returns : goal.returns
returns c = let s = c.args in let l : length s.x ≡ 16 = search rules in entry_put_lem s.fields.now s.i s.x l c.entry_place.ensures c.copy.ensures
