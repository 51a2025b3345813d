use mathlib.Core.Path.{sym}
use borrow.Author.Tests.{le-leb, lt-leb}
use Rattle.bits.proofs.Logic.{pick_yes, pick_no}
use Rattle.refusals.proofs.fit.Goals as goal

pub returns-then-bytes-room : goal.returns-then-bytes-room
returns-then-bytes-room c = let s = c.args in sym (pick_yes _ _ _ (le-leb s.bytes s.room c.if-bytes-room.true))

pub returns-else-bytes-room : goal.returns-else-bytes-room
returns-else-bytes-room c = let s = c.args in sym (pick_no _ _ _ (lt-leb s.bytes s.room c.if-bytes-room.false))
