use native.Mathlib.Omega.{arith}
use Rattle.shelf_status.proofs.WorstCode.{none_seen, one_more, all_seen}
use Rattle.shelf_status.proofs.worst.Goals as goal

pub loop-j-init : goal.loop-j-init
loop-j-init c = let s = c.args in (omega arith, omega arith, none_seen s.shelf.now s.kind s.first)

pub loop-j-preserved : goal.loop-j-preserved
loop-j-preserved c = let s = c.args in let l = c.loop-j in (omega arith, omega arith, one_more s.shelf.now s.kind s.first l.j l.invariant.0 l.invariant.2 c.code_at.ensures c.worse-code.ensures)

pub returns : goal.returns
returns c = let s = c.args in let l = c.loop-j in all_seen s.shelf.now s.kind s.first l.j s.end (omega arith) l.invariant.2
