use mathlib.Core.Path.{ap, ◌∙◌}
use mathlib.Core.List.{List}
use Prim.Native.Nat.{ℕ}
use Rattle.bits.specs.Places.{put_four}
use Rattle.bits.specs.Rows.{put_bytes}
use Rattle.bits.proofs.Rows.{four_bytes}
use Rattle.bits.proofs.put_four.Goals as goal

pub returns : goal.returns
unfolding put_four
returns c = let q = c.args in c.copy.ensures ∙ ap (λ (r : List ℕ). put_bytes q.s.now q.at r) (four_bytes q.f 0)
