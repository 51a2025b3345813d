use mathlib.Core.Path.{◌≡◌, ◌∙◌}
use Prim.Native.Nat.{◌+◌, ◌-◌}
use native.Mathlib.Omega.{arith}
use Rattle.bits.proofs.Texts.{same_slices}
use Rattle.bits.proofs.are_same.Goals as goal

pub returns : goal.returns
returns c = let q = c.args in
    let e : q.at + q.n - q.at ≡ q.n = omega arith in
    rw e at c.eq.ensures ∙ same_slices q.s.now q.at q.text.now q.n c.requires.n_in_bounds c.requires.n_in_bounds_2
