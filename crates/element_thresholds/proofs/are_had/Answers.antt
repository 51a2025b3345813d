use mathlib.Core.Path.{ap, ◌∙◌}
use Prim.Native.Nat.{ℕ}
use Rattle.bits.specs.Bits.{within}
use Rattle.bits.specs.Places.{four_at}
use Rattle.bits.specs.Numbers.{big}
use Rattle.bits.proofs.Masks.{known_four}
use Rattle.element.proofs.TypeMasks.{thresholds_within}
use borrow.Author.Rules.{rules}
use Rattle.element_thresholds.proofs.are_had.Goals as goal

pub returns : goal.returns
returns c = let s = c.args in
    let e = s.t in
    let h = known_four e (search rules) (search rules) (search rules) (search rules) in
    c.are_within.ensures ∙ ap (λ (n : ℕ). within n (big (four_at e 0))) c.thresholds.ensures ∙ thresholds_within s.kind e h
