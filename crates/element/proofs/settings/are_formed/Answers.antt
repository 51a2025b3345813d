use mathlib.Core.Path.{ap, ◌∙◌}
use mathlib.Core.Bool.{not, ◌&&◌, ◌||◌}
use Prim.Native.Nat.{ℕ}
use lib.Bits.{bit_and}
use lib.Dec.{eqb}
use lib.ListN.{get_or}
use Rattle.bits.specs.Bits.{within}
use Rattle.bits.specs.Places.{four_at}
use Rattle.bits.specs.Numbers.{big}
use Rattle.element.specs.declared.layout.Layout.{Layout}
use Rattle.element.specs.Types.{layout_of}
use Rattle.element.specs.Settings.{settings_formed}
use Rattle.bits.proofs.Masks.{known_four}
use Rattle.element.proofs.TypeMasks.{settings_within}
use borrow.Author.Rules.{rules}
use Rattle.element.proofs.settings.are_formed.Goals as goal

pub returns : goal.returns
unfolding settings_formed layout_of
returns c = let s = c.args in
    let e = s.e in
    let h = known_four e (search rules) (search rules) (search rules) (search rules) in
    let w = c.are_within.ensures ∙ ap (λ (n : ℕ). within n (big (four_at e 0))) c.settings.ensures ∙ settings_within s.kind e h in
    let v = ap (λ (l : Layout). l.speed) c.of-speed.ensures in
    λ i. w i && (eqb (v i) 0 || not (eqb (bit_and (get_or e 3 0) (v i)) 0))
