-- ON of a fan is read off its stored settings. Assumes nothing.
use mathlib.Core.Path.{◌≡◌, refl}
use mathlib.Core.List.{List}
use Prim.Native.Nat.{ℕ, ◌/◌}
use lib.Bits.{bit_and}
use lib.Dec.{eqb}
use lib.ListN.{get_or}
use mir.Val.{Fits}
use mir.Syntax.{w8}
use Rattle.bits.specs.Bits.{bit}
use Rattle.bits.proofs.Logic.{by_byte}
use Rattle.element.specs.declared.types.Kind.TheVariants.{Cooling}
use Rattle.element.specs.Types.{is_on, layout_of}
use Rattle.element.specs.Settings.{settings_of}

pub on_is : (e : List ℕ) → Fits w8 (get_or e 3 0) → eqb (bit_and (get_or e 3 0 / 32) 1) 1 ≡ is_on (settings_of Cooling e)
unfolding settings_of layout_of
on_is e h = by_byte (λ b. eqb (bit_and (b / 32) 1) 1) (λ b. bit 5 (bit_and b 96)) refl (get_or e 3 0) h
