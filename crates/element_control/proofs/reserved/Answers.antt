use mathlib.Core.Path.{ap, ◌∙◌}
use Prim.Native.Nat.{ℕ, ◌+◌}
use Rattle.bits.specs.Numbers.{bytes}
use Rattle.bits.specs.Masks.{first_outside}
use Rattle.element.proofs.TypeMasks.{reserved_outside}
use Rattle.element_control.proofs.reserved.Goals as goal

pub returns : goal.returns
returns c = let s = c.args in c.first_outside.ensures ∙ ap (λ (n : ℕ). first_outside (bytes 4 (2147483648 + n)) s.e) c.settings.ensures ∙ reserved_outside s.kind s.e
