-- The settings of all elements as one list: put into a shelf, and taken apart. Assumes nothing.
use mathlib.Core.Path.{◌≡◌, refl, sym, ap, ◌∙◌}
use mathlib.Core.List.{List}
use Prim.Native.Nat.{ℕ, ◌+◌, ◌*◌}
use native.Mathlib.Nat.{add-zero}
use native.Mathlib.Omega.{arith}
use lib.ListN.{length, take}
use lib.Seq.{take-length}
use Rattle.bits.specs.Places.{four_at, fours_put}
use Rattle.bits.specs.Rows.{joined}
use Rattle.bits.proofs.FoursPut.{fours_joined}
use Rattle.bits.proofs.Rows.{joined_same, fours}
use Rattle.shelf.specs.Limits.{element_place}
use Rattle.shelf.specs.Types.{elements_of}
use Rattle.shelf.specs.Elements.{settings_at}
use Rattle.shelf.specs.SettingsList.{settings_in, with_settings}

-- settings are the first bytes of an element, and there are four of them
pub settings_place : (j : ℕ) → element_place j ≡ element_place j + 0
settings_place j = sym (add-zero (element_place j))

pub settings_length : (s : List ℕ) (j : ℕ) → length (settings_at s j) ≡ 4
unfolding settings_at
settings_length s j = refl

-- settings that are put one after the other are put as their list
pub list_put : (f : ℕ → List ℕ) → ((j : ℕ) → length (f j) ≡ 4) → (s : List ℕ) → fours_put element_place f s (elements_of s) ≡ with_settings s (joined f (elements_of s))
unfolding with_settings
list_put f h s = fours_joined element_place f h s (elements_of s)

-- a list is the settings of its elements
pub list_joined : (w : List ℕ) (n : ℕ) → length w ≡ 4 * n → joined (settings_in w) n ≡ w
list_joined w n e =
    joined_same (settings_in w) (λ i. four_at w (0 + 4 * i)) n (λ i l. ap (four_at w) (let z : 4 * i ≡ 0 + 4 * i = omega arith in z))
    ∙ sym (fours w 0 n (omega arith))
    ∙ ap (λ (x : ℕ). take x w) (let z : 0 + 4 * n ≡ length w = omega arith in z)
    ∙ take-length w
