-- Any bytes mean some name: whether a shelf is well formed is decided by the bytes before its names. Assumes nothing.
use mathlib.Core.Path.{◌≡◌, ap, ◌∙◌}
use mathlib.Core.Bool.{true}
use mathlib.Core.List.{List}
use Prim.Native.Nat.{ℕ, ◌+◌, ◌<◌}
use native.Mathlib.Omega.{arith}
use lib.ListN.{length, get_or}
use Rattle.bits.specs.Numbers.{big}
use Rattle.bits.specs.Places.{two_at, four_at}
use Rattle.element.specs.Types.{had, ordered}
use Rattle.element.specs.Settings.{settings_formed}
use Rattle.shelf.specs.Limits.{element_place}
use Rattle.shelf.specs.Types.{elements_of, kind_at}
use Rattle.shelf.specs.Elements.{settings_at, thresholds_at, reading_at, nominal_at, spare_at}
use Rattle.shelf_formed.specs.Formed.{well_formed}
use Rattle.shelf_formed.proofs.FormedShelf.{in_element}
use Rattle.shelf_formed.proofs.FrontOfShelf.{front}
use Rattle.shelf_formed.proofs.ElementsPut.{formed}

module _ (s x : List ℕ) (e : front x ≡ front s) (h : length x ≡ length s)
    (same : (k : ℕ) → k < element_place (elements_of s) → get_or x k 0 ≡ get_or s k 0) (w : well_formed s ≡ true) where
  four : (j q : ℕ) → j < elements_of s → q < 13 → four_at x (element_place j + q) ≡ four_at s (element_place j + q)
  four j q l m =
      rw (same (element_place j + q) (omega arith), same (element_place j + q + 1) (omega arith), same (element_place j + q + 2) (omega arith), same (element_place j + q + 3) (omega arith))

  settings : (j : ℕ) → j < elements_of s → settings_at x j ≡ settings_at s j
  unfolding settings_at
  settings j l =
      rw (same (element_place j) (omega arith), same (element_place j + 1) (omega arith), same (element_place j + 2) (omega arith), same (element_place j + 3) (omega arith))

  thresholds : (j : ℕ) → j < elements_of s → thresholds_at x j ≡ thresholds_at s j
  unfolding thresholds_at
  thresholds j l = four j 4 l (omega arith)

  reading : (j : ℕ) → j < elements_of s → reading_at x j ≡ reading_at s j
  unfolding reading_at
  reading j l = ap (λ (e : List ℕ). big (two_at e 0)) (four j 8 l (omega arith))

  nominal : (j : ℕ) → j < elements_of s → nominal_at x j ≡ nominal_at s j
  unfolding nominal_at
  nominal j l = ap (λ (e : List ℕ). big (two_at e 0)) (four j 10 l (omega arith))

  spare : (j : ℕ) → j < elements_of s → spare_at x j ≡ spare_at s j
  unfolding spare_at
  spare j l = four j 12 l (omega arith)

  pub names_free : well_formed x ≡ true
  names_free =
      formed s x e h reading nominal spare w
      (λ j l.
      let i = in_element s w j l in
      (ap (settings_formed (kind_at s j)) (settings j l) ∙ i.0, ap (had (kind_at s j)) (thresholds j l) ∙ i.1, ap (ordered (kind_at s j)) (thresholds j l) ∙ i.2))
