-- No two elements of a shelf, overall or individual, share a slot. Assumes nothing.
use mathlib.Core.Path.{◌≡◌}
use mathlib.Core.List.{List}
use Prim.Native.Nat.{ℕ, ◌+◌, ◌<◌, ◌≤◌}
use native.Mathlib.Omega.{arith}
use lib.Dec.{ltb}
use borrow.Author.Tests.{ltb-true, ltb-false}
use Rattle.bits.proofs.Logic.{by_case}
use Rattle.shelf.specs.Types.{elements_of, type_of}
use Rattle.shelf.proofs.ElementsBefore.{before_up}
use Rattle.shelf_formed.proofs.ElementTypes.{type_start, type_end}
use Rattle.page.specs.Slots.{start_of}
use Rattle.page.specs.Places.{own_slot}

module _ (s : List ℕ) where
  -- a later element is of the same type or a later one
  type_up : (i j : ℕ) → i < elements_of s → j < elements_of s → i < j → type_of s i ≤ type_of s j
  type_up i j l m b =
      by_case (ltb (type_of s j) (type_of s i))
      (λ t.
      let u = before_up s (type_of s j + 1) (type_of s i) (omega (arith, ltb-true (type_of s j) (type_of s i) t)) in
      absurd (omega (arith, type_end s j m, type_start s i l)))
      (ltb-false (type_of s j) (type_of s i))

  pub own_apart : (i j : ℕ) → i < elements_of s → j < elements_of s → (i ≡ j → ⊥) → own_slot s i ≡ own_slot s j → ⊥
  own_apart i j l m d e =
      by_case (ltb i j)
      (λ t. let b = ltb-true i j t in omega (arith, type_up i j l m b))
      (λ t. let b = ltb-false i j t in let c : j < i = omega (arith, d) in omega (arith, type_up j i m l c))

  pub start_apart : (t u : ℕ) → (t ≡ u → ⊥) → start_of s t ≡ start_of s u → ⊥
  unfolding start_of
  start_apart t u d e =
      by_case (ltb t u)
      (λ c. let b = ltb-true t u c in omega (arith, before_up s t u (omega arith)))
      (λ c. let b = ltb-false t u c in omega (arith, d, before_up s u t (omega arith)))

  pub own_not_start : (j t : ℕ) → j < elements_of s → own_slot s j ≡ start_of s t → ⊥
  unfolding start_of
  own_not_start j t l e =
      by_case (ltb (type_of s j) t)
      (λ c. let b = ltb-true (type_of s j) t c in omega (arith, type_end s j l, before_up s (type_of s j + 1) t (omega arith)))
      (λ c. let b = ltb-false (type_of s j) t c in omega (arith, type_start s j l, before_up s t (type_of s j) (omega arith)))
