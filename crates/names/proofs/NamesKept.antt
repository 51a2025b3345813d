-- Shelves with the same front and the same bytes behind their elements have the same names. Assumes nothing.
use mathlib.Core.Path.{◌≡◌, ap, ◌∙◌}
use mathlib.Core.Bool.{true}
use mathlib.Core.List.{List}
use Prim.Native.Nat.{ℕ, ◌+◌, ◌≤◌}
use native.Mathlib.Omega.{arith}
use lib.ListN.{get_or}
use Rattle.bits.proofs.Logic.{first_same}
use Rattle.shelf.specs.Limits.{most_types, element_place, name_place}
use Rattle.shelf.specs.Types.{elements_of}
use Rattle.shelf_formed.specs.Formed.{well_formed}
use Rattle.shelf_formed.proofs.FrontOfShelf.{front, elements_alike, before_alike, type_alike}
use Rattle.page.specs.Slots.{start_of}
use Rattle.page.specs.Places.{own_slot}
use Rattle.names.specs.Name.{name_in, equal}
use Rattle.names.specs.Names.{name_of, element_name, overall_name}
use Rattle.names.specs.Found.{named, first_named, found_at, found}
use Rattle.names.proofs.NameBack.{name_same}

module _ (s x : List ℕ) (e : front x ≡ front s) where
  -- the slots of the elements are the same
  pub own_alike : (j : ℕ) → own_slot x j ≡ own_slot s j
  own_alike j = ap (λ (t : ℕ). j + t + 1) (type_alike s x e j)

  pub start_alike : (t : ℕ) → t ≤ most_types → start_of x t ≡ start_of s t
  unfolding start_of
  start_alike t l = ap (λ (n : ℕ). n + t) (before_alike s x e t l)

  module _ (same : (k : ℕ) → element_place (elements_of s) ≤ k → get_or x k 0 ≡ get_or s k 0) where
    pub names_kept : (i : ℕ) → name_of x i ≡ name_of s i
    unfolding name_of name_in
    names_kept i =
        rw (elements_alike s x e)
        (name_same x s (name_place (elements_of s) i) (name_place (elements_of s) i) (λ k l. same (name_place (elements_of s) i + k) (omega arith)))

    pub element_names_kept : (j : ℕ) → element_name x j ≡ element_name s j
    element_names_kept j = ap (name_of x) (own_alike j) ∙ names_kept (own_slot s j)

    pub overall_names_kept : (t : ℕ) → t ≤ most_types → overall_name x t ≡ overall_name s t
    overall_names_kept t l = ap (name_of x) (start_alike t l) ∙ names_kept (start_of s t)

    -- so each text finds what it found
    pub found_kept : well_formed s ≡ true → well_formed x ≡ true → (y : List ℕ) → found x y ≡ found s y
    unfolding found first_named named
    found_kept w v y =
        rw (w, v, elements_alike s x e)
        (ap (λ (k : ℕ). found_at k (elements_of s))
        (first_same (named x y) (named s y) (elements_of s) (λ j l. ap (λ (r : List ℕ). equal r y) (element_names_kept j))))
