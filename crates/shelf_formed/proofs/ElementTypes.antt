-- The type of an element is the one among whose elements it stands, and a well-formed shelf serves it. Assumes nothing.
use mathlib.Core.Path.{◌≡◌}
use mathlib.Core.Bool.{true, ◌&&◌}
use mathlib.Core.List.{List}
use Prim.Native.Nat.{ℕ, ◌+◌, ◌<◌, ◌≤◌}
use native.Mathlib.Omega.{arith}
use lib.Dec.{eqb, ltb}
use lib.ListN.{length}
use borrow.Author.Tests.{ltb-true, ltb-false}
use Rattle.bits.proofs.Logic.{by_case, and_left}
use Rattle.bits.proofs.Ends.{part_start, part_end, part_there, part_is}
use Rattle.element.specs.Types.{served}
use Rattle.shelf.specs.Limits.{most_types, block_length}
use Rattle.shelf.specs.Types.{types_of, type_code, type_count, before, elements_of, type_of}
use Rattle.shelf.proofs.ElementsBefore.{before_none, before_next, before_up}
use Rattle.shelf_formed.specs.Formed.{elements_formed, front_formed, well_formed}
use Rattle.shelf_formed.proofs.FormedShelf.{in_type_lem, type_clear}

module _ (s : List ℕ) (j : ℕ) (h : j < elements_of s) where
  -- it stands in one of the types
  pub type_below : type_of s j < most_types
  unfolding type_of elements_of
  type_below = part_there (before s) j most_types (omega (arith, before_none s)) h

  -- before the end of its type
  pub type_end : j < before s (type_of s j + 1)
  unfolding type_of
  type_end = part_end (before s) j most_types type_below

  -- and not before its start
  pub type_start : before s (type_of s j) ≤ j
  unfolding type_of
  type_start = part_start (before s) j most_types (omega (arith, before_none s))

-- and it stands so in no other type
pub typed : (s : List ℕ) (t j : ℕ) → t < most_types → before s t ≤ j → j < before s (t + 1) → type_of s j ≡ t
unfolding type_of
typed s t j l a b = part_is (before s) j most_types (before_up s) t l a b

-- the front of a well-formed shelf is formed
pub front_formed_lem : (s : List ℕ) → well_formed s ≡ true → front_formed s ≡ true
unfolding well_formed
front_formed_lem s w =
    let l = eqb (length s) (block_length (types_of s) (elements_of s)) in
    and_left (front_formed s) l (and_left (front_formed s && l) (elements_formed s (elements_of s)) w)

module _ (s : List ℕ) (j : ℕ) (w : front_formed s ≡ true) (h : j < elements_of s) where
  -- a type past the last has no elements
  pub type_named : type_of s j < types_of s
  type_named =
      let t = type_of s j in
      by_case (ltb t (types_of s)) (ltb-true t (types_of s))
      (λ e.
      let z : type_count s t ≡ 0 = type_clear s w t 1 (ltb-false t (types_of s) e) (type_below s j h) (omega arith) in
      absurd (omega (arith, type_start s j h, type_end s j h, before_next s t, z)))

  pub type_served : served (type_code s (type_of s j)) ≡ true
  type_served = (in_type_lem s w (type_of s j) type_named).0
