-- Storing one element's settings or thresholds: they are read back, and every other byte stays. Assumes nothing.
use Rattle.std.specs.Prelude.{Some}
use mathlib.Core.Path.{◌≡◌}
use mathlib.Core.Bool.{true, ◌&&◌}
use mathlib.Core.List.{List, [], ◌∷◌}
use Prim.Native.Nat.{ℕ, ◌+◌, ◌<◌, ◌≤◌}
use native.Mathlib.Omega.{arith}
use lib.Dec.{eqb}
use lib.ListN.{length, get_or}
use borrow.Author.Tests.{eqb-true}
use Rattle.bits.proofs.Logic.{and_left, and_right}
use Rattle.bits.proofs.FourPut.{Outside, length_put, put_other, put_back}
use Rattle.shelf.specs.Limits.{most_types, element_place, block_length}
use Rattle.shelf.specs.Types.{types_of, elements_of}
use Rattle.shelf.specs.Elements.{settings_at, thresholds_at, settings_put, thresholds_put}
use Rattle.shelf_formed.specs.declared.Sizes.{Sizes}
use Rattle.shelf_formed.specs.Formed.{front_formed, HasFront, elements_formed, well_formed, opened}
use Rattle.shelf_formed.proofs.Opening.{formed_sizes}
use Rattle.shelf_formed.proofs.FormedShelf.{few_types}
use Rattle.shelf_formed.proofs.ElementTypes.{front_formed_lem}

-- a well-formed shelf has just the bytes that its elements and names need
pub length-formed : (s : List ℕ) → well_formed s ≡ true → length s ≡ block_length (types_of s) (elements_of s)
unfolding well_formed
length-formed s h =
    let l = eqb (length s) (block_length (types_of s) (elements_of s)) in
    eqb-true (length s) (block_length (types_of s) (elements_of s)) (and_right (front_formed s) l (and_left (front_formed s && l) (elements_formed s (elements_of s)) h))

-- all types are there
pub shelf_there : (s : List ℕ) → well_formed s ≡ true → HasFront s
shelf_there s h = (front_formed_lem s h, omega (arith, length-formed s h))

-- what is opened has its types and all its elements
pub opened_there : (s : List ℕ) {z : Sizes} → opened s ≡ Some z → (z.types ≤ most_types) × (element_place z.elements ≤ length s)
opened_there s e =
    let q = formed_sizes s e in
    (omega (arith, q.1, few_types s (front_formed_lem s q.0)), omega (arith, q.2, length-formed s q.0))

-- so all sixteen bytes of each element stand in the block
pub room : (s : List ℕ) (j : ℕ) → well_formed s ≡ true → j < elements_of s → element_place j + 16 ≤ length s
room s j h l = let e = length-formed s h in omega arith

module _ (s : List ℕ) (j : ℕ) where
  pub settings_length : (e : List ℕ) → length (settings_put s j e) ≡ length s
  unfolding settings_put
  settings_length e = length_put s (element_place j) e

  pub thresholds_length : (t : List ℕ) → length (thresholds_put s j t) ≡ length s
  unfolding thresholds_put
  thresholds_length t = length_put s (element_place j + 4) t

  pub settings_elsewhere : (e : List ℕ) (i : ℕ) → Outside i (element_place j) → get_or (settings_put s j e) i 0 ≡ get_or s i 0
  unfolding settings_put
  settings_elsewhere e i h = put_other s (element_place j) e i h

  pub thresholds_elsewhere : (t : List ℕ) (i : ℕ) → Outside i (element_place j + 4) → get_or (thresholds_put s j t) i 0 ≡ get_or s i 0
  unfolding thresholds_put
  thresholds_elsewhere t i h = put_other s (element_place j + 4) t i h

  module _ (h : well_formed s ≡ true) (l : j < elements_of s) (a b c d : ℕ) where
    pub settings_read_back : settings_at (settings_put s j (a ∷ b ∷ c ∷ d ∷ [])) j ≡ a ∷ b ∷ c ∷ d ∷ []
    unfolding settings_at settings_put
    settings_read_back = put_back s (element_place j) a b c d (omega (arith, room s j h l))

    pub thresholds_read_back : thresholds_at (thresholds_put s j (a ∷ b ∷ c ∷ d ∷ [])) j ≡ a ∷ b ∷ c ∷ d ∷ []
    unfolding thresholds_at thresholds_put
    thresholds_read_back = put_back s (element_place j + 4) a b c d (omega (arith, room s j h l))
