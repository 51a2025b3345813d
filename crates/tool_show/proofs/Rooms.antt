-- What the sizes of a well-formed shelf are bounded by. Assumes nothing.
use mathlib.Core.Path.{◌≡◌}
use mathlib.Core.Bool.{true}
use mathlib.Core.List.{List}
use Prim.Native.Nat.{ℕ, ◌+◌, ◌<◌, ◌≤◌}
use native.Mathlib.Omega.{arith}
use borrow.Author.Tests.{leb-true}
use Rattle.shelf.specs.Limits.{most_types, most_elements}
use Rattle.shelf.specs.Types.{types_of, elements_of, before}
use Rattle.shelf.proofs.ElementsBefore.{before_up}
use Rattle.shelf_formed.specs.Formed.{well_formed}
use Rattle.shelf_formed.proofs.FormedShelf.{in_head, few_types, few_elements}
use Rattle.shelf_formed.proofs.ElementTypes.{front_formed_lem}

module _ (s : List ℕ) (w : well_formed s ≡ true) where
  pub types_few : types_of s ≤ most_types
  types_few = few_types s (front_formed_lem s w)

  pub elements_few : elements_of s ≤ most_elements
  elements_few = few_elements s (front_formed_lem s w)

  pub some_type : 0 < types_of s
  some_type = leb-true 1 (types_of s) (in_head s (front_formed_lem s w)).0

  -- the overall element of a type has as many names before its own as there are types and elements before it
  pub overall_below : (t : ℕ) → t < types_of s → before s t + t < types_of s + elements_of s
  unfolding elements_of
  overall_below t l = omega (arith, l, before_up s t most_types (omega (arith, l, types_few)))
