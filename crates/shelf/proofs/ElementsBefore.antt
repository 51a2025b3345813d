-- How many elements stand before a type, one type after the other. Assumes nothing.
use mathlib.Core.Path.{◌≡◌, refl, sym}
use mathlib.Core.List.{List}
use Prim.Native.Nat.{ℕ, ◌+◌, ◌*◌, ◌≤◌}
use native.Mathlib.Omega.{arith}
use lib.ListN.{get_or}
use mir.Val.{Fits}
use mir.Syntax.{w8}
use Rattle.bits.proofs.Sums.{sum_next, sum_bound, sum_up}
use Rattle.shelf.specs.Limits.{type_place}
use Rattle.shelf.specs.Types.{type_count, before}

pub before_none : (s : List ℕ) → before s 0 ≡ 0
unfolding before
before_none s = refl

pub before_next : (s : List ℕ) (t : ℕ) → before s (t + 1) ≡ before s t + type_count s t
unfolding before
before_next s t = sym (sum_next (type_count s) t refl refl)

pub before_up : (s : List ℕ) (t m : ℕ) → t ≤ m → before s t ≤ before s m
unfolding before
before_up s t m l = sum_up (type_count s) t m l

-- however the counts stand, a block of bytes has few elements
pub before_small : (s : List ℕ) → ((i : ℕ) → Fits w8 (get_or s i 0)) → (t : ℕ) → before s t ≤ 255 * t
unfolding before
before_small s h t = sum_bound (type_count s) 255 t (λ i l. let b = (h (type_place i + 1)).fits in omega arith)

-- the end of type t, from the end of the type before it and the count that was read
pub ended : (s : List ℕ) (t : ℕ) {e n : ℕ} → e ≡ before s t → n ≡ type_count s t → e + n ≡ before s (t + 1)
unfolding before
ended s t p q = sum_next (type_count s) t p q
