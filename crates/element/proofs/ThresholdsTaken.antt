-- Thresholds after a page: none is set that neither page nor shelf had, and zeros leave the stored ones. Assumes nothing.
use mathlib.Core.Path.{◌≡◌, refl}
use mathlib.Core.Bool.{Bool, true, false, ◌||◌}
use mathlib.Core.List.{List, [], ◌∷◌}
use Prim.Native.Nat.{ℕ}
use lib.Dec.{eqb}
use Rattle.bits.specs.Places.{four_at}
use Rattle.element.specs.Thresholds.{byte_taken, taken}

none_taken : (own overall stored : ℕ) → eqb own 0 ≡ true → eqb overall 0 ≡ true → eqb stored 0 ≡ true → eqb (byte_taken own overall stored) 0 ≡ true
none_taken own overall stored p q r = rw (p, q) r

-- what is taken from bytes that a type may have is such a byte
pub byte_taken_lem : (t : Bool) (own overall stored : ℕ) → t || eqb own 0 ≡ true → t || eqb overall 0 ≡ true → t || eqb stored 0 ≡ true
    → t || eqb (byte_taken own overall stored) 0 ≡ true
byte_taken_lem true own overall stored p q r = refl
byte_taken_lem false own overall stored p q r = none_taken own overall stored p q r

pub taken_none : {own overall : List ℕ} (stored : List ℕ) → own ≡ 0 ∷ 0 ∷ 0 ∷ 0 ∷ [] → overall ≡ 0 ∷ 0 ∷ 0 ∷ 0 ∷ [] → taken own overall stored ≡ four_at stored 0
unfolding taken
taken_none stored p q = rw (p, q)
