-- Four bytes that the library compares as arrays are alike. Assumes nothing.
use mathlib.Core.Path.{◌≡◌, refl}
use mathlib.Core.Bool.{Bool, true, false, ◌&&◌}
use mathlib.Core.List.{List}
use Prim.Native.Nat.{ℕ}
use lib.Dec.{eqb}
use lib.ListN.{length, get_or}
use Rattle.std.specs.Cmp.Lexicographic.{pointwise}
use Rattle.bits.proofs.Rows.{as_four}
use Rattle.build_element.specs.Wishes.{alike}

each_and_all : (p q r s : Bool) → (p && (q && (r && (s && true)))) ≡ (((p && q) && r) && s)
each_and_all false q r s = refl
each_and_all true false r s = refl
each_and_all true true false s = refl
each_and_all true true true false = refl
each_and_all true true true true = refl

pub compared : (a b : List ℕ) → length a ≡ 4 → length b ≡ 4 → pointwise eqb a b ≡ alike a b
unfolding alike
compared a b l m = rw (as_four a l, as_four b m)
    (each_and_all (eqb (get_or a 0 0) (get_or b 0 0)) (eqb (get_or a 1 0) (get_or b 1 0)) (eqb (get_or a 2 0) (get_or b 2 0)) (eqb (get_or a 3 0) (get_or b 3 0)))
