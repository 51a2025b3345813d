-- Thresholds of an element of any type. Assumes nothing.
use mathlib.Core.Path.{◌≡◌, refl}
use mathlib.Core.Bool.{Bool, true, false, ◌||◌}
use mathlib.Core.List.{List, [], ◌∷◌}
use Prim.Native.Nat.{ℕ}
use lib.Dec.{ltb}
use lib.ListN.{get_or}
use Rattle.bits.proofs.Logic.{and_both, and_four}
use Rattle.element.specs.declared.types.Kind.{Kind}
use Rattle.element.specs.declared.types.LowOrder.{LowOrder}
use Rattle.element.specs.declared.types.LowOrder.TheVariants.{Any, WarningAbove, CriticalAbove}
use Rattle.element.specs.Thresholds.{low_ordered, byte_had, taken}
use Rattle.element.specs.Types.{rules_of, had, ordered}
use Rattle.element.proofs.ThresholdsTaken.{byte_taken_lem}

any_or : (t : Bool) → t || true ≡ true
any_or true = refl
any_or false = refl

zeros_low : (o : LowOrder) → low_ordered o (0 ∷ 0 ∷ 0 ∷ 0 ∷ []) ≡ true
zeros_low Any = refl
zeros_low WarningAbove = refl
zeros_low CriticalAbove = refl

module _ (k : Kind) where
  abbrev n : ℕ
  n = (rules_of k).thresholds

  pub taken_had : (own overall stored : List ℕ) → had k own ≡ true → had k overall ≡ true → had k stored ≡ true → had k (taken own overall stored) ≡ true
  unfolding had taken
  taken_had a b c p q r =
      let x = and_four (byte_had n a 0) (byte_had n a 1) (byte_had n a 2) (byte_had n a 3) p in
      let y = and_four (byte_had n b 0) (byte_had n b 1) (byte_had n b 2) (byte_had n b 3) q in
      let z = and_four (byte_had n c 0) (byte_had n c 1) (byte_had n c 2) (byte_had n c 3) r in
      and_both
      (and_both
      (and_both (byte_taken_lem (ltb 0 n) (get_or a 0 0) (get_or b 0 0) (get_or c 0 0) x.0 y.0 z.0) (byte_taken_lem (ltb 1 n) (get_or a 1 0) (get_or b 1 0) (get_or c 1 0) x.1 y.1 z.1))
      (byte_taken_lem (ltb 2 n) (get_or a 2 0) (get_or b 2 0) (get_or c 2 0) x.2 y.2 z.2))
      (byte_taken_lem (ltb 3 n) (get_or a 3 0) (get_or b 3 0) (get_or c 3 0) x.3 y.3 z.3)

  -- four zeros pass every test
  pub zeros_had : had k (0 ∷ 0 ∷ 0 ∷ 0 ∷ []) ≡ true
  unfolding had
  zeros_had = and_both (and_both (and_both (any_or (ltb 0 n)) (any_or (ltb 1 n))) (any_or (ltb 2 n))) (any_or (ltb 3 n))

  pub zeros_ordered : ordered k (0 ∷ 0 ∷ 0 ∷ 0 ∷ []) ≡ true
  unfolding ordered
  zeros_ordered = zeros_low (rules_of k).low_order
