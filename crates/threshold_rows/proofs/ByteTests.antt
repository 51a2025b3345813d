-- Byte 1 of a page of thresholds, tested before the rest of it. Assumes nothing.
use Rattle.std.specs.Prelude.{Ok, Err}
use mathlib.Core.Path.{◌≡◌, refl, sym, ◌∙◌}
use mathlib.Core.Bool.{Bool, true, false}
use mathlib.Core.List.{List}
use Prim.Native.Nat.{ℕ}
use native.Mathlib.Omega.{arith}
use lib.Dec.{eqb}
use lib.ListN.{get_or}
use borrow.Author.Tests.{eqb-true, ne_eqb}
use Rattle.bits.specs.Choice.{pick}
use Rattle.bits.proofs.Logic.{pick_no}
use Rattle.refusals.specs.declared.PageRefusal.{PageRefusal}
use Rattle.refusals.specs.Outcomes.{not_allowed_at, offence_tested}
use Rattle.threshold_rows.specs.Rows.{byte_tested}
use Rattle.threshold_rows.proofs.FirstOffence.{byte_offence}
use Rattle.refusals.specs.Answers.{Answer, PageAnswer}

-- of a page that ends at n, where byte 1 is not told as its end
module _ (p : List ℕ) (k n : ℕ) (apart : 1 ≡ n → ⊥) where
  module _ (rest : Answer) {b : PageAnswer} (h : b ≡ byte_tested p) where
    pub byte_refused : {r : PageRefusal} → b ≡ Err r → b ≡ offence_tested (byte_offence p k) n rest
    byte_refused {r} u = go (eqb (get_or p 1 0) 0) h
      where
        go : (t : Bool) → b ≡ pick t (Ok tt) (not_allowed_at 1) → b ≡ offence_tested (pick t k 1) n rest
        go true e = let z : ◌≡◌ {A = ℕ} 0 1 = cc in absurd (omega arith)
        go false e = e ∙ sym (pick_no _ _ _ (ne_eqb 1 n apart))

    pub byte_passed : {o : PageAnswer} → b ≡ Ok tt → o ≡ offence_tested k n rest → o ≡ offence_tested (byte_offence p k) n rest
    byte_passed {o} u q = go (eqb (get_or p 1 0) 0) h
      where
        go : (t : Bool) → b ≡ pick t (Ok tt) (not_allowed_at 1) → o ≡ offence_tested (pick t k 1) n rest
        go true e = q
        go false e = let z : ◌≡◌ {A = ℕ} 0 1 = cc in absurd (omega arith)

  -- nothing offends
  pub byte_zero : byte_offence p k ≡ n → (get_or p 1 0 ≡ 0) × (k ≡ n)
  byte_zero e = go (eqb (get_or p 1 0) 0) refl e
    where
      go : (t : Bool) → eqb (get_or p 1 0) 0 ≡ t → pick t k 1 ≡ n → (get_or p 1 0 ≡ 0) × (k ≡ n)
      go true u q = (eqb-true (get_or p 1 0) 0 u, q)
      go false u q = absurd (apart q)
