-- The tests of slots, one after the other. Assumes nothing.
use Rattle.std.specs.Prelude.{Result, Ok, Err}
use Rattle.std.specs.Result.{result_and}
use mathlib.Core.Path.{◌≡◌, refl, sym, ap, ◌∙◌}
use mathlib.Core.Bool.{Bool, true, false, ◌&&◌}
use mathlib.Core.Logic.{⊎_elim}
use Prim.Native.Nat.{ℕ, zero, suc, ◌+◌, ◌<◌}
use native.Mathlib.Nat.{eq-or-lt_of_le, le_of_suc-le-suc, not-suc-le-zero}
use native.Mathlib.Numerals.{add-one}
use native.Mathlib.Omega.{arith}
use lib.Dec.{ltb}
use borrow.Author.Tests.{lt-ltb, le-ltb, ltb-true, ne_eqb, eq-eqb}
use Rattle.bits.specs.Choice.{pick, all_below, first_below, refused_in, offence_in}
use Rattle.bits.proofs.Logic.{pick_yes, pick_no, by_case, first_passes}
use Rattle.refusals.specs.declared.Refusal.{Refusal}
use Rattle.refusals.specs.declared.PageRefusal.{PageRefusal}
use Rattle.refusals.specs.Answers.{Answer, PageAnswer}
use Rattle.refusals.specs.Outcomes.{unless, not_allowed_at, offence_tested}
use Rattle.page.specs.Slots.{slot_place}
use Rattle.page.specs.Walk.{first_refusal, slot_tested}

-- a walk that stops at the first
module _ {E : Type 0} (f : ℕ → Result (Unit {0}) E) where
  pub passed_next : (i : ℕ) → first_refusal f i ≡ Ok tt → f i ≡ Ok tt → first_refusal f (i + 1) ≡ Ok tt
  passed_next i p q = rw (add-one, p, q)

  pub refused_there : (n i : ℕ) {e : E} → i < n → first_refusal f i ≡ Ok tt → f i ≡ Err e → first_refusal f n ≡ Err e
  refused_there zero i l p q = absurd (not-suc-le-zero l)
  refused_there (suc n) i {e} l p q = ⊎_elim last (λ (m : i < n). before (refused_there n i m p q)) (eq-or-lt_of_le (le_of_suc-le-suc l))
    where
      last : i ≡ n → result_and (first_refusal f n) (f n) ≡ Err e
      last s = rw (← s, p, q)

      before : first_refusal f n ≡ Err e → result_and (first_refusal f n) (f n) ≡ Err e
      before h = rw h

-- of tests that all refuse alike
pub all_tested : (h : ℕ → Bool) (r : Refusal) (n : ℕ) → first_refusal (λ i. unless (h i) r (Ok tt)) n ≡ unless (all_below h n) r (Ok tt)
all_tested h r zero = refl
all_tested h r (suc n) = ap (λ (a : Answer). result_and a (unless (h n) r (Ok tt))) (all_tested h r n) ∙ go (all_below h n) (h n)
  where
    go : (a b : Bool) → result_and (unless a r (Ok tt)) (unless b r (Ok tt)) ≡ unless (a && b) r (Ok tt)
    go true true = refl
    go true false = refl
    go false b = refl

-- of tests that tell the first byte refused
module _ (g : ℕ → ℕ) where
  abbrev told : ℕ → ℕ → PageAnswer
  told i n = pick (ltb i n) (not_allowed_at (slot_place i + g i)) (Ok tt)

  first_told : (n : ℕ) → first_refusal (λ i. slot_tested i (g i)) n ≡ told (first_below (refused_in g) n) n
  first_told zero = refl
  first_told (suc n) =
      ap (λ (a : PageAnswer). result_and a (slot_tested n (g n))) (first_told n)
      ∙ go (first_below (refused_in g) n) (ltb (first_below (refused_in g) n) n) refl (ltb (g n) 4) refl
    where
      go : (i : ℕ) (t : Bool) → ltb i n ≡ t → (b : Bool) → ltb (g n) 4 ≡ b
          → result_and (pick t (not_allowed_at (slot_place i + g i)) (Ok tt)) (pick b (not_allowed_at (slot_place n + g n)) (Ok tt)) ≡ told (pick t i (pick b n (suc n))) (suc n)
      go i true u b v = sym (pick_yes _ _ _ (lt-ltb i (suc n) (let l = ltb-true i n u in omega arith)))
      go i false u true v = sym (pick_yes _ _ _ (lt-ltb n (suc n) (omega arith)))
      go i false u false v = sym (pick_no _ _ _ (le-ltb (suc n) (suc n) (omega arith)))

  pub offence_told : (n : ℕ) → first_refusal (λ i. slot_tested i (g i)) n ≡ offence_tested (offence_in slot_place g n) (slot_place n) (Ok tt)
  offence_told n = first_told n ∙ by_case (ltb i n) found missed
    where
      i : ℕ
      i = first_below (refused_in g) n

      found : ltb i n ≡ true → told i n ≡ offence_tested (offence_in slot_place g n) (slot_place n) (Ok tt)
      found t =
          let l = ltb-true i n t in
          let r = ltb-true (g i) 4 (first_passes (refused_in g) n l) in
          let k : offence_in slot_place g n ≡ slot_place i + g i = pick_yes _ _ _ t in
          pick_yes _ _ _ t ∙ sym (ap (λ (m : ℕ). offence_tested m (slot_place n) (Ok tt)) k ∙ pick_no _ _ _ (ne_eqb (slot_place i + g i) (slot_place n) (λ q. omega (arith, l, r, q))))

      missed : ltb i n ≡ false → told i n ≡ offence_tested (offence_in slot_place g n) (slot_place n) (Ok tt)
      missed t = pick_no _ _ _ t ∙ sym (ap (λ (m : ℕ). offence_tested m (slot_place n) (Ok tt)) (pick_no _ _ _ t) ∙ pick_yes _ _ _ (eq-eqb (slot_place n) (slot_place n) refl))

-- behind the test of byte 1, which tells it
module _ (own : Bool) (g : ℕ → ℕ) (n : ℕ) {b : PageAnswer} (h : b ≡ pick own (Ok tt) (not_allowed_at 1)) where
  abbrev searched : PageAnswer
  searched = offence_tested (pick own (offence_in slot_place g n) 1) (slot_place n) (Ok tt)

  pub byte_refused : {r : PageRefusal} → b ≡ Err r → b ≡ searched
  byte_refused {r} u = by_case own allowed refused
    where
      allowed : own ≡ true → b ≡ searched
      allowed t =
          let e : ◌≡◌ {A = PageAnswer} (Err r) (Ok tt) = sym u ∙ h ∙ pick_yes _ _ _ t in
          let z : ◌≡◌ {A = ℕ} 0 1 = cc in
          absurd (omega arith)

      refused : own ≡ false → b ≡ searched
      refused t =
          h ∙ pick_no _ _ _ t
          ∙ sym (ap (λ (m : ℕ). offence_tested m (slot_place n) (Ok tt)) (pick_no _ _ _ t) ∙ pick_no _ _ _ (ne_eqb 1 (slot_place n) (λ q. omega (arith, q))))

  pub byte_passed : {a : PageAnswer} → b ≡ Ok tt → a ≡ first_refusal (λ i. slot_tested i (g i)) n → a ≡ searched
  byte_passed {a} u q = by_case own allowed refused
    where
      allowed : own ≡ true → a ≡ searched
      allowed t = q ∙ offence_told g n ∙ sym (ap (λ (m : ℕ). offence_tested m (slot_place n) (Ok tt)) (pick_yes _ _ _ t))

      refused : own ≡ false → a ≡ searched
      refused t =
          let e : ◌≡◌ {A = PageAnswer} (Ok tt) (not_allowed_at 1) = sym u ∙ h ∙ pick_no _ _ _ t in
          let z : ◌≡◌ {A = ℕ} 0 1 = cc in
          absurd (omega arith)
