-- The stages of a call, one after the other: a refusal passes on at once, and an accepted stage leaves the answer to the next. Assumes nothing.
use Rattle.std.specs.Prelude.{Ok, Err}
use mathlib.Core.Path.{◌≡◌, refl, sym, ap, ap₂, ◌∙◌}
use Prim.Native.Nat.{ℕ}
use native.Mathlib.Omega.{arith}
use borrow.Author.Tests.{eq-eqb, ne_eqb}
use Rattle.bits.proofs.Logic.{pick_yes, pick_no}
use Rattle.refusals.specs.declared.Refusal.{Refusal}
use Rattle.refusals.specs.Outcomes.{next, of_page, not_allowed_at, offence_tested, page_next, telling, answer_of}
use Rattle.refusals.specs.Answers.{Answer, PageAnswer, Counted}

module _ (x rest : Answer) {a : Answer} (h : a ≡ x) where
  pub stopped : {r : Refusal} → a ≡ Err r → a ≡ next x rest
  stopped u = u ∙ sym (rw (← h, u))

  pub gone_on : {b : Answer} → a ≡ Ok tt → b ≡ rest → b ≡ next x rest
  gone_on u q = q ∙ sym (rw (← h, u))

-- of a page, behind stages that tell no offset
module _ (x : Answer) (rest : PageAnswer) {a : Answer} (h : a ≡ x) where
  pub page_stopped : {r : Refusal} {b : PageAnswer} → a ≡ Err r → b ≡ of_page a → b ≡ page_next x rest
  page_stopped u q = q ∙ ap of_page u ∙ sym (rw (← h, u))

  pub page_gone_on : {b : PageAnswer} → a ≡ Ok tt → b ≡ rest → b ≡ page_next x rest
  page_gone_on u q = q ∙ sym (rw (← h, u))

-- 6, and the stages behind it
module _ (k n : ℕ) (rest : Answer) where
  pub offended : {b : PageAnswer} → (k ≡ n → ⊥) → b ≡ not_allowed_at k → b ≡ offence_tested k n rest
  offended t q = q ∙ sym (pick_no _ _ _ (ne_eqb k n t))

  pub none_offended : {a : Answer} {b : PageAnswer} → k ≡ n → a ≡ rest → b ≡ of_page a → b ≡ offence_tested k n rest
  none_offended t h q = q ∙ ap of_page h ∙ sym (pick_yes _ _ _ (eq-eqb k n t))

-- tests that counted the slots
module _ (x : Answer) (m : ℕ) {t : Counted} (h : t ≡ telling x m) where
  pub slots_told : {n : ℕ} → t ≡ Ok n → (x ≡ Ok tt) × (n ≡ m)
  slots_told {n} u = go x (sym u ∙ h)
    where
      go : (y : Answer) → ◌≡◌ {A = Counted} (Ok n) (telling y m) → (y ≡ Ok tt) × (n ≡ m)
      go (Ok x) e = (refl, cc)
      go (Err r) e = let z : ◌≡◌ {A = ℕ} 0 1 = cc in absurd (omega arith)

  pub refusal_told : {r : Refusal} → t ≡ Err r → x ≡ Err r
  refusal_told {r} u = go x (sym u ∙ h)
    where
      go : (y : Answer) → Err r ≡ telling y m → y ≡ Err r
      go (Ok x) e = let z : ◌≡◌ {A = ℕ} 0 1 = cc in absurd (omega arith)
      go (Err q) e = cc

  pub answer_told : {a : Answer} {r : Refusal} → t ≡ Err r → a ≡ answer_of t → (a ≡ x) × (a ≡ Err r)
  answer_told u e = let q = e ∙ ap answer_of u in (q ∙ sym (refusal_told u), q)

  -- and the stage behind them, of as many slots
  module _ (rest : ℕ → Answer) where
    pub count_refused : {a : Answer} {r : Refusal} → t ≡ Err r → a ≡ answer_of t → a ≡ next x (rest m)
    count_refused u e = e ∙ ap answer_of u ∙ sym (rw (refusal_told u))

    pub count_passed : {n : ℕ} {b : Answer} → t ≡ Ok n → b ≡ rest n → b ≡ next x (rest m)
    count_passed u p = let e = slots_told u in p ∙ ap rest e.1 ∙ sym (rw e.0)

  -- of a page
  module _ (rest : ℕ → PageAnswer) where
    pub page_count_refused : {a : Answer} {r : Refusal} {b : PageAnswer} → t ≡ Err r → a ≡ answer_of t → b ≡ of_page a → b ≡ page_next x (rest m)
    page_count_refused u e q = let w = answer_told u e in page_stopped x (rest m) w.0 w.1 q

    pub page_count_passed : {n : ℕ} {b : PageAnswer} → t ≡ Ok n → b ≡ rest n → b ≡ page_next x (rest m)
    page_count_passed u p = let e = slots_told u in p ∙ ap rest e.1 ∙ sym (rw e.0)

  -- where the count is handed on
  module _ (rest : ℕ → Answer) where
    pub count_stopped : {r : Refusal} → t ≡ Err r → t ≡ telling (next x (rest m)) m
    count_stopped u = u ∙ sym (ap (λ (a : Answer). telling a m) (sym (count_refused rest u refl) ∙ ap answer_of u))

    pub count_gone_on : {n : ℕ} {b : Answer} {o : Counted} → t ≡ Ok n → b ≡ rest n → o ≡ telling b n → o ≡ telling (next x (rest m)) m
    count_gone_on u p q = q ∙ ap₂ telling (count_passed rest u p) (slots_told u).1
