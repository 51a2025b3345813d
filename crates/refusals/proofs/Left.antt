-- What the calls leave that write a page, or hand a record back: the tests, then the page or the record. Assumes nothing.
use Rattle.std.specs.Prelude.{Ok, Err}
use mathlib.Core.Path.{◌≡◌, refl, sym, ap, ◌∙◌}
use mathlib.Core.Bool.{Bool, true, false}
use mathlib.Core.List.{List, ◌++◌}
use Prim.Native.Nat.{ℕ, ◌≤◌}
use native.Mathlib.Omega.{arith}
use lib.Dec.{leb}
use lib.ListN.{length, drop}
use borrow.Author.Tests.{leb-true}
use Rattle.bits.specs.Choice.{pick}
use Rattle.refusals.specs.declared.Refusal.{Refusal}
use Rattle.refusals.specs.declared.Refusal.TheVariants.{OutputTooShort}
use Rattle.std.specs.Result.{result_and}
use Rattle.refusals.proofs.Stages.{refusal_told}
use Rattle.refusals.specs.Outcomes.{fitted, telling, placed, WritesPage, HandsBack}
use Rattle.refusals.specs.Answers.{Answer, PageAnswer, Counted}

-- what is said to be written fits
pub fits_bytes : (k room : ℕ) {m : ℕ} → fitted k room ≡ Ok m → (k ≤ room) × (m ≡ k)
fits_bytes k room {m} e = go (leb k room) refl e
  where
    go : (t : Bool) → leb k room ≡ t → pick t (Ok k) (Err OutputTooShort) ≡ Ok m → (k ≤ room) × (m ≡ k)
    go true l q = (leb-true k room l, let r : m ≡ k = cc in r)
    go false l q = let z : ◌≡◌ {A = ℕ} 0 1 = cc in absurd (omega arith)

pub fits_not : (k room : ℕ) {r : Refusal} → fitted k room ≡ Err r → (leb k room ≡ false) × (r ≡ OutputTooShort)
fits_not k room {r} e = go (leb k room) e
  where
    go : (t : Bool) → pick t (Ok k) (Err OutputTooShort) ≡ Err r → (t ≡ false) × (r ≡ OutputTooShort)
    go true q = let z : ◌≡◌ {A = ℕ} 0 1 = cc in absurd (omega arith)
    go false q = (refl, cc)

module _ (a : PageAnswer) (told old : List ℕ) {b : PageAnswer} (h : b ≡ a) where
  pub read_handed : {o : List ℕ} → b ≡ Ok tt → o ≡ placed told old → HandsBack a told old b o
  read_handed u e = (h, e ∙ sym (rw u))

-- the tests counted the slots on the way
module _ (a : Answer) (m : ℕ) (page out : List ℕ) {t : Counted} (h : t ≡ telling a m) where
  pub count_unwritten : {r : Refusal} {w : Counted} → t ≡ Err r → w ≡ result_and t (Ok 0) → WritesPage a page out w out
  count_unwritten {r} {w} u e =
      let q : w ≡ Err r = e ∙ ap (λ (x : Counted). result_and x (Ok 0)) u in
      (q ∙ sym (rw (refusal_told a m h u)), rw q)

module _ (a : Answer) (page out : List ℕ) {b : Answer} (h : b ≡ a) where
  pub write_refused : {r : Refusal} {w : Counted} → b ≡ Err r → w ≡ telling b 0 → WritesPage a page out w out
  write_refused {r} {w} u e = let q : w ≡ Err r = e ∙ ap (λ (x : Answer). telling x 0) u in (q ∙ sym (rw (← h, u)), rw q)

  module _ (u : b ≡ Ok tt) {k : ℕ} {w : Counted} (l : k ≡ length page) (q : w ≡ fitted k (length out)) where
    pub write_room : {m : ℕ} → w ≡ Ok m → k ≤ length out
    write_room e = (fits_bytes k (length out) (sym q ∙ e)).0

    written_as : w ≡ fitted (length page) (length out)
    written_as = q ∙ ap (λ (n : ℕ). fitted n (length out)) l

    pub write_short : {r : Refusal} → w ≡ Err r → WritesPage a page out w out
    write_short e = (written_as ∙ sym (rw (← h, u)), rw e)

    pub write_put : {m : ℕ} {o : List ℕ} → w ≡ Ok m → o ≡ placed page out → WritesPage a page out w o
    write_put {m} e p =
        let n : m ≡ length page = (fits_bytes k (length out) (sym q ∙ e)).1 ∙ l in
        (written_as ∙ sym (rw (← h, u)), p ∙ sym (rw e (ap (λ (x : ℕ). page ++ drop x out) n)))
