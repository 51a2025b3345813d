-- What an answer says of its tests: where it accepts, each of them held. Assumes nothing.
use Rattle.std.specs.Prelude.{Ok, Err}
use mathlib.Core.Path.{◌≡◌, refl}
use mathlib.Core.Bool.{Bool, true, false}
use Prim.Native.Nat.{ℕ}
use native.Mathlib.Omega.{arith}
use lib.Dec.{eqb}
use borrow.Author.Tests.{eqb-true}
use Rattle.bits.specs.Choice.{pick}
use Rattle.refusals.specs.declared.Refusal.{Refusal}
use Rattle.refusals.specs.Outcomes.{unless, next, of_page, not_allowed_at, offence_tested, page_next, accepts}
use Rattle.refusals.specs.Answers.{Answer, PageAnswer}

pub held : (t : Bool) (r : Refusal) (rest : Answer) → unless t r rest ≡ Ok tt → (t ≡ true) × (rest ≡ Ok tt)
held true r rest e = (refl, e)
held false r rest e = let z : ◌≡◌ {A = ℕ} 0 1 = cc in absurd (omega arith)

pub not_held : (t : Bool) (q : Refusal) {a : Answer} {r : Refusal} → a ≡ unless t q (Ok tt) → a ≡ Err r → (t ≡ false) × (r ≡ q)
not_held true q h u = let z : ◌≡◌ {A = ℕ} 0 1 = cc in absurd (omega arith)
not_held false q h u = (refl, cc)

pub held_both : (a rest : Answer) → next a rest ≡ Ok tt → (a ≡ Ok tt) × (rest ≡ Ok tt)
held_both (Ok x) rest e = (refl, e)
held_both (Err r) rest e = let z : ◌≡◌ {A = ℕ} 0 1 = cc in absurd (omega arith)

-- and of a page: the tests before 6, the search for the first offending byte of n, the tests after it
pub held_page : (a : Answer) (rest : PageAnswer) → page_next a rest ≡ Ok tt → (a ≡ Ok tt) × (rest ≡ Ok tt)
held_page (Ok x) rest e = (refl, e)
held_page (Err r) rest e = let z : ◌≡◌ {A = ℕ} 0 1 = cc in absurd (omega arith)

pub held_offence : (k n : ℕ) (rest : Answer) → offence_tested k n rest ≡ Ok tt → (k ≡ n) × (rest ≡ Ok tt)
held_offence k n rest e = go (eqb k n) refl rest e
  where
    go : (t : Bool) → eqb k n ≡ t → (b : Answer) → pick t (of_page b) (not_allowed_at k) ≡ Ok tt → (k ≡ n) × (b ≡ Ok tt)
    go true q (Ok x) h = (eqb-true k n q, refl)
    go true q (Err r) h = let z : ◌≡◌ {A = ℕ} 0 1 = cc in absurd (omega arith)
    go false q b h = let z : ◌≡◌ {A = ℕ} 0 1 = cc in absurd (omega arith)

pub accepted : (a : PageAnswer) → accepts a ≡ true → a ≡ Ok tt
accepted (Ok x) e = refl
accepted (Err r) e = let z : ◌≡◌ {A = ℕ} 0 1 = cc in absurd (omega arith)
