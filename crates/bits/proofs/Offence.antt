-- The search for the first refused byte of rows of four: where it stops, and what it says if it finds none. Assumes nothing.
use mathlib.Core.Path.{◌≡◌, refl, sym, ap, ◌∙◌}
use mathlib.Core.Bool.{Bool, true, false, not}
use mathlib.Core.List.{List}
use Prim.Native.Nat.{ℕ, zero, suc, ◌+◌, ◌<◌, ◌≤◌}
use native.Mathlib.Omega.{arith}
use lib.ListN.{get_or}
use borrow.Author.Tests.{ltb-true, lt-ltb, le-ltb}
use Rattle.bits.specs.Choice.{pick, all_below, first_below, refused_in, offence_in}
use Rattle.bits.specs.Places.{four_at, AlikeTo}
use Rattle.bits.proofs.Logic.{pick_yes, fails, below_all, first_at, first_none, first_passes, first_fails}

module _ (at g : ℕ → ℕ) (n : ℕ) where
  -- it stopped at row i
  pub refused_at : (i : ℕ) {k m : ℕ} → i < n → all_below (fails (refused_in g)) i ≡ true → k ≡ g i → k < 4 → m ≡ at i → m + k ≡ offence_in at g n
  refused_at i l a q b u =
      let j = first_at (refused_in g) n i l a (lt-ltb (g i) 4 (rw q at b)) in
      rw (q, u) (sym (rw (j, lt-ltb i n l)))

  -- it found nothing
  pub refused_none : {m : ℕ} → all_below (fails (refused_in g)) n ≡ true → m ≡ at n → m ≡ offence_in at g n
  refused_none a u =
      let j = first_none (refused_in g) n a in
      u ∙ sym (rw (j, le-ltb n n (omega arith)))

  -- what a page's own byte 1 is tested for, where that says that the rows end
  pub first_fine : (t : Bool) → (at n ≡ 1 → ⊥) → pick t (offence_in at g n) 1 ≡ at n → t ≡ true
  first_fine true l e = refl
  first_fine false l e = absurd (l (sym e))

  -- where it says that the rows end, no row is refused
  module _ (apart : (i : ℕ) → i < n → at i + 4 ≤ at n) (h : offence_in at g n ≡ at n) where
    none_first : first_below (refused_in g) n < n → ⊥
    none_first l =
        let i = first_below (refused_in g) n in
        let e : at i + g i ≡ at n = sym (pick_yes _ _ _ (lt-ltb i n l)) ∙ h in
        omega (arith, e, apart i l, ltb-true (g i) 4 (first_passes (refused_in g) n l))

    pub row_fine : (i : ℕ) → i < n → refused_in g i ≡ false
    row_fine i l = first_fails (refused_in g) n i (omega (arith, l, none_first))

-- rows that are refused alike
pub offence_alike : (at : ℕ → ℕ) {g h : ℕ → ℕ} (n : ℕ) → ((i : ℕ) → g i ≡ h i) → offence_in at g n ≡ offence_in at h n
offence_alike at n e = λ i. offence_in at (λ k. e k i) n

-- a search that stopped at k stops there too if nothing up to k is otherwise
pub stops_alike : (f g : ℕ → Bool) (n : ℕ) → first_below f n < n → ((k : ℕ) → k ≤ first_below f n → f k ≡ g k) → first_below g n ≡ first_below f n
stops_alike f g n l e =
    let k = first_below f n in
    first_at g n k l (below_all (fails g) k (λ j m. ap not (sym (e j (omega arith)) ∙ first_fails f n j m))) (sym (e k (omega arith)) ∙ first_passes f n l)

-- byte j of four, in lists that agree up to it
pub four_alike_to : (p q : List ℕ) (a j : ℕ) → j < 4 → AlikeTo (a + j) p q → get_or (four_at p a) j 0 ≡ get_or (four_at q a) j 0
four_alike_to p q a zero l h = h a (omega arith)
four_alike_to p q a (suc zero) l h = h (a + 1) (omega arith)
four_alike_to p q a (suc (suc zero)) l h = h (a + 2) (omega arith)
four_alike_to p q a (suc (suc (suc zero))) l h = h (a + 3) (omega arith)
four_alike_to p q a (suc (suc (suc (suc j)))) l h = absurd (omega arith)
