-- Laws of tests: two that hold together, one at every number below a bound, two that agree on every byte. Assumes nothing.
use mathlib.Core.Path.{◌≡◌, refl, sym, ap, ap₂, ◌∙◌}
use mathlib.Core.Bool.{Bool, true, false, not, ◌&&◌, and-false}
use mathlib.Core.Logic.{⊎_elim}
use Prim.Native.Nat.{ℕ, zero, suc, ◌+◌, ◌<◌, ◌≤◌}
use native.Mathlib.Nat.{not-suc-le-zero, le_of_suc-le-suc, eq-or-lt_of_le}
use native.Mathlib.Numerals.{add-one}
use native.Mathlib.Omega.{arith}
use borrow.Author.Tests.{not-true, le-ltb, lt-ltb, ltb-true, ltb-false}
use mir.Val.{Fits}
use mir.Syntax.{w8}
use lib.Dec.{ltb}
use Rattle.bits.specs.Choice.{pick, first_of, first_of_four, all_below, first_below}

pub never : {A : Type 0} → true ≡ false → A
never e = let z : ◌≡◌ {A = ℕ} 0 1 = cc in absurd (omega arith)

pub by_case : {A : Type 0} (t : Bool) → (t ≡ true → A) → (t ≡ false → A) → A
by_case true f g = f refl
by_case false f g = g refl

pub pick_yes : {A : Type 0} (t : Bool) (a b : A) → t ≡ true → pick t a b ≡ a
pick_yes true a b e = refl
pick_yes false a b e = never (sym e)

pub pick_no : {A : Type 0} (t : Bool) (a b : A) → t ≡ false → pick t a b ≡ b
pick_no true a b e = never e
pick_no false a b e = refl

pub and_left : (a b : Bool) → a && b ≡ true → a ≡ true
and_left true b t = refl
and_left false b t = t

pub and_right : (a b : Bool) → a && b ≡ true → b ≡ true
and_right true b t = t
and_right false b t = never (sym t)

pub and_both : {a b : Bool} → a ≡ true → b ≡ true → a && b ≡ true
and_both p q = rw (p, q)

-- four and five tests that hold together
pub and_four : (a b c d : Bool) → ((a && b) && c) && d ≡ true → (a ≡ true) × (b ≡ true) × (c ≡ true) × (d ≡ true)
and_four a b c d h =
    let k = and_left ((a && b) && c) d h in
    let j = and_left (a && b) c k in
    (and_left a b j, and_right a b j, and_right (a && b) c k, and_right ((a && b) && c) d h)

pub and_five : (a b c d e : Bool) → (((a && b) && c) && d) && e ≡ true → (a ≡ true) × (b ≡ true) × (c ≡ true) × (d ≡ true) × (e ≡ true)
and_five a b c d e h =
    let f = and_four a b c d (and_left (((a && b) && c) && d) e h) in
    (f.0, f.1, f.2, f.3, and_right (((a && b) && c) && d) e h)

-- what a test says at each number below n, once it has passed
pub below_at : (f : ℕ → Bool) (n : ℕ) → all_below f n ≡ true → (k : ℕ) → k < n → f k ≡ true
below_at f zero t k h = absurd (not-suc-le-zero h)
below_at f (suc n) t k h =
    ⊎_elim (λ e. ap f e ∙ and_right (all_below f n) (f n) t)
    (λ l. below_at f n (and_left (all_below f n) (f n) t) k l)
    (eq-or-lt_of_le (le_of_suc-le-suc h))

-- a test that fails at one number below n fails
pub below_fails : (f : ℕ → Bool) (n k : ℕ) → k < n → f k ≡ false → all_below f n ≡ false
below_fails f zero k h e = absurd (not-suc-le-zero h)
below_fails f (suc n) k h e =
    ⊎_elim (λ q. ap (λ b. all_below f n && b) (ap f (sym q) ∙ e) ∙ and-false (all_below f n))
    (λ l. ap (λ b. b && f n) (below_fails f n k l e))
    (eq-or-lt_of_le (le_of_suc-le-suc h))

-- one more number passes
pub below_next : (f : ℕ → Bool) (n : ℕ) → all_below f n ≡ true → f n ≡ true → all_below f (n + 1) ≡ true
below_next f n t e = rw (add-one, t, e)

-- a test that passes at every number below n passes
pub below_all : (f : ℕ → Bool) (n : ℕ) → ((k : ℕ) → k < n → f k ≡ true) → all_below f n ≡ true
below_all f zero h = refl
below_all f (suc n) h = and_both (below_all f n (λ k l. h k (omega arith))) (h n (omega arith))

-- a test that fails below n fails below what is more
pub below_cut : (f : ℕ → Bool) (n m : ℕ) → n ≤ m → all_below f n ≡ false → all_below f m ≡ false
below_cut f n m l e = by_case (all_below f m) (λ t. never (sym (below_all f n (λ k h. below_at f m t k (omega arith))) ∙ e)) (λ t. t)

-- the test f fails
abbrev pub fails : (ℕ → Bool) → ℕ → Bool
fails f k = not (f k)

-- a search that found nothing
pub first_none : (f : ℕ → Bool) (n : ℕ) → all_below (fails f) n ≡ true → first_below f n ≡ n
first_none f zero t = refl
first_none f (suc n) t =
    let e = first_none f n (and_left (all_below (fails f) n) (not (f n)) t) in
    let q = not-true (f n) (and_right (all_below (fails f) n) (not (f n)) t) in
    rw (e, le-ltb n n (omega arith), q)

-- a search that stopped at k
pub first_at : (f : ℕ → Bool) (n k : ℕ) → k < n → all_below (fails f) k ≡ true → f k ≡ true → first_below f n ≡ k
first_at f zero k h t e = absurd (not-suc-le-zero h)
first_at f (suc n) k h t e =
    ⊎_elim (λ q. last q)
    (λ l. rw (first_at f n k l t e, lt-ltb k n l))
    (eq-or-lt_of_le (le_of_suc-le-suc h))
  where
    last : k ≡ n → first_below f (suc n) ≡ k
    last q =
        let u : all_below (fails f) n ≡ true = rw (← q) t in
        let v : f n ≡ true = rw (← q) e in
        rw (first_none f n u, le-ltb n n (omega arith), v) (sym q)

-- a search stops at the bound
pub first_bound : (f : ℕ → Bool) (n : ℕ) → first_below f n ≤ n
first_bound f zero = omega arith
first_bound f (suc n) = go (first_bound f n) (ltb (first_below f n) n) (f n)
  where
    go : first_below f n ≤ n → (t b : Bool) → pick t (first_below f n) (pick b n (suc n)) ≤ suc n
    go l true b = omega arith
    go l false true = omega arith
    go l false false = omega arith

-- where a search found something, the test passes there, and at no number before
pub first_passes : (f : ℕ → Bool) (n : ℕ) → first_below f n < n → f (first_below f n) ≡ true
first_passes f zero h = absurd (not-suc-le-zero h)
first_passes f (suc n) h = go (first_passes f n) (ltb (first_below f n) n) refl (f n) refl h
  where
    go : (first_below f n < n → f (first_below f n) ≡ true) → (t : Bool) → ltb (first_below f n) n ≡ t → (b : Bool) → f n ≡ b
        → pick t (first_below f n) (pick b n (suc n)) < suc n → f (pick t (first_below f n) (pick b n (suc n))) ≡ true
    go ih true e b q l = ih (ltb-true (first_below f n) n e)
    go ih false e true q l = q
    go ih false e false q l = absurd (omega arith)

pub first_fails : (f : ℕ → Bool) (n k : ℕ) → k < first_below f n → f k ≡ false
first_fails f zero k h = absurd (not-suc-le-zero h)
first_fails f (suc n) k h = go (first_fails f n k) (ltb (first_below f n) n) refl (f n) refl h
  where
    go : (k < first_below f n → f k ≡ false) → (t : Bool) → ltb (first_below f n) n ≡ t → (b : Bool) → f n ≡ b
        → k < pick t (first_below f n) (pick b n (suc n)) → f k ≡ false
    go ih true e b q l = ih l
    go ih false e true q l = let m = ltb-false (first_below f n) n e in ih (omega arith)
    go ih false e false q l =
        let m = ltb-false (first_below f n) n e in
        ⊎_elim (λ r. ap f r ∙ q) (λ (r : k < n). ih (omega arith)) (eq-or-lt_of_le (le_of_suc-le-suc l))

-- tests that agree at each number below n agree on all of them
pub all_same : (f g : ℕ → Bool) (n : ℕ) → ((k : ℕ) → k < n → f k ≡ g k) → all_below f n ≡ all_below g n
all_same f g zero h = refl
all_same f g (suc n) h = ap₂ ◌&&◌ (all_same f g n (λ k l. h k (omega arith))) (h n (omega arith))

pub first_same : (f g : ℕ → Bool) (n : ℕ) → ((k : ℕ) → k < n → f k ≡ g k) → first_below f n ≡ first_below g n
first_same f g zero h = refl
first_same f g (suc n) h =
    let e = first_same f g n (λ k l. h k (omega arith)) in
    ap₂ (λ (m : ℕ) (b : Bool). pick (ltb m n) m (pick b n (suc n))) e (h n (omega arith))

-- none of four is refused exactly if each passes
pub all_four : (a b c d : Bool) → first_of a b c d ≡ 4 → (a ≡ true) × (b ≡ true) × (c ≡ true) × (d ≡ true)
unfolding first_of
all_four true true true true e = (refl, refl, refl, refl)
all_four true true true false e = absurd (omega arith)
all_four true true false d e = absurd (omega arith)
all_four true false c d e = absurd (omega arith)
all_four false b c d e = absurd (omega arith)

pub four_pass : {a b c d : Bool} → a ≡ true → b ≡ true → c ≡ true → d ≡ true → first_of a b c d ≡ 4
unfolding first_of
four_pass p q r s = rw (p, q, r, s)

-- of a test of four bytes: its alike, and where it fails first
pub four_alike : {f g : ℕ → Bool} → ((j : ℕ) → f j ≡ g j) → first_of_four f ≡ first_of_four g
four_alike h = λ i. first_of (h 0 i) (h 1 i) (h 2 i) (h 3 i)

pub four_first : (f : ℕ → Bool) → first_of_four f ≡ first_below (fails f) 4
unfolding first_of
four_first f = go (f 0) refl (f 1) refl (f 2) refl (f 3) refl
  where
    go : (a : Bool) → f 0 ≡ a → (b : Bool) → f 1 ≡ b → (c : Bool) → f 2 ≡ c → (d : Bool) → f 3 ≡ d
        → pick a (pick b (pick c (pick d 4 3) 2) 1) 0 ≡ first_below (fails f) 4
    go true p true q true r true s = sym (rw (p, q, r, s))
    go true p true q true r false s = sym (rw (p, q, r, s))
    go true p true q false r d s = sym (rw (p, q, r))
    go true p false q c r d s = sym (rw (p, q))
    go false p b q c r d s = sym (rw p)

-- the first of four is one of them, or 4
pub first_small : (a b c d : Bool) → first_of a b c d ≤ 4
unfolding first_of
first_small true true true true = omega arith
first_small true true true false = omega arith
first_small true true false d = omega arith
first_small true false c d = omega arith
first_small false b c d = omega arith

abbrev pub same : Bool → Bool → Bool
same true b = b
same false b = not b

pub same_eq : (a b : Bool) → same a b ≡ true → a ≡ b
same_eq true true t = refl
same_eq true false t = sym t
same_eq false true t = t
same_eq false false t = refl

abbrev pub implies : Bool → Bool → Bool
implies true b = b
implies false b = true

pub implied : (a b : Bool) → implies a b ≡ true → a ≡ true → b ≡ true
implied true b t e = t
implied false b t e = never (sym e)

-- two tests that agree at each of the 256 bytes, which antt computes, are one test
pub by_byte : (f g : ℕ → Bool) → all_below (λ b. same (f b) (g b)) 256 ≡ true → (b : ℕ) → Fits w8 b → f b ≡ g b
by_byte f g t b h = same_eq (f b) (g b) (below_at (λ b. same (f b) (g b)) 256 t b h.fits)

-- what one test of a byte implies of another, at each of the 256
pub by_byte_if : (f g : ℕ → Bool) → all_below (λ b. implies (f b) (g b)) 256 ≡ true → (b : ℕ) → b < 256 → f b ≡ true → g b ≡ true
by_byte_if f g t b h = implied (f b) (g b) (below_at (λ b. implies (f b) (g b)) 256 t b h)
