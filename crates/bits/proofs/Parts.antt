-- Lists part by part. Assumes nothing.
use mathlib.Core.Path.{◌≡◌, refl, sym, ap, ap₂, ◌∙◌}
use mathlib.Core.List.{List, [], ◌∷◌, ◌++◌, append_assoc, append-nil}
use Prim.Native.Nat.{ℕ, zero, suc, ◌+◌, ◌<◌, ◌≤◌}
use native.Mathlib.Nat.{zero-add, add_assoc}
use native.Mathlib.Omega.{arith}
use lib.ListN.{length, get_or, replicate, replicate-append-replicate, get_or-append}
use lib.Seq.{get_or-append-add}
use Rattle.bits.specs.Rows.{joined, one_at, bytes_at}
use Rattle.bits.proofs.Rows.{joined_same, joined_split}

-- lists that are the same part by part
pub pieces : {a b c d a' b' c' d' : List ℕ} → a ≡ a' → b ≡ b' → c ≡ c' → d ≡ d' → a ++ b ++ c ++ d ≡ a' ++ b' ++ c' ++ d'
pieces p q r u = rw (p, q, r, u)

-- a byte of two lists, one after the other
pub get_front : (a b : List ℕ) (n k : ℕ) → length a ≡ n → k < n → get_or (a ++ b) k 0 ≡ get_or a k 0
get_front a b n k e h = get_or-append a b 0 k (rw e h)

pub get_behind : (a b : List ℕ) (n k : ℕ) → length a ≡ n → get_or (a ++ b) (n + k) 0 ≡ get_or b k 0
get_behind a b n k e = ap (λ (m : ℕ). get_or (a ++ b) (m + k) 0) (sym e) ∙ get_or-append-add a b k 0

-- bytes cut in two
pub bytes_split : (s : List ℕ) (k m n : ℕ) → bytes_at s k (m + n) ≡ bytes_at s k m ++ bytes_at s (k + m) n
unfolding bytes_at
bytes_split s k m n =
    joined_split (one_at s k) m n
    ∙ ap (λ (r : List ℕ). joined (one_at s k) m ++ r)
    (joined_same (λ i. one_at s k (m + i)) (one_at s (k + m)) n (λ i l. ap (λ (j : ℕ). get_or s j 0 ∷ []) (sym (add_assoc k m i))))

-- bytes up to row n: those before the first row, and the rows, of any widths
pub bytes_rows : (s : List ℕ) (at w : ℕ → ℕ) → ((i : ℕ) → at (suc i) ≡ at i + w i) → (n : ℕ)
    → bytes_at s 0 (at n) ≡ bytes_at s 0 (at 0) ++ joined (λ i. bytes_at s (at i) (w i)) n
bytes_rows s at w h zero = sym (append-nil (bytes_at s 0 (at 0)))
bytes_rows s at w h (suc n) =
    let row : ℕ → List ℕ = λ i. bytes_at s (at i) (w i) in
    ap (bytes_at s 0) (h n)
    ∙ bytes_split s 0 (at n) (w n)
    ∙ ap₂ (λ (r : List ℕ) (k : ℕ). r ++ bytes_at s k (w n)) (bytes_rows s at w h n) (zero-add (at n))
    ∙ append_assoc (bytes_at s 0 (at 0)) (joined row n) (row n)

-- rows of one zero each from n on
pub zeros_behind : (f : ℕ → List ℕ) (n k : ℕ) → ((i : ℕ) → n ≤ i → f i ≡ 0 ∷ []) → joined f (n + k) ≡ joined f n ++ replicate k 0
zeros_behind f n k h =
    joined_split f n k
    ∙ ap (λ (r : List ℕ). joined f n ++ r) (joined_same (λ i. f (n + i)) (λ i. 0 ∷ []) k (λ i l. h (n + i) (omega arith)) ∙ zeros k)
  where
    zeros : (m : ℕ) → joined (λ i. 0 ∷ []) m ≡ replicate m 0
    zeros zero = refl
    zeros (suc m) =
        let e : m + 1 ≡ suc m = omega arith in
        ap (λ (r : List ℕ). r ++ (0 ∷ [])) (zeros m) ∙ replicate-append-replicate m 1 0 ∙ ap (λ (j : ℕ). replicate j 0) e
