-- Rows of bytes: how a loop writes them one after the other, and where each is read. Assumes nothing.
use mathlib.Core.Path.{◌≡◌, refl, sym, ap, ◌∙◌}
use mathlib.Core.List.{List, [], ◌∷◌, ◌++◌, append_assoc, append-nil}
use mathlib.Core.Logic.{⊎_elim}
use Prim.Native.Nat.{ℕ, zero, suc, ◌+◌, ◌*◌, ◌<◌, ◌≤◌}
use native.Mathlib.Nat.{not-suc-le-zero, le_of_suc-le-suc, eq-or-lt_of_le, mul-suc, mul-zero, add-zero, zero-add}
use native.Mathlib.Numerals.{add-one}
use native.Mathlib.Omega.{arith}
use lib.ListN.{length, get_or, take, drop, set, length-append, length-drop, take-append-drop, get_or-append}
use lib.Seq.{take_at, drop-append-add, drop-drop, drop-cons, take-add, get_or-append-add, get_or-drop, take-suc, set_at, append_snoc, length-take-le, take_all}
use borrow.Author.Tests.{le-leb}
use Rattle.bits.specs.Places.{four_at, put_four}
use Rattle.bits.specs.Rows.{joined, one_at, bytes_at, put_bytes}
use Rattle.bits.proofs.Logic.{pick_yes}

-- row i has the width w i, and the row behind it starts where it ends
abbrev pub EndToEnd : (ℕ → ℕ) → (ℕ → ℕ) → (ℕ → List ℕ) → Type 0
EndToEnd at w f = (i : ℕ) → (length (f i) ≡ w i) × (at (suc i) ≡ at i + w i)

-- rows of any widths, one after the other behind g
module _ (at w : ℕ → ℕ) (f : ℕ → List ℕ) (h : EndToEnd at w f) (g : List ℕ) (e : length g ≡ at 0) where
  pub rows_end : (n : ℕ) → length (g ++ joined f n) ≡ at n
  rows_end zero = ap length (append-nil g) ∙ e
  rows_end (suc n) =
      ap length (sym (append_assoc g (joined f n) (f n))) ∙ length-append (g ++ joined f n) (f n) ∙ rw (rows_end n, (h n).0) (sym (h n).1)

  -- byte k of row i
  pub row_get : (n : ℕ) (rest : List ℕ) (i k : ℕ) → i < n → k < w i → get_or (g ++ joined f n ++ rest) (at i + k) 0 ≡ get_or (f i) k 0
  row_get zero rest i k l m = absurd (not-suc-le-zero l)
  row_get (suc n) rest i k l m =
      ap (λ (r : List ℕ). get_or (r ++ rest) (at i + k) 0) (sym (append_assoc g (joined f n) (f n)))
      ∙ ap (λ (r : List ℕ). get_or r (at i + k) 0) (append_assoc (g ++ joined f n) (f n) rest)
      ∙ ⊎_elim (λ q. last q) (λ (b : i < n). row_get n (f n ++ rest) i k b m) (eq-or-lt_of_le (le_of_suc-le-suc l))
    where
      last : i ≡ n → get_or (g ++ joined f n ++ (f n ++ rest)) (at i + k) 0 ≡ get_or (f i) k 0
      last q =
          ap (λ (x : ℕ). get_or (g ++ joined f n ++ (f n ++ rest)) (x + k) 0) (ap at q ∙ sym (rows_end n))
          ∙ get_or-append-add (g ++ joined f n) (f n ++ rest) k 0
          ∙ get_or-append (f n) rest 0 k (rw (h n).0 (rw q at m))
          ∙ ap (λ (y : ℕ). get_or (f y) k 0) (sym q)

-- rows of one width, from the front on
module _ (f : ℕ → List ℕ) (w : ℕ) (h : (i : ℕ) → length (f i) ≡ w) where
  one_width : EndToEnd (λ i. w * i) (λ i. w) f
  one_width i = (h i, mul-suc w i)

  pub length-joined : (n : ℕ) → length (joined f n) ≡ w * n
  length-joined n = rows_end (λ i. w * i) (λ i. w) f one_width [] (sym (mul-zero w)) n

  pub joined_get : (n : ℕ) (rest : List ℕ) (i k : ℕ) → i < n → k < w → get_or (joined f n ++ rest) (w * i + k) 0 ≡ get_or (f i) k 0
  joined_get n rest i k l m = row_get (λ i. w * i) (λ i. w) f one_width [] (sym (mul-zero w)) n rest i k l m

-- rows that are the same one by one are the same together
pub joined_same : (f g : ℕ → List ℕ) (n : ℕ) → ((i : ℕ) → i < n → f i ≡ g i) → joined f n ≡ joined g n
joined_same f g zero h = refl
joined_same f g (suc n) h = rw (joined_same f g n (λ i l. h i (omega arith)), h n (omega arith))

-- rows up to a place, and those behind it
pub joined_split : (f : ℕ → List ℕ) (a n : ℕ) → joined f (a + n) ≡ joined f a ++ joined (λ i. f (a + i)) n
joined_split f a zero = rw add-zero (sym (append-nil (joined f a)))
joined_split f a (suc n) =
    let e : a + suc n ≡ suc (a + n) = omega arith in
    rw (e, joined_split f a n) (append_assoc (joined f a) (joined (λ i. f (a + i)) n) (f (a + n)))

-- four bytes are what they are made of
pub as_four : (f : List ℕ) → length f ≡ 4 → f ≡ four_at f 0
as_four [] e = absurd (omega arith)
as_four (a ∷ []) e = absurd (omega arith)
as_four (a ∷ b ∷ []) e = absurd (omega arith)
as_four (a ∷ b ∷ c ∷ []) e = absurd (omega arith)
as_four (a ∷ b ∷ c ∷ d ∷ []) e = refl
as_four (a ∷ b ∷ c ∷ d ∷ x ∷ r) e = absurd (omega arith)

-- bytes written behind what stands
behind : (p s v : List ℕ) (k n : ℕ) → length p ≡ k → take k (p ++ drop k s) ++ v ++ drop (k + n) (p ++ drop k s) ≡ p ++ v ++ drop (k + n) s
behind p s v k n e =
    let a = take_at p (drop k s) k e in
    let b : drop (k + n) (p ++ drop k s) ≡ drop (k + n) s =
    ap (λ (m : ℕ). drop (m + n) (p ++ drop k s)) (sym e) ∙ drop-append-add p (drop k s) n ∙ drop-drop n k s in
    rw (a, b)

length-behind : (p s : List ℕ) (k n : ℕ) → length p ≡ k → k + n ≤ length s → k + n ≤ length (p ++ drop k s)
length-behind p s k n e h = rw (length-append p (drop k s), length-drop k s, e) (omega arith)

pub bytes_next : (p s f : List ℕ) (k : ℕ) → length p ≡ k → k + length f ≤ length s
    → put_bytes (p ++ drop k s) k f ≡ p ++ f ++ drop (k + length f) s
unfolding put_bytes
bytes_next p s f k e h =
    pick_yes _ _ _ (le-leb (k + length f) (length (p ++ drop k s)) (length-behind p s k (length f) e h))
    ∙ behind p s f k (length f) e

-- four bytes that are put are a row
pub four_put_lem : (s : List ℕ) (k : ℕ) (f : List ℕ) → length f ≡ 4 → put_four s k f ≡ put_bytes s k f
unfolding put_four
four_put_lem s k f e = ap (put_bytes s k) (sym (as_four f e))

pub length-bytes_at : (s : List ℕ) (k n : ℕ) → length (bytes_at s k n) ≡ n
unfolding bytes_at
length-bytes_at s k n = length-joined (one_at s k) 1 (λ i. refl) n ∙ omega arith

-- bytes from k on are what stands there
pub bytes_there : (s : List ℕ) (k n : ℕ) → k + n ≤ length s → bytes_at s k n ≡ take n (drop k s)
unfolding bytes_at
bytes_there s k zero h = refl
bytes_there s k (suc n) h =
    let e : k + n < length s = omega arith in
    rw (bytes_there s k n (omega arith))
    (ap (λ (x : ℕ). take n (drop k s) ++ (x ∷ [])) (sym (get_or-drop k s n 0))
    ∙ sym (take-suc (drop k s) n 0 (rw (length-drop k s) (omega arith))))

pub bytes_get : (s : List ℕ) (k n i : ℕ) (rest : List ℕ) → i < n → get_or (bytes_at s k n ++ rest) i 0 ≡ get_or s (k + i) 0
unfolding bytes_at
bytes_get s k n i rest l =
    ap (λ (m : ℕ). get_or (joined (one_at s k) n ++ rest) m 0) (let e : i ≡ 1 * i + 0 = omega arith in e)
    ∙ joined_get (one_at s k) 1 (λ i. refl) n rest i 0 l (omega arith)

-- bytes that are the same one by one are the same together
pub bytes_same : (s r : List ℕ) (k j n : ℕ) → ((i : ℕ) → i < n → get_or s (k + i) 0 ≡ get_or r (j + i) 0) → bytes_at s k n ≡ bytes_at r j n
unfolding bytes_at
bytes_same s r k j n h = joined_same (one_at s k) (one_at r j) n (λ i l. ap (λ (x : ℕ). x ∷ []) (h i l))

pub bytes_whole : (s : List ℕ) (n : ℕ) → length s ≡ n → bytes_at s 0 n ≡ s
bytes_whole s n e = bytes_there s 0 n (omega arith) ∙ take_all n s (omega arith)

pub four_bytes : (s : List ℕ) (k : ℕ) → bytes_at s k 4 ≡ four_at s k
unfolding bytes_at
four_bytes s k = rw (add-zero k)

pub four_same : (s r : List ℕ) (k j : ℕ) → ((i : ℕ) → i < 4 → get_or s (k + i) 0 ≡ get_or r (j + i) 0) → four_at s k ≡ four_at r j
four_same s r k j h = sym (four_bytes s k) ∙ bytes_same s r k j 4 h ∙ four_bytes r j

-- the list up to four bytes and with them
pub take-four : (s : List ℕ) (k : ℕ) → k + 4 ≤ length s → take (k + 4) s ≡ take k s ++ four_at s k
take-four s k h = take-add k 4 s ∙ ap (λ (r : List ℕ). take k s ++ r) (sym (bytes_there s k 4 h) ∙ four_bytes s k)

-- the rows of four from k on are what stands there
pub fours : (s : List ℕ) (k n : ℕ) → k + 4 * n ≤ length s → take (k + 4 * n) s ≡ take k s ++ joined (λ i. four_at s (k + 4 * i)) n
fours s k zero h = rw (mul-zero, add-zero) (sym (append-nil (take k s)))
fours s k (suc n) h =
    let e : k + 4 * suc n ≡ k + 4 * n + 4 = omega arith in
    ap (λ (m : ℕ). take m s) e
    ∙ take-four s (k + 4 * n) (omega arith)
    ∙ ap (λ (r : List ℕ). r ++ four_at s (k + 4 * n)) (fours s k n (omega arith))
    ∙ append_assoc (take k s) (joined (λ i. four_at s (k + 4 * i)) n) (four_at s (k + 4 * n))

-- row i is read back
pub row_back : (at w : ℕ → ℕ) (f : ℕ → List ℕ) → EndToEnd at w f → (g : List ℕ) → length g ≡ at 0 → (n : ℕ) (rest : List ℕ) (i : ℕ) → i < n
    → bytes_at (g ++ joined f n ++ rest) (at i) (w i) ≡ f i
row_back at w f h g e n rest i l =
    bytes_same (g ++ joined f n ++ rest) (f i) (at i) 0 (w i) (λ k m. row_get at w f h g e n rest i k l m ∙ ap (λ (j : ℕ). get_or (f i) j 0) (sym (zero-add k)))
    ∙ bytes_whole (f i) (w i) (h i).0

pub joined_four : (f : ℕ → List ℕ) → ((i : ℕ) → length (f i) ≡ 4) → (n i : ℕ) → i < n → four_at (joined f n) (4 * i) ≡ f i
joined_four f h n i l =
    sym (four_bytes (joined f n) (4 * i))
    ∙ ap (λ (r : List ℕ). bytes_at r (4 * i) 4) (sym (append-nil (joined f n)))
    ∙ row_back (λ i. 4 * i) (λ i. 4) f (one_width f 4 h) [] refl n [] i l

-- one more byte is copied
pub copy_start : (s : List ℕ) (k : ℕ) (f : List ℕ) (at : ℕ) → s ≡ take k s ++ bytes_at f at 0 ++ drop (k + 0) s
unfolding bytes_at
copy_start s k f at = rw (add-zero, append-nil) (sym (take-append-drop k s))

pub copy_next : (s : List ℕ) (k : ℕ) (f : List ℕ) (at i : ℕ) → k + i < length s
    → set (take k s ++ bytes_at f at i ++ drop (k + i) s) (k + i) (get_or f (at + i) 0) ≡ take k s ++ bytes_at f at (i + 1) ++ drop (k + (i + 1)) s
unfolding bytes_at
copy_next s k f at i h =
    let p = take k s ++ joined (one_at f at) i in
    let lp : length p ≡ k + i =
    length-append (take k s) (joined (one_at f at) i)
    ∙ rw (length-take-le k s (omega arith), length-joined (one_at f at) 1 (λ i. refl) i) (omega arith) in
    let e : k + (i + 1) ≡ suc (k + i) = omega arith in
    rw (drop-cons s (k + i) 0 h, e, add-one i)
    (set_at p (get_or s (k + i) 0) (drop (suc (k + i)) s) (get_or f (at + i) 0) (k + i) lp
    ∙ sym (append_snoc p (get_or f (at + i) 0) (drop (suc (k + i)) s))
    ∙ ap (λ (r : List ℕ). r ++ drop (suc (k + i)) s) (append_assoc (take k s) (joined (one_at f at) i) (get_or f (at + i) 0 ∷ [])))

-- all bytes are copied, or none
pub copied : (s : List ℕ) (k : ℕ) (f : List ℕ) (at n : ℕ) → k + n ≤ length s
    → take k s ++ bytes_at f at n ++ drop (k + n) s ≡ put_bytes s k (bytes_at f at n)
unfolding put_bytes
copied s k f at n h = rw (length-bytes_at f at n) (sym (pick_yes _ _ _ (le-leb (k + n) (length s) h)))
