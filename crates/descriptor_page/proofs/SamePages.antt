-- Pages of the same names are the same, and a list is the page whose header and descriptors it has. Assumes nothing.
use mathlib.Core.Path.{◌≡◌, sym, ap, ap₂, ◌∙◌}
use mathlib.Core.List.{List, [], ◌∷◌, ◌++◌, append-nil}
use Prim.Native.Nat.{ℕ, ◌+◌, ◌-◌, ◌<◌}
use native.Mathlib.Nat.{zero-add}
use native.Mathlib.Omega.{arith}
use lib.ListN.{length, get_or, take}
use Rattle.bits.specs.Numbers.{big, bytes, Bytes}
use Rattle.bits.specs.Places.{two_at, four_at}
use Rattle.bits.specs.Rows.{joined, bytes_at}
use Rattle.bits.proofs.Each.{byte_small}
use Rattle.bits.proofs.Parts.{bytes_split, bytes_rows}
use Rattle.bits.proofs.Rows.{joined_same, bytes_there, bytes_get, bytes_same, bytes_whole, four_bytes}
use Rattle.bits.proofs.RowStarts.{start_first, start_step, start_same}
use Rattle.bits.proofs.Widths.{bytes_big}
use Rattle.page.specs.Header.{head_of}
use Rattle.descriptor_page.specs.Page.{descriptor, width, start_of, descriptor_page}
use Rattle.descriptor_page.proofs.DescriptorRows.{length-descriptor}
use Rattle.descriptor_page.proofs.PagePlaced.{page_behind}

pub page_same : (c d : List ℕ) (f g : ℕ → List ℕ) (n : ℕ) → four_at c 0 ≡ four_at d 0 → ((i : ℕ) → i < n → f i ≡ g i) → descriptor_page c f n ≡ descriptor_page d g n
unfolding descriptor_page
page_same c d f g n e h =
    let rows = joined_same (λ i. descriptor (f i)) (λ i. descriptor (g i)) n (λ i l. ap descriptor (h i l)) in
    let start = start_same 8 (width f) (width g) n (λ i l. ap (λ (x : List ℕ). 4 + length x) (h i l)) in
    ap₂ (λ (m : ℕ) (q : List ℕ). (0x07 ∷ 0 ∷ (bytes 2 (m - 4) ++ q)) ++ joined (λ i. descriptor (f i)) n) start e
    ∙ ap (λ (r : List ℕ). head_of d 0x07 0 (start_of g n) ++ r) rows

-- a descriptor, told by its parts
pub descriptor_is : (p : List ℕ) (k : ℕ) (x : List ℕ) → Bytes p → get_or p k 0 ≡ 0 → get_or p (k + 1) 0 ≡ 0 → big (two_at p (k + 2)) ≡ length x
    → bytes_at p (k + 4) (length x) ≡ x → (j : ℕ) → j < 4 + length x → get_or p (k + j) 0 ≡ get_or (descriptor x) j 0
descriptor_is p k x h a b e t j l =
    sym (bytes_get p k (4 + length x) j [] l) ∙ ap (λ (r : List ℕ). get_or r j 0) (append-nil (bytes_at p k (4 + length x)) ∙ whole)
  where
    said : get_or p (k + 2) 0 ∷ get_or p (k + 3) 0 ∷ [] ≡ bytes 2 (length x)
    said =
        let q : k + 3 ≡ k + 2 + 1 = omega arith in
        ap (λ (m : ℕ). get_or p (k + 2) 0 ∷ get_or p m 0 ∷ []) q
        ∙ sym (bytes_big (two_at p (k + 2)) (byte_small p h (k + 2), (byte_small p h (k + 2 + 1), tt)))
        ∙ ap (bytes 2) e

    whole : bytes_at p k (4 + length x) ≡ descriptor x
    whole =
        unfold descriptor in
        bytes_split p k 4 (length x)
        ∙ ap₂ (λ (f r : List ℕ). f ++ r) (four_bytes p k) t
        ∙ ap₂ (λ (m n : ℕ). m ∷ n ∷ ((get_or p (k + 2) 0 ∷ get_or p (k + 3) 0 ∷ []) ++ x)) a b
        ∙ ap (λ (r : List ℕ). 0 ∷ 0 ∷ (r ++ x)) said

pub page_is : (c : List ℕ) (f : ℕ → List ℕ) (n : ℕ) (p : List ℕ) → length p ≡ start_of f n → take 8 p ≡ head_of c 0x07 0 (start_of f n)
    → ((i k : ℕ) → i < n → k < width f i → get_or p (start_of f i + k) 0 ≡ get_or (descriptor (f i)) k 0) → p ≡ descriptor_page c f n
unfolding descriptor_page
page_is c f n p e t h =
    sym (bytes_whole p (start_of f n) e)
    ∙ bytes_rows p (start_of f) (width f) (start_step 8 (width f)) n
    ∙ ap₂ (λ (a b : List ℕ). a ++ b) front (joined_same (λ i. bytes_at p (start_of f i) (width f i)) (λ i. descriptor (f i)) n row)
  where
    front : bytes_at p 0 (start_of f 0) ≡ head_of c 0x07 0 (start_of f n)
    front = ap (bytes_at p 0) (start_first 8 (width f)) ∙ bytes_there p 0 8 (omega (arith, e, page_behind f n)) ∙ t

    row : (i : ℕ) → i < n → bytes_at p (start_of f i) (width f i) ≡ descriptor (f i)
    row i l =
        let x = descriptor (f i) in
        bytes_same p x (start_of f i) 0 (width f i) (λ k m. h i k l m ∙ ap (λ (j : ℕ). get_or x j 0) (sym (zero-add k)))
        ∙ bytes_whole x (width f i) (length-descriptor (f i))
