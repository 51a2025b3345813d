-- A written page passes the tests of a header, and each descriptor is read back. Assumes nothing.
use Rattle.std.specs.Prelude.{Ok}
use mathlib.Core.Path.{◌≡◌, refl, sym, ap, ap₂, ◌∙◌}
use mathlib.Core.List.{List, [], ◌∷◌, ◌++◌, append-nil}
use Prim.Native.Nat.{ℕ, ◌+◌, ◌<◌, ◌≤◌}
use native.Mathlib.Nat.{add-zero, zero-add}
use native.Mathlib.Omega.{arith}
use lib.ListN.{length, get_or}
use Rattle.bits.specs.Numbers.{big, bytes}
use Rattle.bits.specs.Places.{two_at}
use Rattle.bits.specs.Rows.{joined, bytes_at}
use Rattle.bits.proofs.Parts.{get_behind}
use Rattle.bits.proofs.Rows.{row_get, bytes_same, bytes_whole}
use Rattle.bits.proofs.RowStarts.{start_first}
use Rattle.bits.proofs.Widths.{big_bytes}
use Rattle.shelf.specs.Limits.{most_types, most_elements, most_text}
use Rattle.page.specs.Header.{framed, generation_tested, head_of}
use Rattle.page.proofs.HeaderBothWays.{frame_written}
use Rattle.page.proofs.HeaderTests.{generation_passed}
use Rattle.descriptor_page.specs.Page.{descriptor, width, start_of, descriptor_page}
use Rattle.descriptor_page.proofs.DescriptorRows.{descriptor_rows, short_page}
use Rattle.descriptor_page.proofs.PagePlaced.{page_behind, length-page}

-- what stands in a descriptor
module _ (x : List ℕ) where
  length-said : get_or (descriptor x) 2 0 ∷ get_or (descriptor x) 3 0 ∷ [] ≡ bytes 2 (length x)
  unfolding descriptor
  length-said = refl

  text_byte_lem : (k : ℕ) → get_or (descriptor x) (4 + k) 0 ≡ get_or x k 0
  unfolding descriptor
  text_byte_lem k = get_behind (0 ∷ 0 ∷ bytes 2 (length x)) x 4 k refl

module _ (c : List ℕ) (f : ℕ → List ℕ) (n : ℕ) where
  abbrev page : List ℕ
  page = descriptor_page c f n

  -- the header
  pub own_zero : get_or page 1 0 ≡ 0
  unfolding descriptor_page
  own_zero = refl

  pub frame_passes : n ≤ most_types + most_elements → ((i : ℕ) → i < n → length (f i) ≤ most_text) → framed page 0x07 ≡ Ok tt
  unfolding descriptor_page
  frame_passes l h =
      frame_written c (joined (λ i. descriptor (f i)) n) 0x07 0 (start_of f n) (length-page c f n) (omega (arith, page_behind f n)) (omega (arith, short_page f n h))

  pub generation_passes : generation_tested c page ≡ Ok tt
  unfolding descriptor_page
  generation_passes = sym (generation_passed c page refl)

  -- descriptor i
  module _ (i : ℕ) (l : i < n) where
    pub descriptor_get : (k : ℕ) → k < width f i → get_or page (start_of f i + k) 0 ≡ get_or (descriptor (f i)) k 0
    unfolding descriptor_page
    descriptor_get k m =
        let head = head_of c 0x07 0 (start_of f n) in
        let row : ℕ → List ℕ = λ j. descriptor (f j) in
        ap (λ (r : List ℕ). get_or r (start_of f i + k) 0) (sym (append-nil (head ++ joined row n)))
        ∙ row_get (start_of f) (width f) row (descriptor_rows f) head (sym (start_first 8 (width f))) n [] i k l m

    pub first_zero : get_or page (start_of f i) 0 ≡ 0
    first_zero = ap (λ (k : ℕ). get_or page k 0) (sym (add-zero (start_of f i))) ∙ descriptor_get 0 (omega arith) ∙ unfold descriptor in refl

    pub second_zero : get_or page (start_of f i + 1) 0 ≡ 0
    second_zero = descriptor_get 1 (omega arith) ∙ unfold descriptor in refl

    pub length_back : length (f i) ≤ most_text → big (two_at page (start_of f i + 2)) ≡ length (f i)
    length_back h =
        let k = start_of f i in
        let e : k + 2 + 1 ≡ k + 3 = omega arith in
        let high = descriptor_get 2 (omega arith) in
        let low = ap (λ (j : ℕ). get_or page j 0) e ∙ descriptor_get 3 (omega arith) in
        ap big (ap₂ (λ (a b : ℕ). a ∷ b ∷ []) high low ∙ length-said (f i)) ∙ big_bytes 2 (length (f i)) (omega arith)

    pub text_back : bytes_at page (start_of f i + 4) (length (f i)) ≡ f i
    text_back =
        bytes_same page (f i) (start_of f i + 4) 0 (length (f i)) same ∙ bytes_whole (f i) (length (f i)) refl
      where
        same : (k : ℕ) → k < length (f i) → get_or page (start_of f i + 4 + k) 0 ≡ get_or (f i) (0 + k) 0
        same k m =
            let e : start_of f i + 4 + k ≡ start_of f i + (4 + k) = omega arith in
            ap (λ (j : ℕ). get_or page j 0) e
            ∙ descriptor_get (4 + k) (omega arith)
            ∙ text_byte_lem (f i) k
            ∙ ap (λ (j : ℕ). get_or (f i) j 0) (sym (zero-add k))
