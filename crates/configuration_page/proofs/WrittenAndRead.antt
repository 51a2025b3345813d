-- The page of a well-formed front is accepted, and tells that front. Assumes nothing.
use Rattle.std.specs.Prelude.{Ok}
use mathlib.Core.Path.{◌≡◌, refl, sym, ap, ap₂, ◌∙◌}
use mathlib.Core.Bool.{true, false, not}
use mathlib.Core.List.{List, [], ◌∷◌, ◌++◌, append-nil}
use mathlib.Core.Logic.{⊎_elim}
use Prim.Native.Nat.{ℕ, ◌+◌, ◌-◌, ◌/◌, ◌%◌, ◌<◌, ◌≤◌}
use native.Mathlib.Nat.{add-zero}
use native.Mathlib.Omega.{arith}
use lib.Dec.{eqb, ltb}
use lib.ListN.{length, get_or, take, length-append}
use lib.Seq.{take_all}
use borrow.Author.Tests.{le-leb, le-ltb, ltb-true, ltb-false, eq-eqb, eqb-true, eqb-false}
use Rattle.bits.specs.Bits.{printable}
use Rattle.bits.specs.Numbers.{big, bytes}
use Rattle.bits.specs.Places.{two_at, four_at}
use Rattle.bits.specs.Rows.{joined, one_at, bytes_at}
use Rattle.bits.proofs.Each.{each_joined, each_bytes, each_get}
use Rattle.bits.proofs.Logic.{by_case, and_left, and_right, and_both, pick_yes, pick_no, below_all, fails, first_none}
use Rattle.bits.proofs.Parts.{pieces, get_behind, bytes_split, bytes_rows}
use Rattle.bits.proofs.Rows.{joined_same, bytes_get, bytes_there, bytes_same, four_bytes}
use Rattle.bits.proofs.Sums.{sum_part}
use Rattle.bits.proofs.Widths.{big_bytes}
use Rattle.shelf.specs.Limits.{most_types, most_elements, most_text, type_size, type_place, text_place, element_place}
use Rattle.shelf.specs.Types.{types_of, type_count, text_length, before, elements_of}
use Rattle.shelf_formed.specs.Formed.{front_formed, well_formed, configuration_formed}
use Rattle.shelf_formed.proofs.ElementPut.{length-formed}
use Rattle.shelf_formed.proofs.ElementTypes.{front_formed_lem}
use Rattle.page.specs.Header.{length_said}
use Rattle.configuration_page.specs.Page.{header_place, type_header, text_of, configuration_length, fixed_part, configuration_page}
use Rattle.configuration_page.specs.Read.{types_on, header_byte, total_before, text_place_on, needed_length, fixed_offends, header_offends, text_offends, offends, first_offence, configuration_read}
use Rattle.configuration_page.specs.Configuration.{told_byte, text_byte, one_told, head_told, text_told, type_told, configuration_of}
use Rattle.configuration_page.proofs.PartsPut.{short, headers_first, headers_end, length-page}
use Rattle.configuration_page.proofs.Refusals.{none_offends, parts_read}
use Rattle.configuration_page.proofs.TextStarts.{told_byte_lem, past_byte}
use Rattle.configuration_page.proofs.PlacesOnPage.{page_fixed, page_types, page_header, page_counts, page_starts, page_texts, page_text}
use Rattle.shelf_formed.proofs.FormedShelf.{few_elements, in_head, few_types, in_type_lem, text_printable, text_padded, type_clear}

module _ (s : List ℕ) (w : front_formed s ≡ true) where
  -- the two length fields
  said : length_said (configuration_page s) ≡ true
  unfolding length_said fixed_part
  said =
      let m : ℕ = configuration_length s - 4 in
      let l = short s w in
      let h = headers_first s refl in
      let e : big (two_at (configuration_page s) 2) ≡ m =
      ap₂ (λ (x y : ℕ). big (x ∷ y ∷ [])) (page_fixed s 2 (omega arith)) (page_fixed s 3 (omega arith)) ∙ big_bytes 2 m (omega arith) in
      eq-eqb (length (configuration_page s)) (big (two_at (configuration_page s) 2) + 4)
      (length-page s ∙ rw e (omega arith))

  needed : needed_length (configuration_page s) ≡ configuration_length s
  unfolding needed_length configuration_length
  needed = ap (text_place_on (configuration_page s)) (page_types s) ∙ page_starts s (types_of s) (omega arith)

  -- no byte before the headers offends
  ten : fixed_offends 10 (get_or (configuration_page s) 10 0) ≡ false
  unfolding fixed_offends
  ten = ap (fixed_offends 10) (page_types s) ∙ ap not (and_both (in_head s w).0 (in_head s w).1)

  fixed_fine : (k : ℕ) → k < 48 → fixed_offends k (get_or (configuration_page s) k 0) ≡ false
  unfolding fixed_offends fixed_part
  fixed_fine k h =
      by_case (eqb k 1) (λ e. at 1 e (ap (fixed_offends 1) (page_fixed s 1 (omega arith)))) (λ n1.
      by_case (eqb k 9) (λ e. at 9 e (ap (fixed_offends 9) (page_fixed s 9 (omega arith)))) (λ n9.
      by_case (eqb k 8) (λ e. at 8 e (ap (fixed_offends 8) (page_fixed s 8 (omega arith)))) (λ n8.
      by_case (eqb k 10) (λ e. at 10 e ten) (λ n10.
      by_case (eqb k 11) (λ e. at 11 e (ap (fixed_offends 11) (page_fixed s 11 (omega arith)))) (λ n11.
      sym (none_offends k (get_or (configuration_page s) k 0) (λ q. ⊎_elim (eqb-false k 1 n1) (eqb-false k 9 n9) q) (eqb-false k 8 n8) (eqb-false k 10 n10) (eqb-false k 11 n11)))))))
    where
      at : (j : ℕ) → eqb k j ≡ true → fixed_offends j (get_or (configuration_page s) j 0) ≡ false → fixed_offends k (get_or (configuration_page s) k 0) ≡ false
      at j e q = ap (λ (i : ℕ). fixed_offends i (get_or (configuration_page s) i 0)) (eqb-true k j e) ∙ q

  -- none of a header
  module _ (t : ℕ) (h : t < types_of s) where
    few_so_far : total_before (configuration_page s) t + type_count s t ≤ most_elements
    unfolding elements_of before
    few_so_far =
        let n = few_types s w in
        let e = few_elements s w in
        rw (page_counts s t (omega arith)) (omega (arith, sum_part (type_count s) most_types t (omega arith)))

    header_fine : (j : ℕ) → j < 4 → header_offends (configuration_page s) t j (header_byte (configuration_page s) j t) ≡ false
    unfolding header_offends
    header_fine j l =
        let p = configuration_page s in
        by_case (eqb j 0) (λ e. at 0 e (ap (header_offends p t 0) (page_header s t 0 h (omega arith)) ∙ ap not (in_type_lem s w t h).0)) (λ n0.
        by_case (eqb j 1) (λ e. at 1 e (ap (header_offends p t 1) (page_header s t 1 h (omega arith)) ∙ ap not (and_both (in_type_lem s w t h).1 (le-leb _ most_elements few_so_far)))) (λ n1.
        by_case (eqb j 2) (λ e. at 2 e (ap (header_offends p t 2) (page_header s t 2 h (omega arith)))) (λ n2.
        three (eqb-false j 0 n0) (eqb-false j 1 n1) (eqb-false j 2 n2))))
      where
        at : (i : ℕ) → eqb j i ≡ true → header_offends (configuration_page s) t i (header_byte (configuration_page s) i t) ≡ false
            → header_offends (configuration_page s) t j (header_byte (configuration_page s) j t) ≡ false
        at i e q = ap (λ (i : ℕ). header_offends (configuration_page s) t i (header_byte (configuration_page s) i t)) (eqb-true j i e) ∙ q

        three : (j ≡ 0 → ⊥) → (j ≡ 1 → ⊥) → (j ≡ 2 → ⊥) → header_offends (configuration_page s) t j (header_byte (configuration_page s) j t) ≡ false
        three n0 n1 n2 =
            let e : j ≡ 3 = omega arith in
            ap (λ (i : ℕ). header_offends (configuration_page s) t i (header_byte (configuration_page s) i t)) e
            ∙ ap (header_offends (configuration_page s) t 3) (page_header s t 3 h (omega arith))
            ∙ ap not (in_type_lem s w t h).2

  -- none of a text
  text_fine : (k : ℕ) → k < length (joined (text_of s) (types_of s)) → text_offends (get_or (joined (text_of s) (types_of s)) k 0) ≡ false
  unfolding text_offends text_of
  text_fine k h =
      ap not
      (each_get (λ b. printable b ≡ true) (joined (text_of s) (types_of s)) k
      (each_joined (λ b. printable b ≡ true) (text_of s) (types_of s) (λ t l. each_bytes (λ b. printable b ≡ true) s (text_place t) (text_length s t) (λ i m. text_printable s w t l i m)))
      h)

  fine : (k : ℕ) → k < length (configuration_page s) → offends (configuration_page s) k ≡ false
  unfolding offends configuration_page
  fine k h =
      by_case (ltb k 48) (λ e. pick_yes _ _ _ e ∙ fixed_fine k (ltb-true k 48 e)) (λ e. pick_no _ _ _ e ∙ by_case (ltb k (header_place (types_on p)))
      (λ f. pick_yes _ _ _ f ∙ in_header (ltb-false k 48 e) (rw (page_types s) at (ltb-true k (header_place (types_on p)) f)))
      (λ f. pick_no _ _ _ f ∙ in_text (rw (page_types s) at (ltb-false k (header_place (types_on p)) f))))
    where
      p : List ℕ
      p = configuration_page s

      in_header : 48 ≤ k → k < header_place (types_of s) → header_offends p ((k - 48) / 4) ((k - 48) % 4) (get_or p k 0) ≡ false
      in_header l m =
          let t : ℕ = (k - 48) / 4 in
          let j : ℕ = (k - 48) % 4 in
          let e : k ≡ header_place t + j = omega arith in
          ap (λ (i : ℕ). header_offends p t j (get_or p i 0)) e ∙ header_fine t (omega arith) j (omega arith)

      in_text : header_place (types_of s) ≤ k → text_offends (get_or p k 0) ≡ false
      in_text l =
          let n = types_of s in
          let i : ℕ = k - header_place n in
          let head : List ℕ = fixed_part s (configuration_length s - 4) ++ joined (type_header s) n in
          let e : k ≡ header_place n + i = omega arith in
          ap (λ (m : ℕ). text_offends (get_or p m 0)) e
          ∙ ap text_offends (page_texts s i)
          ∙ text_fine i (omega (arith, headers_end s (configuration_length s - 4), length-append head (joined (text_of s) n)))

  accepted : configuration_read (configuration_page s) ≡ Ok tt
  unfolding first_offence fixed_part
  accepted =
      let p = configuration_page s in
      let o = first_none (offends p) (length p) (below_all (fails (offends p)) (length p) (λ k l. ap not (fine k l))) in
      parts_read p (omega (arith, headers_first s (length-page s))) (page_fixed s 0 (omega arith)) said (length-page s ∙ sym needed) o

  -- generation code and identification
  told_generation : four_at (configuration_page s) 4 ≡ four_at s 0
  unfolding fixed_part
  told_generation =
      let e4 : get_or (configuration_page s) 4 0 ≡ get_or s 0 0 = page_fixed s 4 (omega arith) in
      let e5 : get_or (configuration_page s) 5 0 ≡ get_or s 1 0 = page_fixed s 5 (omega arith) in
      let e6 : get_or (configuration_page s) 6 0 ≡ get_or s 2 0 = page_fixed s 6 (omega arith) in
      let e7 : get_or (configuration_page s) 7 0 ≡ get_or s 3 0 = page_fixed s 7 (omega arith) in
      rw (e4, e5, e6, e7)

  told_identification : bytes_at (configuration_page s) 12 36 ≡ bytes_at s 4 36
  unfolding fixed_part
  told_identification =
      bytes_same (configuration_page s) s 12 4 36 (λ i l.
      page_fixed s (12 + i) (omega arith)
      ∙ get_behind ((0x01 ∷ 0 ∷ bytes 2 (configuration_length s - 4)) ++ four_at s 0 ++ (0x11 ∷ 0 ∷ types_of s ∷ 0x24 ∷ [])) (bytes_at s 4 36) 12 i refl
      ∙ ap (λ (r : List ℕ). get_or r i 0) (sym (append-nil (bytes_at s 4 36)))
      ∙ bytes_get s 4 36 i [] l)

  told_types : types_on (configuration_page s) ∷ 0 ∷ 0 ∷ 0 ∷ [] ≡ four_at s 40
  told_types =
      let h = in_head s w in
      rw (page_types s, eqb-true (get_or s 41 0) 0 h.2, eqb-true (get_or s 42 0) 0 h.3, eqb-true (get_or s 43 0) 0 h.4)

  -- a header, and the zeros past the last type
  named_byte : (t j : ℕ) → t < types_of s → j < 4 → told_byte (configuration_page s) j t ≡ get_or (type_header s t) j 0
  named_byte t j h l = told_byte_lem (configuration_page s) t j (rw (page_types s) h) ∙ page_header s t j h l

  unnamed_byte : (t j : ℕ) → types_of s ≤ t → told_byte (configuration_page s) j t ≡ 0
  unnamed_byte t j h = past_byte (configuration_page s) t j (rw (page_types s) h)

  told_head : (t : ℕ) → t < most_types → head_told (configuration_page s) t ≡ four_at s (type_place t)
  unfolding head_told
  told_head t h = by_case (ltb t (types_of s)) (λ e. named (ltb-true t (types_of s) e)) (λ e. past (ltb-false t (types_of s) e))
    where
      named : t < types_of s → told_byte (configuration_page s) 0 t ∷ told_byte (configuration_page s) 1 t ∷ told_byte (configuration_page s) 3 t ∷ 0 ∷ [] ≡ four_at s (type_place t)
      named l =
          rw (
            named_byte t 0 l (omega arith),
            named_byte t 1 l (omega arith),
            named_byte t 3 l (omega arith),
            eqb-true (get_or s (type_place t + 3) 0) 0 (in_type_lem s w t l).3,
          )

      past : types_of s ≤ t → told_byte (configuration_page s) 0 t ∷ told_byte (configuration_page s) 1 t ∷ told_byte (configuration_page s) 3 t ∷ 0 ∷ [] ≡ four_at s (type_place t)
      past l =
          let z : get_or s (type_place t) 0 ≡ 0 = ap (λ (k : ℕ). get_or s k 0) (sym (add-zero (type_place t))) ∙ type_clear s w t 0 l h (omega arith) in
          rw (
            unnamed_byte t 0 l,
            unnamed_byte t 1 l,
            unnamed_byte t 3 l,
            z,
            type_clear s w t 1 l h (omega arith),
            type_clear s w t 2 l h (omega arith),
            type_clear s w t 3 l h (omega arith),
          )

  -- a text, and the zeros behind it
  told_text_byte : (t i : ℕ) → t < most_types → i < most_text → text_byte (configuration_page s) t i ≡ get_or s (text_place t + i) 0
  unfolding text_byte
  told_text_byte t i h l = by_case (ltb t (types_of s)) (λ e. named (ltb-true t (types_of s) e)) (λ e. past (ltb-false t (types_of s) e))
    where
      p : List ℕ
      p = configuration_page s

      named : t < types_of s → text_byte p t i ≡ get_or s (text_place t + i) 0
      named m =
          let q : told_byte p 3 t ≡ text_length s t = named_byte t 3 m (omega arith) in
          by_case (ltb i (text_length s t))
          (λ e. pick_yes _ _ _ (ap (ltb i) q ∙ e) ∙ page_text s t i m (ltb-true i (text_length s t) e))
          (λ e. pick_no _ _ _ (ap (ltb i) q ∙ e) ∙ sym (text_padded s w t m i (ltb-false i (text_length s t) e) l))

      past : types_of s ≤ t → text_byte p t i ≡ get_or s (text_place t + i) 0
      past m =
          let q : type_place t + (4 + i) ≡ text_place t + i = omega arith in
          pick_no _ _ _ (ap (ltb i) (unnamed_byte t 3 m) ∙ le-ltb i 0 (omega arith))
          ∙ sym (type_clear s w t (4 + i) m h (omega arith))
          ∙ ap (λ (k : ℕ). get_or s k 0) q

  told_text : (t : ℕ) → t < most_types → text_told (configuration_page s) t ≡ bytes_at s (text_place t) most_text
  unfolding text_told bytes_at
  told_text t h =
      joined_same (one_told (configuration_page s) t) (one_at s (text_place t)) most_text (λ i l. ap (λ (x : ℕ). x ∷ []) (told_text_byte t i h l))

  told_type : (t : ℕ) → t < most_types → type_told (configuration_page s) t ≡ bytes_at s (type_place t) type_size
  unfolding type_told
  told_type t h =
      rw (told_head t h, told_text t h)
      (ap (λ (r : List ℕ). r ++ bytes_at s (text_place t) most_text) (sym (four_bytes s (type_place t))) ∙ sym (bytes_split s (type_place t) 4 most_text))

  told_front : configuration_of (configuration_page s) ≡ bytes_at s 0 (element_place 0)
  unfolding configuration_of
  told_front =
      pieces (told_generation ∙ sym (four_bytes s 0)) told_identification (told_types ∙ sym (four_bytes s 40))
      (joined_same (type_told (configuration_page s)) row most_types told_type)
      ∙ ap (λ (r : List ℕ). r ++ bytes_at s 40 4 ++ joined row most_types) (sym (bytes_split s 0 4 36))
      ∙ ap (λ (r : List ℕ). r ++ joined row most_types) (sym (bytes_split s 0 40 4))
      ∙ sym (bytes_rows s type_place (λ t. type_size) (λ t. omega arith) most_types)
    where
      row : ℕ → List ℕ
      row t = bytes_at s (type_place t) type_size

  -- a front is read back as it was
  pub read_back : element_place 0 ≤ length s
      → (configuration_read (configuration_page s) ≡ Ok tt) × (configuration_of (configuration_page s) ≡ take (element_place 0) s)
  read_back l = (accepted, told_front ∙ bytes_there s 0 (element_place 0) l)

-- and so are a well-formed shelf's, and a well-formed configuration
pub shelf_back : (s : List ℕ) → well_formed s ≡ true
    → (configuration_read (configuration_page s) ≡ Ok tt) × (configuration_of (configuration_page s) ≡ take (element_place 0) s)
shelf_back s w = read_back s (front_formed_lem s w) (omega (arith, length-formed s w))

pub configuration_back : (c : List ℕ) → configuration_formed c ≡ true
    → (configuration_read (configuration_page c) ≡ Ok tt) × (configuration_of (configuration_page c) ≡ c)
unfolding configuration_formed
configuration_back c w =
    let l = eqb-true (length c) (element_place 0) (and_right (front_formed c) (eqb (length c) (element_place 0)) w) in
    let r = read_back c (and_left (front_formed c) (eqb (length c) (element_place 0)) w) (omega arith) in
    (r.0, r.1 ∙ take_all (element_place 0) c (omega arith))
