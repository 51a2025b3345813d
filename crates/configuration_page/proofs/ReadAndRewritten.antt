-- What an accepted page tells is a well-formed configuration, and its page is that page. Assumes nothing.
use Rattle.std.specs.Prelude.{Ok}
use mathlib.Core.Path.{◌≡◌, refl, sym, ap, ap₂, ◌∙◌}
use mathlib.Core.Bool.{true}
use mathlib.Core.List.{List, [], ◌∷◌, ◌++◌}
use Prim.Native.Nat.{ℕ, zero, suc, ◌+◌, ◌-◌, ◌<◌, ◌≤◌}
use native.Mathlib.Nat.{add-zero}
use native.Mathlib.Omega.{arith}
use lib.Dec.{leb, ltb}
use lib.ListN.{length, get_or}
use borrow.Author.Tests.{leb-true, le-leb, lt-ltb, le-ltb, ltb-true, ltb-false, eq-eqb, eqb-true}
use Rattle.bits.specs.Bits.{printable}
use Rattle.bits.specs.Choice.{sum_below}
use Rattle.bits.specs.Numbers.{big, bytes, Each, Bytes}
use Rattle.bits.specs.Places.{two_at, four_at}
use Rattle.bits.specs.Rows.{joined, bytes_at}
use Rattle.bits.proofs.Each.{each_joined, each_get, byte_small}
use Rattle.bits.proofs.Logic.{by_case, and_both, pick_yes, pick_no, below_all}
use Rattle.bits.proofs.Parts.{pieces, bytes_split, bytes_rows}
use Rattle.bits.proofs.Rows.{joined_same, bytes_same, four_bytes, bytes_whole}
use Rattle.bits.proofs.RowStarts.{start_first, start_step, start_behind, start_same, row_in}
use Rattle.bits.proofs.Sums.{sum_same}
use Rattle.bits.proofs.Widths.{bytes_big}
use Rattle.element.specs.Types.{served}
use Rattle.shelf.specs.Limits.{most_types, most_elements, most_in_type, most_text, type_size, type_place, text_place, element_place}
use Rattle.shelf.specs.Types.{types_of, type_code, type_count, text_length, before, elements_of}
use Rattle.shelf_formed.specs.Formed.{head_formed, text_byte_formed, text_formed, type_formed, type_byte_empty, type_empty, slot_formed, types_formed, front_formed, configuration_formed}
use Rattle.page.specs.Header.{length_said}
use Rattle.configuration_page.specs.Page.{header_place, type_header, text_of, configuration_length, fixed_part, configuration_page}
use Rattle.configuration_page.specs.Read.{types_on, header_byte, total_before, text_place_on, configuration_read}
use Rattle.configuration_page.specs.Configuration.{told_byte, text_byte, one_told, head_told, text_told, type_told, configuration_of}
use Rattle.configuration_page.proofs.PartsPut.{length_type, length-configuration}
use Rattle.configuration_page.proofs.AcceptedPage.{code_passed, length-passed, needed_passed, byte_1, byte_8, byte_9, byte_11, types_passed, code_served, counts_passed, third_zero, text_short, text_passed}
use Rattle.configuration_page.proofs.TextStarts.{told_byte_lem, past_byte, told_sum, few_types}
use Rattle.configuration_page.proofs.PlacesInConfiguration.{handed_generation, handed_identification, handed_types, handed_zeros, handed_type, handed_code, handed_count, handed_length, handed_spare, handed_text}

-- past the last type a page tells zeros
past_text : (p : List ℕ) (t i : ℕ) → types_on p ≤ t → text_byte p t i ≡ 0
unfolding text_byte
past_text p t i h = pick_no _ _ _ (ap (ltb i) (past_byte p t 3 h) ∙ le-ltb i 0 (omega arith))

past_type : (p : List ℕ) (t : ℕ) → types_on p ≤ t → Each (λ b. b ≡ 0) (type_told p t)
unfolding type_told head_told text_told
past_type p t h =
    let text = each_joined (λ b. b ≡ 0) (one_told p t) most_text (λ i l. (past_text p t i h, tt)) in
    (past_byte p t 0 h, (past_byte p t 1 h, (past_byte p t 3 h, (refl, text))))

module _ (p : List ℕ) (a : configuration_read p ≡ Ok tt) where
  module _ (t : ℕ) (h : t < types_on p) where
    below : t < most_types
    below = omega (arith, few_types p a)

    told_length : text_length (configuration_of p) t ≡ header_byte p 3 t
    told_length = handed_length p t below ∙ told_byte_lem p t 3 h

    short : header_byte p 3 t ≤ most_text
    short = leb-true (header_byte p 3 t) most_text (text_short p a t h)

    told_text : (i : ℕ) → i < header_byte p 3 t → get_or (configuration_of p) (text_place t + i) 0 ≡ get_or p (text_place_on p t + i) 0
    unfolding text_byte
    told_text i l =
        handed_text p t below i (omega (arith, short))
        ∙ pick_yes _ _ _ (lt-ltb i (told_byte p 3 t) (rw (told_byte_lem p t 3 h) l))

    -- the text stands on the page
    on_page_lem : (i : ℕ) → i < header_byte p 3 t → text_place_on p t + i < length p
    on_page_lem i l = omega (arith, needed_passed p a, row_in (header_place (types_on p)) (header_byte p 3) (types_on p) t h)

    after_headers : (i : ℕ) → header_place (types_on p) ≤ text_place_on p t + i
    after_headers i = omega (arith, start_behind (header_place (types_on p)) (header_byte p 3) t)

    text_byte_lem : (i : ℕ) → i < most_text → text_byte_formed (configuration_of p) t i ≡ true
    unfolding text_byte
    text_byte_lem i l =
        let c = configuration_of p in
        by_case (ltb i (text_length c t))
        (λ e.
        let m : i < header_byte p 3 t = rw told_length at (ltb-true i (text_length c t) e) in
        pick_yes _ _ _ e ∙ ap printable (told_text i m) ∙ text_passed p a (text_place_on p t + i) (after_headers i) (on_page_lem i m))
        (λ e.
        let m : header_byte p 3 t ≤ i = rw told_length at (ltb-false i (text_length c t) e) in
        pick_no _ _ _ e ∙ eq-eqb _ 0 (handed_text p t below i l ∙ pick_no _ _ _ (le-ltb i (told_byte p 3 t) (rw (told_byte_lem p t 3 h) m))))

    type_formed_lem : type_formed (configuration_of p) t ≡ true
    unfolding type_formed text_formed
    type_formed_lem =
        let c = configuration_of p in
        and_both
        (and_both
        (and_both
        (and_both
        (ap served (handed_code p t below ∙ told_byte_lem p t 0 h) ∙ code_served p a t h)
        (ap (λ (n : ℕ). leb n most_in_type) (handed_count p t below ∙ told_byte_lem p t 1 h) ∙ (counts_passed p a t h).0))
        (ap (λ (n : ℕ). leb n most_text) told_length ∙ text_short p a t h))
        (eq-eqb (get_or c (type_place t + 3) 0) 0 (handed_spare p t below)))
        (below_all (text_byte_formed c t) most_text text_byte_lem)

  type_empty_lem : (t : ℕ) → types_on p ≤ t → t < most_types → type_empty (configuration_of p) t ≡ true
  unfolding type_empty
  type_empty_lem t h l =
      below_all (type_byte_empty (configuration_of p) t) type_size
      (λ i m. eq-eqb _ 0 (handed_type p t l i m ∙ each_get (λ b. b ≡ 0) (type_told p t) i (past_type p t h) (rw (length_type p t) m)))

  slot_formed_lem : (t : ℕ) → t < most_types → slot_formed (configuration_of p) (types_of (configuration_of p)) t ≡ true
  unfolding slot_formed
  slot_formed_lem t l =
      let n = types_of (configuration_of p) in
      by_case (ltb t n)
      (λ e. pick_yes _ _ _ e ∙ type_formed_lem t (rw (handed_types p) at (ltb-true t n e)))
      (λ e. pick_no _ _ _ e ∙ type_empty_lem t (rw (handed_types p) at (ltb-false t n e)) l)

  -- the counts of all types are those that the page has
  few_on : (n : ℕ) → n ≡ types_on p → sum_below (header_byte p 1) n ≤ most_elements
  unfolding total_before
  few_on zero e = omega arith
  few_on (suc n) e =
      leb-true (total_before p n + header_byte p 1 n) most_elements (counts_passed p a n (omega arith)).1

  all_counts : elements_of (configuration_of p) ≡ sum_below (header_byte p 1) (types_on p)
  unfolding elements_of before
  all_counts =
      sum_same (type_count (configuration_of p)) (told_byte p 1) most_types (λ t l. handed_count p t l)
      ∙ told_sum p 1 most_types (few_types p a)

  pub formed_again : configuration_formed (configuration_of p) ≡ true
  unfolding configuration_formed front_formed head_formed types_formed
  formed_again =
      let c = configuration_of p in
      let z = handed_zeros p in
      and_both
      (and_both
      (and_both
      (and_both
      (and_both
      (and_both
      (and_both (ap (leb 1) (handed_types p) ∙ (types_passed p a).0) (ap (λ (n : ℕ). leb n most_types) (handed_types p) ∙ (types_passed p a).1))
      (eq-eqb (get_or c 41 0) 0 z.0))
      (eq-eqb (get_or c 42 0) 0 z.1))
      (eq-eqb (get_or c 43 0) 0 z.2))
      (below_all (slot_formed c (types_of c)) most_types slot_formed_lem))
      (le-leb (elements_of c) most_elements (rw all_counts (few_on (types_on p) refl))))
      (eq-eqb (length c) (element_place 0) (length-configuration p))

  -- the page of what was told, part by part
  same_length_lem : configuration_length (configuration_of p) ≡ length p
  unfolding configuration_length
  same_length_lem =
      rw (handed_types p)
      (start_same (header_place (types_on p)) (text_length (configuration_of p)) (header_byte p 3) (types_on p) told_length ∙ sym (needed_passed p a))

  header_on : ℕ → List ℕ
  header_on t = bytes_at p (header_place t) 4

  same_headers : joined (type_header (configuration_of p)) (types_on p) ≡ joined header_on (types_on p)
  unfolding header_on
  same_headers = joined_same (type_header (configuration_of p)) header_on (types_on p) (λ t l. header t l ∙ sym (four_bytes p (header_place t)))
    where
      header : (t : ℕ) → t < types_on p → type_header (configuration_of p) t ≡ four_at p (header_place t)
      header t l =
          let z : get_or p (header_place t + 0) 0 ≡ get_or p (header_place t) 0 = ap (λ (k : ℕ). get_or p k 0) (add-zero (header_place t)) in
          let e0 : type_code (configuration_of p) t ≡ get_or p (header_place t) 0 = handed_code p t (below t l) ∙ told_byte_lem p t 0 l ∙ z in
          let e1 : type_count (configuration_of p) t ≡ get_or p (header_place t + 1) 0 = handed_count p t (below t l) ∙ told_byte_lem p t 1 l in
          rw (e0, e1, third_zero p a t l, told_length t l)

  text_on : ℕ → List ℕ
  text_on t = bytes_at p (text_place_on p t) (header_byte p 3 t)

  same_texts : joined (text_of (configuration_of p)) (types_on p) ≡ joined text_on (types_on p)
  unfolding text_of text_on
  same_texts =
      let c = configuration_of p in
      joined_same (text_of c) text_on (types_on p)
      (λ t l.
      ap (bytes_at c (text_place t)) (told_length t l)
      ∙ bytes_same c p (text_place t) (text_place_on p t) (header_byte p 3 t) (λ i m. told_text t l i m))

  module _ (b : Bytes p) where
    -- the length field
    same_field : bytes 2 (configuration_length (configuration_of p) - 4) ≡ two_at p 2
    unfolding length_said
    same_field =
        let n : ℕ = big (two_at p 2) in
        let e : length p ≡ n + 4 = eqb-true (length p) (n + 4) (length-passed p a) in
        let q : configuration_length (configuration_of p) - 4 ≡ n = rw (same_length_lem, e) (omega arith) in
        ap (bytes 2) q ∙ bytes_big (two_at p 2) (byte_small p b 2, (byte_small p b 3, tt))

    same_first : 0x01 ∷ 0 ∷ bytes 2 (configuration_length (configuration_of p) - 4) ≡ four_at p 0
    same_first =
        ap (λ (r : List ℕ). 0x01 ∷ 0 ∷ r) same_field
        ∙ ap₂ (λ (x y : ℕ). x ∷ y ∷ two_at p 2) (sym (code_passed p a)) (sym (byte_1 p a))

    same_fixed : fixed_part (configuration_of p) (configuration_length (configuration_of p) - 4) ≡ bytes_at p 0 48
    unfolding fixed_part
    same_fixed =
        let third : 0x11 ∷ 0 ∷ types_of (configuration_of p) ∷ 0x24 ∷ [] ≡ four_at p 8 = rw (handed_types p, byte_8 p a, byte_9 p a, byte_11 p a) in
        pieces (same_first ∙ sym (four_bytes p 0)) (handed_generation p ∙ sym (four_bytes p 4)) (third ∙ sym (four_bytes p 8))
        (bytes_same (configuration_of p) p 4 12 36 (handed_identification p))
        ∙ ap (λ (r : List ℕ). r ++ bytes_at p 8 4 ++ bytes_at p 12 36) (sym (bytes_split p 0 4 4))
        ∙ ap (λ (r : List ℕ). r ++ bytes_at p 12 36) (sym (bytes_split p 0 8 4))
        ∙ sym (bytes_split p 0 12 36)

    pub page_again_lem : configuration_page (configuration_of p) ≡ p
    unfolding configuration_page header_on text_on
    page_again_lem =
        let n = types_on p in
        let c = configuration_of p in
        let k = header_place n in
        let w = header_byte p 3 in
        ap₂ (λ (f r : List ℕ). f ++ r ++ joined (text_of c) (types_of c)) same_fixed (ap (joined (type_header c)) (handed_types p) ∙ same_headers)
        ∙ ap₂ (λ (f r : List ℕ). f ++ r) (sym (bytes_rows p header_place (λ t. 4) (λ t. omega arith) n)) (ap (joined (text_of c)) (handed_types p) ∙ same_texts)
        ∙ ap (λ (m : ℕ). bytes_at p 0 m ++ joined text_on n) (sym (start_first k w))
        ∙ sym (bytes_rows p (text_place_on p) w (start_step k w) n)
        ∙ bytes_whole p (text_place_on p n) (needed_passed p a)

-- so what a reading handed back is well formed, and writing it again is the same bytes
pub again : (p : List ℕ) → Bytes p → configuration_read p ≡ Ok tt
    → (configuration_formed (configuration_of p) ≡ true) × (configuration_page (configuration_of p) ≡ p)
again p b a = (formed_again p a, page_again_lem p a b)
