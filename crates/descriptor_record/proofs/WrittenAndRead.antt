-- The Element Descriptor page of a well-formed shelf is accepted, and hands back the shelf's names. Assumes nothing.
use Rattle.std.specs.Prelude.{Ok}
use mathlib.Core.Path.{◌≡◌, refl, sym, ap, ◌∙◌}
use mathlib.Core.Bool.{true, false, not}
use mathlib.Core.List.{List, [], ◌++◌, append-nil}
use Prim.Native.Nat.{ℕ, zero, suc, ◌+◌, ◌-◌, ◌<◌, ◌≤◌}
use native.Mathlib.Nat.{add-zero}
use native.Mathlib.Omega.{arith}
use lib.Dec.{ltb}
use lib.ListN.{length, get_or}
use borrow.Author.Tests.{eq-eqb, le-leb, ltb-true, ltb-false}
use Rattle.bits.specs.Bits.{printable}
use Rattle.bits.specs.Choice.{first_below}
use Rattle.bits.specs.Places.{four_at}
use Rattle.bits.specs.Rows.{joined, bytes_at}
use Rattle.bits.proofs.Logic.{by_case, fails, below_all, first_none}
use Rattle.bits.proofs.Ends.{found, part_start, part_end, part_there}
use Rattle.bits.proofs.Rows.{joined_same, bytes_get}
use Rattle.bits.proofs.RowStarts.{start_first, start_step}
use Rattle.record_head.specs.Head.{record_head}
use Rattle.shelf.specs.Limits.{most_types, most_elements, most_text}
use Rattle.shelf_formed.specs.Formed.{well_formed, configuration_formed}
use Rattle.shelf_formed.proofs.FrontOfShelf.{front, front_get, configuration_of_lem}
use Rattle.page.specs.Slots.{slots_of}
use Rattle.page.proofs.HeaderTests.{length-passed}
use Rattle.page.proofs.SlotBounds.{configuration_front, slots_bound}
use Rattle.page.proofs.SlotsOfFront.{slots_same}
use Rattle.names.specs.Name.{name_in, is_name, padded}
use Rattle.names.specs.Names.{name_of}
use Rattle.names.proofs.NameBack.{name_short, text_printable}
use Rattle.names.proofs.FoundExactly.{always_name}
use Rattle.descriptor_page.specs.Page.{width, start_of, descriptor_page, names_page}
use Rattle.descriptor_page.proofs.PagePlaced.{length-page}
use Rattle.descriptor_page.proofs.DescriptorsBack.{own_zero, frame_passes, generation_passes, first_zero, second_zero, length_back, text_back}
use Rattle.descriptor_page.proofs.SamePages.{page_same}
use Rattle.descriptor_record.specs.Read.{declared, place_on, byte_offends, offends, head_tested, bytes_tested, page_tested, names_read, name_on, names_record}
use Rattle.descriptor_record.specs.Rewritten.{entry_place}
use Rattle.descriptor_record.proofs.ReadAndRewritten.{name_again}
use Rattle.descriptor_record.proofs.DescriptorPlaces.{place_next, offends_in, offends_first, offends_head}
use Rattle.descriptor_record.proofs.FirstOffence.{offends_zero, offends_length, offends_never, offends_text}

-- a page of names f, for a configuration
module _ (c : List ℕ) (w : configuration_formed c ≡ true) (f : ℕ → List ℕ) (h : (i : ℕ) → i < slots_of c → is_name (f i) ≡ true) where
  abbrev told : List ℕ
  told = descriptor_page c f (slots_of c)

  short : (i : ℕ) → i < slots_of c → length (f i) ≤ most_text
  short i l = name_short (f i) (h i l)

  few : slots_of c ≤ most_types + most_elements
  few = slots_bound c (configuration_front c w)

  -- each descriptor is read where it was put
  declared_back : (i : ℕ) → i < slots_of c → declared told (start_of f i) ≡ length (f i)
  unfolding declared
  declared_back i l = length_back c f (slots_of c) i l (short i l)

  place_back : (i : ℕ) → i ≤ slots_of c → place_on told i ≡ start_of f i
  place_back zero l = sym (start_first 8 (width f))
  place_back (suc i) l =
      let e = place_back i (omega arith) in
      ap (λ (k : ℕ). k + (4 + declared told k)) e ∙ ap (λ (d : ℕ). start_of f i + (4 + d)) (declared_back i l) ∙ sym (start_step 8 (width f) i)

  name_told : (i : ℕ) → i < slots_of c → name_on told i ≡ f i
  unfolding name_on
  name_told i l =
      let e = place_back i (omega arith) in
      ap (λ (k : ℕ). bytes_at told (k + 4) (declared told k)) e ∙ ap (bytes_at told (start_of f i + 4)) (declared_back i l) ∙ text_back c f (slots_of c) i l

  -- none of its bytes offends
  fine : (i j : ℕ) → i < slots_of c → j < 4 + length (f i) → byte_offends told (start_of f i) j ≡ false
  fine i zero l m = offends_zero told (start_of f i) 0 (omega arith) ∙ ap not (eq-eqb _ _ (ap (λ (k : ℕ). get_or told k 0) (add-zero (start_of f i)) ∙ first_zero c f (slots_of c) i l))
  fine i (suc zero) l m = offends_zero told (start_of f i) 1 (omega arith) ∙ ap not (eq-eqb _ _ (second_zero c f (slots_of c) i l))
  fine i (suc (suc zero)) l m = offends_length told (start_of f i) ∙ ap not (le-leb (declared told (start_of f i)) most_text (rw (declared_back i l) (short i l)))
  fine i (suc (suc (suc zero))) l m = offends_never told (start_of f i)
  fine i (suc (suc (suc (suc j)))) l m =
      let e : suc (suc (suc (suc j))) ≡ 4 + j = omega arith in
      let n = length (f i) in
      let at = start_of f i + 4 in
      let b : get_or told (at + j) 0 ≡ get_or (f i) j 0 =
      sym (bytes_get told at n j [] (omega arith)) ∙ ap (λ (x : List ℕ). get_or x j 0) (append-nil (bytes_at told at n) ∙ text_back c f (slots_of c) i l) in
      ap (byte_offends told (start_of f i)) e ∙ offends_text told (start_of f i) j ∙ ap not (ap printable b ∙ text_printable (f i) (h i l) j (omega arith))

  fine_in : (i j : ℕ) → i < slots_of c → j < 4 + declared told (place_on told i) → offends told (slots_of c) (place_on told i + j) ≡ false
  fine_in i j l m =
      let p = place_back i (omega arith) in
      let d : declared told (place_on told i) ≡ length (f i) = ap (declared told) p ∙ declared_back i l in
      offends_in told (slots_of c) i j l m ∙ ap (λ (x : ℕ). byte_offends told x j) p ∙ fine i j l (omega (arith, d))

  none : (k : ℕ) → k < place_on told (slots_of c) → offends told (slots_of c) k ≡ false
  none k l =
      by_case (ltb k 8)
      (λ e. offends_head told (slots_of c) k (ltb-true k 8 e) (offends_first told (slots_of c) ∙ ap not (eq-eqb _ _ (own_zero c f (slots_of c)))))
      (λ e.
      let u = ltb-false k 8 e in
      let i = found (place_on told) k (slots_of c) in
      let m : i < slots_of c = part_there (place_on told) k (slots_of c) (omega arith) l in
      let a = part_start (place_on told) k (slots_of c) (omega arith) in
      let b = part_end (place_on told) k (slots_of c) m in
      let j = k - place_on told i in
      let q : k ≡ place_on told i + j = omega arith in
      let d : j < 4 + declared told (place_on told i) = omega (arith, place_next told i) in
      ap (offends told (slots_of c)) q ∙ fine_in i j m d)

  pub names_read_lem : names_read c told ≡ Ok tt
  unfolding names_read page_tested head_tested bytes_tested
  names_read_lem =
      let m = slots_of c in
      let e : length told ≡ place_on told m = length-page c f m ∙ sym (place_back m (omega arith)) in
      let k = first_below (offends told m) (place_on told m) in
      let o : k ≡ place_on told m = first_none (offends told m) (place_on told m) (below_all (fails (offends told m)) (place_on told m) (λ i l. ap not (none i l))) in
      rw (w, frame_passes c f m few short, sym (length-passed told (place_on told m) e), generation_passes c f m, eq-eqb k (place_on told m) o)

  pub names_handed : names_record c told ≡ record_head 0 0 (slots_of c) ++ joined (λ i. padded (f i)) (slots_of c)
  unfolding names_record
  names_handed =
      ap (λ (x : List ℕ). record_head 0 0 (slots_of c) ++ x)
      (joined_same (λ i. padded (name_on told i)) (λ i. padded (f i)) (slots_of c) (λ i l. ap padded (name_told i l)))

-- of a shelf, under its own configuration
module _ (s : List ℕ) (w : well_formed s ≡ true) where
  page_told : descriptor_page (front s) (name_of s) (slots_of (front s)) ≡ names_page s
  unfolding names_page
  page_told =
      let g : four_at (front s) 0 ≡ four_at s 0 = rw (front_get s 0 (omega arith), front_get s 1 (omega arith), front_get s 2 (omega arith), front_get s 3 (omega arith)) in
      ap (descriptor_page (front s) (name_of s)) (slots_same s) ∙ page_same (front s) s (name_of s) (name_of s) (slots_of s) g (λ i l. refl)

  pub told_read : names_read (front s) (names_page s) ≡ Ok tt
  told_read = ap (names_read (front s)) (sym page_told) ∙ names_read_lem (front s) (configuration_of_lem s w) (name_of s) (λ i l. always_name s i)

  -- each entry is the name of its slot, whatever stands behind the last
  pub told_names : (rest : List ℕ) (i : ℕ) → i < slots_of s → name_in (names_record (front s) (names_page s) ++ rest) (entry_place 0) i ≡ name_of s i
  told_names rest i l =
      let m : i < slots_of (front s) = rw (slots_same s) l in
      name_again (front s) (names_page s) rest told_read i m
      ∙ ap (λ (p : List ℕ). name_on p i) (sym page_told)
      ∙ name_told (front s) (configuration_of_lem s w) (name_of s) (λ i l. always_name s i) i m

  pub told_record : names_record (front s) (names_page s) ≡ record_head 0 0 (slots_of s) ++ joined (λ i. padded (name_of s i)) (slots_of s)
  told_record =
      ap (names_record (front s)) (sym page_told)
      ∙ names_handed (front s) (configuration_of_lem s w) (name_of s) (λ i l. always_name s i)
      ∙ ap (λ (n : ℕ). record_head 0 0 n ++ joined (λ i. padded (name_of s i)) n) (slots_same s)
