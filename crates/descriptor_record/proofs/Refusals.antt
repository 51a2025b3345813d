-- An Element Descriptor page read: one refusal after the other, and what an accepted one says. Assumes nothing.
use Rattle.std.specs.Prelude.{Ok, Err}
use mathlib.Core.Path.{◌≡◌, refl, sym, ap, ◌∙◌}
use mathlib.Core.Bool.{true, false}
use mathlib.Core.List.{List, [], ◌++◌, append-nil}
use Prim.Native.Nat.{ℕ, zero, suc, ◌+◌, ◌*◌, ◌-◌, ◌<◌, ◌≤◌}
use native.Mathlib.Omega.{arith}
use mir.Val.{Fits}
use mir.Syntax.{w8}
use lib.Dec.{ltb}
use lib.ListN.{length, get_or, replicate, length-append, length-replicate}
use borrow.Author.Tests.{eqb-true, leb-true, le-leb, ltb-true, lt-ltb, not-false}
use Rattle.bits.specs.Bits.{printable}
use Rattle.bits.specs.Choice.{pick, first_below}
use Rattle.bits.specs.Places.{put_four}
use Rattle.bits.specs.Rows.{bytes_at, put_bytes, rows_put}
use Rattle.bits.proofs.Logic.{by_case, pick_yes, pick_no, and_both, below_all, first_fails}
use Rattle.bits.proofs.Rows.{EndToEnd, length-bytes_at, bytes_get, bytes_whole, joined_same}
use Rattle.bits.proofs.RowsPut.{four_behind, rows_alike, rows_behind}
use Rattle.refusals.specs.declared.Refusal.{Refusal}
use Rattle.refusals.specs.Outcomes.{next, placed, offence_tested}
use Rattle.refusals.proofs.Stages.{stopped, gone_on}
use Rattle.refusals.proofs.AcceptedTests.{held_both, held_page, held_offence}
use Rattle.record_head.specs.Head.{record_head}
use Rattle.shelf.specs.Limits.{most_types, most_elements, most_text}
use Rattle.shelf_formed.specs.Formed.{HasFront, configuration_formed}
use Rattle.page.specs.Slots.{slots_of}
use Rattle.page.specs.Header.{most_said, length_said, generation_on, generation_of, framed, length_tested, generation_tested}
use Rattle.page.proofs.HeaderTests.{length-needed, generation_tested_lem}
use Rattle.page.proofs.HeaderBothWays.{frame_parts}
use Rattle.page.proofs.SlotBounds.{configuration_there, configuration_passed, slots_bound}
use Rattle.names.specs.Name.{is_name, printable_at, padded}
use Rattle.names.proofs.NameBack.{length-padded}
use Rattle.descriptor_record.specs.Rewritten.{entry_place}
use Rattle.descriptor_record.specs.Read.{declared, place_on, byte_offends, offends, head_tested, bytes_tested, page_tested, names_read, name_on, names_record}
use Rattle.descriptor_record.proofs.DescriptorPlaces.{said_small, place_up, place_in, offends_in, offends_first}
use Rattle.descriptor_record.proofs.FirstOffence.{offends_zero, offends_length, offends_text}
use Rattle.refusals.specs.Answers.{Answer, PageAnswer}

-- the tests before the page's own
module _ (c p : List ℕ) (n : ℕ) where
  abbrev rest : Answer
  rest = next (length_tested p (place_on p n)) (generation_tested c p)

  module _ {a : Answer} (f : a ≡ framed p 0x07) where
    pub frame_refused : {r : Refusal} → a ≡ Err r → a ≡ head_tested c p n
    unfolding head_tested
    frame_refused u = stopped (framed p 0x07) rest f u

    module _ (u : a ≡ Ok tt) where
      pub said : length_said p ≡ true
      said = (frame_parts p 0x07 (sym f ∙ u)).1

      module _ {b : Answer} (l : b ≡ length_tested p (place_on p n)) where
        pub length-refused : {r : Refusal} → b ≡ Err r → b ≡ head_tested c p n
        unfolding head_tested
        length-refused v = gone_on (framed p 0x07) rest f u (stopped (length_tested p (place_on p n)) (generation_tested c p) l v)

        module _ (v : b ≡ Ok tt) where
          pub has_header : 8 ≤ length p
          has_header = omega (arith, length-needed p (place_on p n) (sym l ∙ v), place_up p 0 n (omega arith))

          pub generation_last : {d : Answer} → d ≡ generation_tested c p → d ≡ head_tested c p n
          unfolding head_tested
          generation_last g = gone_on (framed p 0x07) rest f u (gone_on (length_tested p (place_on p n)) (generation_tested c p) l v g)

  -- what they say once they are passed
  pub head_parts : head_tested c p n ≡ Ok tt → (framed p 0x07 ≡ Ok tt) × (length p ≡ place_on p n) × (generation_on p ≡ generation_of c)
  unfolding head_tested
  head_parts e =
      let h = held_both (framed p 0x07) rest e in
      let g = held_both (length_tested p (place_on p n)) (generation_tested c p) h.1 in
      (h.0, length-needed p (place_on p n) g.0, generation_tested_lem c p g.1)

  pub bytes_there : ((i : ℕ) → Fits w8 (get_or p i 0)) → head_tested c p n ≡ Ok tt → (length p ≡ place_on p n) × (length p ≤ most_said)
  bytes_there f e = let h = head_parts e in (h.1, said_small p f (frame_parts p 0x07 h.0).1)

pub bytes_tested_lem : (p : List ℕ) (n : ℕ) {k m : ℕ} {r : PageAnswer} → length p ≡ place_on p n → m ≡ length p → k ≡ first_below (offends p n) (place_on p n)
    → r ≡ offence_tested k m (Ok tt) → r ≡ bytes_tested p n
unfolding bytes_tested
bytes_tested_lem p n e q x h = h ∙ rw (x, q, e)

-- the name that a descriptor tells
pub name_length_lem : (p : List ℕ) (i : ℕ) → length (name_on p i) ≡ declared p (place_on p i)
unfolding name_on
name_length_lem p i = length-bytes_at p (place_on p i + 4) (declared p (place_on p i))

name_byte : (p : List ℕ) (i j : ℕ) → j < declared p (place_on p i) → get_or (name_on p i) j 0 ≡ get_or p (place_on p i + 4 + j) 0
unfolding name_on
name_byte p i j l =
    let x = bytes_at p (place_on p i + 4) (declared p (place_on p i)) in
    ap (λ (y : List ℕ). get_or y j 0) (sym (append-nil x)) ∙ bytes_get p (place_on p i + 4) (declared p (place_on p i)) j [] l

-- an accepted page
module _ (c p : List ℕ) (a : names_read c p ≡ Ok tt) where
  pub read_parts : (configuration_formed c ≡ true) × (framed p 0x07 ≡ Ok tt) × (length p ≡ place_on p (slots_of c)) × (generation_on p ≡ generation_of c)
      × (first_below (offends p (slots_of c)) (place_on p (slots_of c)) ≡ place_on p (slots_of c))
  unfolding names_read page_tested bytes_tested
  read_parts =
      let n = slots_of c in
      let h1 = configuration_passed c (page_tested c p n) a in
      let h2 = held_page (head_tested c p n) (bytes_tested p n) h1.1 in
      let h3 = head_parts c p n h2.0 in
      let h4 = held_offence (first_below (offends p n) (place_on p n)) (place_on p n) (Ok tt) h2.1 in
      (h1.0, h3.0, h3.1, h3.2, h4.0)

  pub read_front : HasFront c
  read_front = configuration_there c read_parts.0

  pub few_slots : slots_of c ≤ most_types + most_elements
  few_slots = slots_bound c read_front.0

  -- no byte offends
  pub none_offends : (k : ℕ) → k < place_on p (slots_of c) → offends p (slots_of c) k ≡ false
  none_offends k l = first_fails (offends p (slots_of c)) (place_on p (slots_of c)) k (omega (arith, read_parts.4))

  pub byte_1 : get_or p 1 0 ≡ 0
  byte_1 =
      eqb-true _ _
      (not-false _ (sym (offends_first p (slots_of c)) ∙ none_offends 1 (let u = place_up p 0 (slots_of c) (omega arith) in omega arith)))

  module _ (i : ℕ) (l : i < slots_of c) where
    fine : (j : ℕ) → j < 4 + declared p (place_on p i) → byte_offends p (place_on p i) j ≡ false
    fine j h = sym (offends_in p (slots_of c) i j l h) ∙ none_offends (place_on p i + j) (omega (arith, place_in p i (slots_of c) l))

    pub zero_bytes : (j : ℕ) → j < 2 → get_or p (place_on p i + j) 0 ≡ 0
    zero_bytes j h = eqb-true _ _ (not-false _ (sym (offends_zero p (place_on p i) j h) ∙ fine j (omega arith)))

    pub short_name : declared p (place_on p i) ≤ most_text
    short_name = leb-true _ _ (not-false _ (sym (offends_length p (place_on p i)) ∙ fine 2 (omega arith)))

    pub printable_name : (j : ℕ) → j < declared p (place_on p i) → printable (get_or p (place_on p i + 4 + j) 0) ≡ true
    printable_name j h = not-false _ (sym (offends_text p (place_on p i) j) ∙ fine (4 + j) (omega arith))

    pub name_there : {k : ℕ} → k ≡ place_on p i → k + (4 + declared p k) ≤ length p
    name_there e = rw (e, read_parts.2) (place_in p i (slots_of c) l)

    pub name_read : is_name (name_on p i) ≡ true
    unfolding is_name
    name_read =
        let x = name_on p i in
        let n = name_length_lem p i in
        and_both (le-leb (length x) most_text (omega (arith, n, short_name)))
        (below_all (printable_at x) (length x) (λ j m. let b : j < declared p (place_on p i) = omega (arith, n) in ap printable (name_byte p i j b) ∙ printable_name j b))

  -- so it has few bytes
  pub place_small : (i : ℕ) → i ≤ slots_of c → place_on p i ≤ 8 + 36 * i
  place_small zero l = omega arith
  place_small (suc i) l = let h = place_small i (omega arith) in let d = short_name i l in omega arith

  pub page_small : length p ≤ most_said
  page_small = omega (arith, read_parts.2, place_small (slots_of c) (omega arith), few_slots)

-- an entry, from what the calls say
pub name_put : (p r : List ℕ) (i : ℕ) {k b m : ℕ} {t o : List ℕ} → k ≡ place_on p i → declared p k ≤ most_text → b ≡ declared p k
    → t ≡ bytes_at p (k + 4) b ++ replicate (most_text - b) 0 → m ≡ entry_place i → o ≡ put_bytes r m (bytes_at t 0 32) → o ≡ put_bytes r (entry_place i) (padded (name_on p i))
unfolding padded name_on
name_put p r i {k} {b} {m} {t} ek h eb et em eo =
    let n = declared p (place_on p i) in
    let x = bytes_at p (place_on p i + 4) n in
    let l : length x ≡ n = length-bytes_at p (place_on p i + 4) n in
    let y : t ≡ x ++ replicate (most_text - n) 0 = et ∙ rw (eb, ek) in
    let s : n ≤ most_text = rw ek at h in
    let w : length t ≡ 32 = ap length y ∙ length-append x (replicate (most_text - n) 0) ∙ rw (l, length-replicate {A = ℕ} (most_text - n) 0) (omega arith) in
    eo ∙ rw em (ap (put_bytes r (entry_place i)) (bytes_whole t 32 w ∙ y ∙ ap (λ (j : ℕ). x ++ replicate (most_text - j) 0) (sym l)))

-- the record of an accepted page: each entry is as long, so the head and one entry after the other are put
module _ (c p : List ℕ) (a : names_read c p ≡ Ok tt) where
  -- an entry, and zeros past the last
  abbrev pub entry : ℕ → List ℕ
  entry i = pick (ltb i (slots_of c)) (padded (name_on p i)) (replicate most_text 0)

  pub entry_is : (i : ℕ) → i < slots_of c → padded (name_on p i) ≡ entry i
  entry_is i l = sym (pick_yes _ _ _ (lt-ltb i (slots_of c) l))

  length-entry : (i : ℕ) → length (entry i) ≡ most_text
  length-entry i =
      let x = padded (name_on p i) in
      let z = replicate {A = ℕ} most_text 0 in
      let b = ltb i (slots_of c) in
      by_case b (λ t. ap length (pick_yes b x z t) ∙ length-padded (name_on p i) (name_read c p a i (ltb-true i (slots_of c) t)))
      (λ t. ap length (pick_no b x z t) ∙ length-replicate {A = ℕ} most_text 0)

  pub rows : EndToEnd entry_place (λ i. most_text) entry
  rows i = (length-entry i, omega arith)

  pub record_placed : (r : List ℕ) {n : ℕ} {x y : List ℕ} → n ≡ slots_of c → length r ≡ entry_place (most_types + most_elements) → x ≡ put_four r 0 (record_head 0 0 n)
      → y ≡ rows_put entry_place (λ i. padded (name_on p i)) x n → y ≡ placed (names_record c p) r
  unfolding names_record
  record_placed r {n} {x} {y} e l u v =
      let m = slots_of c in
      let head = record_head 0 0 m in
      v
      ∙ rw (u, e)
      (ap (λ (o : List ℕ). rows_put entry_place (λ i. padded (name_on p i)) o m) (four_behind [] r head 0 refl refl (omega arith))
      ∙ rows_alike entry_place (λ i. padded (name_on p i)) entry (placed head r) m entry_is
      ∙ rows_behind entry_place (λ i. most_text) entry rows head refl r m (omega (arith, l, few_slots c p a))
      ∙ ap (λ (o : List ℕ). placed (head ++ o) r) (sym (joined_same (λ i. padded (name_on p i)) entry m entry_is)))
