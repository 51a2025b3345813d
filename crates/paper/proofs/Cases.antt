-- Every case of the table holds, and so do those of the errors: antt computes what the definitions give, and it is what document 01 and the
-- requests tell. Assumes nothing.
use Rattle.std.specs.Prelude.{Ok, Err}
use mathlib.Core.Path.{◌≡◌, refl, sym, ap, ap₂, subst, ◌∙◌}
use mathlib.Core.Bool.{Bool, true, false, ◌&&◌}
use mathlib.Core.List.{List, [], ◌∷◌, ◌++◌}
use Prim.Native.Nat.{ℕ, zero, suc, ◌+◌, ◌*◌, ◌<◌, ◌≤◌}
use native.Mathlib.Omega.{arith}
use lib.Dec.{eqb, ltb}
use lib.ListN.{length, get_or, replicate, length-append, length-replicate}
use borrow.Author.Tests.{eqb-true, ltb-true}
use Rattle.bits.specs.Numbers.{Bytes}
use Rattle.bits.specs.Choice.{pick, first_of, all_below, offence_in}
use Rattle.bits.specs.Bits.{num}
use Rattle.bits.specs.Places.{four_at}
use Rattle.bits.specs.Rows.{joined, row_start, bytes_at}
use Rattle.bits.specs.Texts.{same_bytes}
use Rattle.bits.proofs.Each.{each_append}
use Rattle.bits.proofs.Logic.{by_case, and_left, and_right, and_both, pick_yes, pick_no}
use Rattle.bits.proofs.Rows.{bytes_whole}
use Rattle.element.specs.Types.{kind_of, served, layout_of, reading_allowed, nominal_allowed, had, ordered, verdict_of}
use Rattle.element.specs.Settings.{settings_of, settings_bytes, settings_formed}
use Rattle.element.specs.Requests.{reserved_in}
use Rattle.element_control.specs.Control.{control_of, offending, chosen, settled}
use Rattle.element.specs.Verdict.{over, under}
use Rattle.element.specs.Status.{entry_by, shown_by, status_bytes}
use Rattle.shelf.specs.Limits.{block_length}
use Rattle.shelf.specs.Types.{types_of, before, elements_of, type_of, kind_at}
use Rattle.shelf.specs.Elements.{settings_at, thresholds_at, reading_at, nominal_at, spare_at}
use Rattle.shelf_formed.specs.Formed.{head_formed, text_formed, type_formed, type_empty, slot_formed, types_formed, spare_clear, element_formed, elements_formed, front_formed, well_formed, configuration_formed}
use Rattle.page.specs.Slots.{slots_of, start_of, slot_type, is_overall, slot_at, slot_place}
use Rattle.page.specs.Header.{length_said, given_tested, size_tested, code_tested, said_tested, framed, length_tested, generation_tested, headed, page_tested, header}
use Rattle.page.specs.Places.{own_slot, places_of}
use Rattle.names.specs.Name.{is_name, padded, equal}
use Rattle.names.specs.Found.{element_found}
use Rattle.descriptor_page.specs.Page.{descriptor, descriptor_page}
use Rattle.descriptor_record.specs.Read.{declared, descriptor_of, byte_offends, offends, head_tested}
use Rattle.shelf_status.specs.ShelfStatus.{verdict_at, shown_at, code_at, worst, page_bits}
use Rattle.control_page.specs.Tests.{first_allows, bytes_tested, control_tested, valid}
use Rattle.control_page.proofs.FirstOffence.{slot_offending, found}
use Rattle.control_page.specs.Brought.{settings_after, brought_to}
use Rattle.status_page.specs.Page.{slot_bytes, page_with, status_page, shown_in}
use Rattle.threshold_page_out.specs.Tests as thresholds
use Rattle.refusals.specs.declared.Refusal.TheVariants.{PageCode, Unreachable, NeededLength}
use Rattle.refusals.specs.Numbers.{number_of, page_number, page_offset, answer_number}
use Rattle.refusals.specs.Outcomes.{next, of_page, offence_tested, page_next, accepts}
use Rattle.collector.specs.Collector.{most_kept, most_counted, at_most, page_of, collected_all, emptied}
use Rattle.collector.proofs.Held.{Holds as Collects, holds_none, emptied_counts, holds_chunks, count_collected, held_alike}
use Rattle.collected_page.specs.Meant.{other_tested, meant_tested, meant_code, long_tested}
use Rattle.collected_page.proofs.Long.{long_tested_lem}
use Rattle.collected_page.proofs.NotKept.{front_decides}
use Rattle.build_order.specs.Search.{cost, better, best}
use Rattle.build_element.specs.Wishes.{in_reach, alike, request_bytes, own, brings, one}
use Rattle.build_element.specs.Parts.{tried, tries}
use Rattle.build_page.specs.Promise.{may_be, wish_tested, selects_on, Reaching}
use Rattle.build_page.specs.Page.{search_in, overall_in, row_under, row_for, selects_for, control_page, reachable}
use Rattle.build_page.proofs.FirstPage.{made_selects}
use Rattle.build_page.proofs.PromiseKept.{none_reaches, page_promised}
use Rattle.build_page.proofs.PromiseLaws.{wish_taken, selects_needed}
use Rattle.paper.specs.Table.{Case, shows, judges, tells, builds, reaches, refuses, answers, describes, finds, reads, counts, ends, limits, none, types_a, front_a, shelf_a, OfA, middle_named, OfNamed, HasStatus, Gets, ReachedBy, RefusedBy, Answers, HasNames, Finds, ReadsNames, EndsBy, Holds, AllHold, stopped_fans, from_the_bus, shown_fail, table}
use Rattle.paper.specs.Errors.{errors}
use Rattle.paper.proofs.NamesOfA.{read_rest, read_so, middle_name, standing, described_so, found_so, found_so_lem}
use Rattle.refusals.specs.Answers.{PageAnswer}

-- a test that each number is a byte
abbrev all_bytes : List ℕ → Bool
all_bytes [] = true
all_bytes (b ∷ bs) = ltb b 256 && all_bytes bs

pub are_bytes : (l : List ℕ) → all_bytes l ≡ true → Bytes l
are_bytes [] t = tt
are_bytes (b ∷ bs) t = (ltb-true b 256 (and_left _ _ t), are_bytes bs (and_right (ltb b 256) _ t))

zeros : (n : ℕ) → Bytes (replicate n 0)
zeros zero = tt
zeros (suc n) = (omega arith, zeros n)

-- A with any identification i and any names m, of which each byte stands by itself: so the definitions compute
abbrev any_a : List ℕ → List ℕ → List ℕ → List ℕ
any_a i m f = shelf_a (bytes_at i 0 36) f (bytes_at m 0 128)

-- the same with a name for its middle fan
abbrev named_a : List ℕ → List ℕ → List ℕ → List ℕ
named_a i f x = shelf_a (bytes_at i 0 36) f (middle_named x)

-- what is left of the tests of a shelf and of a wish where the front is well formed, which is tested once and not in each case
abbrev shelf_rest : List ℕ → Bool
shelf_rest s = eqb (length s) (block_length (types_of s) (elements_of s)) && elements_formed s (elements_of s)

abbrev wish_rest : List ℕ → List ℕ → Bool
wish_rest s w = eqb (length w) (4 * elements_of s) && all_below (may_be s w) (elements_of s)

-- and of the tests of a control page for it, whose offending byte is searched slot by slot
abbrev page_rest : List ℕ → List ℕ → PageAnswer
page_rest s p =
    page_next (headed s p 0x02 (slots_of s)) (offence_tested (pick (first_allows p) (offence_in slot_place (slot_offending s p) (slots_of s)) 1) (slot_place (slots_of s)) (Ok tt))

-- of a page of which a code is meant, by the bytes x and z zeros behind them: one longer than the largest by its first bytes and its length
abbrev meant_rest : List ℕ → List ℕ → ℕ → ℕ → PageAnswer
meant_rest s x z code =
    let p = x ++ replicate z 0 in
    pick (ltb most_kept (length x + z)) (of_page (next (meant_code p code) (next (given_tested p (length x + z)) (Err NeededLength))))
    (pick (eqb code 0x02) (page_rest s p)
    (pick (eqb code 0x05) (thresholds.thresholds_tested s p)
    (of_page (next (size_tested p) (Err PageCode)))))

-- the page that is made, where o is the overall element of its one type: so that is searched once, and not for each slot
abbrev page_under : List ℕ → List ℕ → List ℕ → List ℕ
page_under s w o = header s 0x02 0 (slots_of s) ++ joined (λ k. row_under s w (slot_at s k) o) (slots_of s)

-- what antt computes of a case: numbers, and bytes
given : List ℕ → List ℕ → Case → List (List ℕ)
given i m (shows k s r n t b) = status_bytes k (shown_by k (settings_of k s) r n t) ∷ []
given i m (judges k r n t v) = limits (verdict_of k (settings_of k none) r n t) ∷ []
given i m (tells f p) = (num (shelf_rest (any_a i m f)) ∷ []) ∷ status_page (any_a i m f) ∷ []
given i m (builds f w p n) =
    let s = any_a i m f in
    (num (shelf_rest s) ∷ num (wish_rest s w) ∷ num (all_below (reachable s w) (elements_of s)) ∷ num (all_bytes f) ∷ num (all_bytes w) ∷ selects_on s p ∷ [])
    ∷ overall_in s w 0
    ∷ page_under s w (four_at p (slot_place 0))
    ∷ []
given i m (reaches f w p n) =
    let s = any_a i m f in
    (num (all_bytes p) ∷ num (shelf_rest s) ∷ num (accepts (page_rest s p)) ∷ selects_on s p ∷ cost (search_in s w 0) (four_at p (slot_place 0)) ∷ [])
    ∷ brought_to s p
    ∷ []
given i m (refuses f w n) =
    let s = any_a i m f in
    (num (shelf_rest s) ∷ num (wish_rest s w) ∷ num (all_below (reachable s w) (elements_of s)) ∷ number_of Unreachable ∷ []) ∷ []
given i m (answers f p n k) =
    let s = any_a i m f in
    (num (shelf_rest s) ∷ page_number (page_rest s p) ∷ page_offset (page_rest s p) ∷ []) ∷ []
given i m (describes f x p) =
    let s = named_a i f x in
    (num (shelf_rest s) ∷ num (standing s x) ∷ []) ∷ descriptor_page s (middle_name x) 4 ∷ []
given i m (finds f x y j) =
    let s = named_a i f x in
    (num (shelf_rest s) ∷ num (standing s x) ∷ answer_number (found_so x y) ∷ element_found (found_so x y) ∷ []) ∷ []
given i m (reads p n k) =
    let c = front_a (bytes_at i 0 36) in
    (page_number (read_rest c p) ∷ page_offset (read_rest c p) ∷ []) ∷ []
given i m (counts n l k) = (at_most (n + l) most_counted ∷ []) ∷ []
given i m (ends f x z code n k) =
    let s = any_a i m f in
    (num (shelf_rest s) ∷ num (all_bytes x) ∷ page_number (meant_rest s x z code) ∷ page_offset (meant_rest s x z code) ∷ []) ∷ []

-- and what document 01 tells, or the request
told : Case → List (List ℕ)
told (shows k s r n t b) = b ∷ []
told (judges k r n t v) = v ∷ []
told (tells f p) = (1 ∷ []) ∷ p ∷ []
told (builds f w p n) = (1 ∷ 1 ∷ 1 ∷ 1 ∷ 1 ∷ n ∷ []) ∷ four_at p (slot_place 0) ∷ p ∷ []
told (reaches f w p n) = (1 ∷ 1 ∷ 1 ∷ n ∷ n ∷ []) ∷ w ∷ []
told (refuses f w n) = (1 ∷ 1 ∷ 0 ∷ n ∷ []) ∷ []
told (answers f p n k) = (1 ∷ n ∷ k ∷ []) ∷ []
told (describes f x p) = (1 ∷ 1 ∷ []) ∷ p ∷ []
told (finds f x y j) = (1 ∷ 1 ∷ 0 ∷ j ∷ []) ∷ []
told (reads p n k) = (n ∷ k ∷ []) ∷ []
told (counts n l k) = (k ∷ []) ∷ []
told (ends f x z code n k) = (1 ∷ 1 ∷ n ∷ k ∷ []) ∷ []

yes : (b : Bool) → num b ≡ 1 → b ≡ true
yes true h = refl
yes false h = absurd (omega arith)

no : (b : Bool) → num b ≡ 0 → b ≡ false
no true h = absurd (omega arith)
no false h = refl

-- of two that are the same: list k, and number k of the first list
list : {p q : List (List ℕ)} (k : ℕ) → p ≡ q → get_or p k [] ≡ get_or q k []
list k e = ap (λ (l : List (List ℕ)). get_or l k []) e

number : {p q : List (List ℕ)} (k : ℕ) → p ≡ q → get_or (get_or p 0 []) k 0 ≡ get_or (get_or q 0 []) k 0
number k e = ap (λ (l : List (List ℕ)). get_or (get_or l 0 []) k 0) e

-- where the two agree, the case holds
module _ (i rest : List ℕ) where
  abbrev whole : List ℕ
  whole = front_a (bytes_at i 0 36) ++ rest

  front : front_formed whole ≡ true
  unfolding front_formed head_formed types_formed slot_formed type_formed type_empty text_formed served kind_of elements_of before bytes_at
  front = refl

  formed : shelf_rest whole ≡ true → well_formed whole ≡ true
  unfolding well_formed
  formed t = and_both (and_both front (and_left _ _ t)) (and_right (eqb (length whole) (block_length (types_of whole) (elements_of whole))) _ t)

  -- its slots
  three : elements_of whole ≡ 3
  unfolding elements_of before bytes_at
  three = refl

  four : slots_of whole ≡ 4
  unfolding slots_of elements_of before bytes_at
  four = refl

  own_slot_lem : (j : ℕ) → j < 3 → own_slot whole j ≡ j + 1
  unfolding type_of before bytes_at
  own_slot_lem zero l = refl
  own_slot_lem (suc zero) l = refl
  own_slot_lem (suc (suc zero)) l = refl
  own_slot_lem (suc (suc (suc j))) l = absurd (omega arith)

-- of names
module _ (i : List ℕ) where
  configuration : configuration_formed (front_a (bytes_at i 0 36)) ≡ true
  unfolding configuration_formed front_formed head_formed types_formed slot_formed type_formed type_empty text_formed served kind_of elements_of before bytes_at
  configuration = refl

  reads_so : (p : List ℕ) (n k : ℕ) → given i [] (reads p n k) ≡ told (reads p n k) → ReadsNames p n k (front_a (bytes_at i 0 36))
  unfolding given told
  reads_so p n k e =
      let a = read_so (front_a (bytes_at i 0 36)) p configuration in
      (ap page_number a ∙ number 0 e, ap page_offset a ∙ number 1 e)

  module _ (f x : List ℕ) where
    abbrev rest : List ℕ
    rest = f ++ middle_named x

    abbrev shelf : List ℕ
    shelf = named_a i f x

    describes_so : (p : List ℕ) → given i [] (describes f x p) ≡ told (describes f x p) → HasNames p shelf
    unfolding given told
    describes_so p e =
        (formed i rest (yes (shelf_rest shelf) (number 0 e)), described_so shelf x (yes (standing shelf x) (number 1 e)) (three i rest) (four i rest) ∙ list 1 e)

    finds_so : (y : List ℕ) (j : ℕ) → given i [] (finds f x y j) ≡ told (finds f x y j) → Finds y j shelf
    unfolding given told
    finds_so y j e =
        let a =
        found_so_lem shelf x y (yes (standing shelf x) (number 1 e)) (three i rest) (formed i rest (yes (shelf_rest shelf) (number 0 e))) (own_slot_lem i rest) in
        (ap answer_number a ∙ number 2 e, ap element_found a ∙ number 3 e)

module _ (i m f : List ℕ) where
  abbrev s : List ℕ
  s = any_a i m f

  bytes_A : Bytes (bytes_at i 0 36) → Bytes (bytes_at m 0 128) → all_bytes f ≡ true → Bytes s
  bytes_A h l t =
      let generation : List ℕ = 0 ∷ 0 ∷ 0 ∷ 7 ∷ [] in
      each_append (λ b. b < 256) (generation ++ bytes_at i 0 36 ++ types_a) (f ++ bytes_at m 0 128)
      (each_append (λ b. b < 256) (generation ++ bytes_at i 0 36) types_a (each_append (λ b. b < 256) generation (bytes_at i 0 36) (are_bytes generation refl) h) (are_bytes types_a refl))
      (each_append (λ b. b < 256) f (bytes_at m 0 128) (are_bytes f t) l)

  well_formed_lem : shelf_rest s ≡ true → well_formed s ≡ true
  well_formed_lem t = formed i (f ++ bytes_at m 0 128) t

  -- a page's answer, where the shelf is well formed
  answered : (p : List ℕ) → shelf_rest s ≡ true → control_tested s p ≡ page_rest s p
  unfolding control_tested page_tested bytes_tested
  answered p t = rw (well_formed_lem t, found s p (slots_of s))

  accepted : (p : List ℕ) → shelf_rest s ≡ true → accepts (page_rest s p) ≡ true → valid s p ≡ true
  unfolding valid
  accepted p t h = ap accepts (answered p t) ∙ h

  answers_so : (p : List ℕ) (n k : ℕ) → given i m (answers f p n k) ≡ told (answers f p n k) → Answers p n k s
  unfolding given told
  answers_so p n k e =
      let a = answered p (yes (shelf_rest s) (number 0 e)) in
      (ap page_number a ∙ number 1 e, ap page_offset a ∙ number 2 e)

  -- a page of which a code is meant
  module _ (x : List ℕ) (z : ℕ) where
    abbrev q : List ℕ
    q = x ++ replicate z 0

    length-q : length q ≡ length x + z
    length-q = length-append x (replicate z 0) ∙ ap (λ (n : ℕ). length x + n) (length-replicate z 0)

    meant : (code : ℕ) → shelf_rest s ≡ true → meant_tested code s q ≡ meant_rest s x z code
    unfolding long_tested other_tested
    meant code t =
        by_case (ltb most_kept (length x + z))
        (λ e.
        let l = ltb-true most_kept (length x + z) e in
        long_tested_lem s q (omega (arith, length-q, l)) code
        ∙ ap (λ (n : ℕ). of_page (long_tested s q n code)) length-q
        ∙ rw (well_formed_lem t) (sym (pick_yes _ _ _ e)))
        (λ e.
        by_case (eqb code 0x02)
        (λ a. pick_yes _ _ _ a ∙ answered q t ∙ sym (pick_no _ _ _ e ∙ pick_yes _ _ _ a))
        (λ a.
        pick_no _ _ _ a
        ∙ by_case (eqb code 0x05)
        (λ b. pick_yes _ _ _ b ∙ sym (pick_no _ _ _ e ∙ pick_no _ _ _ a ∙ pick_yes _ _ _ b))
        (λ b. pick_no _ _ _ b ∙ rw (well_formed_lem t) (sym (pick_no _ _ _ e ∙ pick_no _ _ _ a ∙ pick_no _ _ _ b)))))

    ends_so : (code n k : ℕ) → given i m (ends f x z code n k) ≡ told (ends f x z code n k) → EndsBy q code n k s
    unfolding given told
    ends_so code n k e c xs h j =
        let d = collected_all (emptied c) xs in
        let none_yet = emptied_counts c h in
        let held : Collects d q = subst (Collects d) j (holds_chunks xs (emptied c) [] (holds_none (emptied c) none_yet.0 none_yet.1)) in
        let bytes = each_append (λ b. b < 256) x (replicate z 0) (are_bytes x (yes (all_bytes x) (number 1 e))) (zeros z) in
        let a = sym (front_decides s q (page_of d) bytes (held_alike d q held) code).0 ∙ meant code (yes (shelf_rest s) (number 0 e)) in
        (ap page_number a ∙ number 2 e, ap page_offset a ∙ number 3 e)

  module _ (w : List ℕ) where
    taken : shelf_rest s ≡ true → wish_rest s w ≡ true → wish_tested s w ≡ Ok tt
    taken t u = wish_taken s w (well_formed_lem t) (eqb-true _ _ (and_left _ _ u)) (and_right (eqb (length w) (4 * elements_of s)) _ u)

    made : control_page s w ≡ page_under s w (overall_in s w 0)
    unfolding control_page row_for slots_of elements_of slot_type start_of before bytes_at
    made = refl

    gets : (p : List ℕ) (n : ℕ) → Bytes (bytes_at i 0 36) → Bytes (bytes_at m 0 128) → given i m (builds f w p n) ≡ told (builds f w p n) → Gets w p n s
    unfolding given told
    gets p n h l e out =
        let overall : overall_in s w 0 ≡ four_at p (slot_place 0) = list 1 e in
        let page : control_page s w ≡ p = made ∙ ap (page_under s w) overall ∙ list 2 e in
        let count : selects_for s w (slots_of s) ≡ n = sym (made_selects s w) ∙ ap (selects_on s) page ∙ number 5 e in
        page_promised s w out refl (taken (yes (shelf_rest s) (number 0 e)) (yes (wish_rest s w) (number 1 e)))
        (bytes_A h l (yes (all_bytes f) (number 3 e)))
        (are_bytes w (yes (all_bytes w) (number 4 e)))
        refl
        refl
        (yes (all_below (reachable s w) (elements_of s)) (number 2 e))
        (rw (page, count))
        (rw page)

    -- A has one type, so a page for it one overall element
    needed : (q : List ℕ) → Reaching s w q → cost (search_in s w 0) (four_at q (slot_place 0)) ≤ selects_on s q
    unfolding start_of before bytes_at
    needed q r =
        let h : 0 + cost (search_in s w 0) (four_at q (slot_place 0)) ≤ selects_on s q = selects_needed s w q r in
        omega arith

    reached : (p : List ℕ) (n : ℕ) → given i m (reaches f w p n) ≡ told (reaches f w p n) → ReachedBy w p n s
    unfolding given told
    reached p n e = (
      (are_bytes p (yes (all_bytes p) (number 0 e)), accepted p (yes (shelf_rest s) (number 1 e)) (yes (accepts (page_rest s p)) (number 2 e)), list 1 e),
      number 3 e,
      (λ q r o. let c = ap (cost (search_in s w 0)) o ∙ number 4 e in omega (arith, c, needed q r)),
    )

    refused : (n : ℕ) → given i m (refuses f w n) ≡ told (refuses f w n) → RefusedBy w n s
    unfolding given told
    refused n e out = (
      Err Unreachable,
      none_reaches s w out refl (taken (yes (shelf_rest s) (number 0 e)) (yes (wish_rest s w) (number 1 e))) refl refl (no (all_below (reachable s w) (elements_of s)) (number 2 e)),
      number 3 e,
    )

-- any 36 bytes are 36 single ones, and so are the 128 of the names
of_A : (f : List ℕ) (P : List ℕ → Type 0) → ((i m : List ℕ) → Bytes (bytes_at i 0 36) → Bytes (bytes_at m 0 128) → P (any_a i m f)) → OfA f P
of_A f P h i m b l c k =
    let e = bytes_whole i 36 l in
    let d = bytes_whole m 128 k in
    subst (λ (x : List ℕ). P (shelf_a x f m)) e (subst (λ (x : List ℕ). P (shelf_a (bytes_at i 0 36) f x)) d (h i m (rw e b) (rw d c)))

of_named : (f x : List ℕ) (P : List ℕ → Type 0) → ((i : List ℕ) → P (named_a i f x)) → OfNamed f x P
of_named f x P h i l = subst (λ (y : List ℕ). P (shelf_a y f (middle_named x))) (bytes_whole i 36 l) (h i)

holds : (c : Case) → ((i m : List ℕ) → given i m c ≡ told c) → Holds c
unfolding given told
holds (shows k s r n t b) e = list 0 (e [] [])
holds (judges k r n t v) e = list 0 (e [] [])
holds (tells f p) e = of_A f (HasStatus p) (λ i m h l. (well_formed_lem i m f (yes (shelf_rest (any_a i m f)) (number 0 (e i m))), list 1 (e i m)))
holds (builds f w p n) e = of_A f (Gets w p n) (λ i m h l. gets i m f w p n h l (e i m))
holds (reaches f w p n) e = of_A f (ReachedBy w p n) (λ i m h l. reached i m f w p n (e i m))
holds (refuses f w n) e = of_A f (RefusedBy w n) (λ i m h l. refused i m f w n (e i m))
holds (answers f p n k) e = of_A f (Answers p n k) (λ i m h l. answers_so i m f p n k (e i m))
holds (describes f x p) e = of_named f x (HasNames p) (λ i. describes_so i f x p (e i []))
holds (finds f x y j) e = of_named f x (Finds y j) (λ i. finds_so i f x y j (e i []))
holds (counts n l k) e = λ c x h a b. count_collected c x h ∙ ap₂ (λ (u v : ℕ). at_most (u + v) most_counted) a b ∙ number 0 (e [] [])
holds (ends f x z code n k) e = of_A f (EndsBy (x ++ replicate z 0) code n k) (λ i m h l. ends_so i m f x z code n k (e i m))
holds (reads p n k) e = λ i l. subst (λ (y : List ℕ). ReadsNames p n k (front_a y)) (bytes_whole i 36 l) (reads_so i p n k (e i []))

-- the two agree on each of the cases
infixr 5 ◌also◌
data Agree (i m : List ℕ) : List Case → Type 0 where
  end : Agree i m []
  ◌also◌ : {c : Case} {cs : List Case} → given i m c ≡ told c → Agree i m cs → Agree i m (c ∷ cs)

all_hold : (cs : List Case) → ((i m : List ℕ) → Agree i m cs) → AllHold cs
all_hold [] a = tt
all_hold (c ∷ cs) a = (holds c (λ i m. first i m (a i m)), all_hold cs (λ i m. rest i m (a i m)))
  where
    first : (i m : List ℕ) → Agree i m (c ∷ cs) → given i m c ≡ told c
    first i m (e also l) = e

    rest : (i m : List ℕ) → Agree i m (c ∷ cs) → Agree i m cs
    rest i m (e also l) = l

-- the cases of stopped fans by themselves, since StatusAlone draws on them
computed_stopped : (i m : List ℕ) → Agree i m stopped_fans
unfolding settings_of settings_bytes control_of reserved_in offending chosen settled verdict_of entry_by shown_by status_bytes kind_of layout_of
    reading_allowed nominal_allowed settings_formed had ordered before elements_of type_of kind_at settings_at thresholds_at reading_at nominal_at
    spare_at spare_clear element_formed elements_formed slots_of start_of slot_type is_overall slot_at header shown_at verdict_at code_at worst shown_in
    page_bits slot_bytes page_with status_page first_of places_of slot_offending settings_after brought_to in_reach alike request_bytes own brings one
    tried tries cost better best overall_in row_under reachable bytes_at given told
computed_stopped i m = refl also refl also refl also refl also refl also refl also refl also refl also end

-- those of request Four by themselves, so that antt holds less at a time
computed_bus : (i m : List ℕ) → Agree i m from_the_bus
unfolding settings_formed kind_of layout_of reading_allowed nominal_allowed had ordered before elements_of type_of kind_at settings_at thresholds_at
    reading_at nominal_at spare_at spare_clear element_formed elements_formed control_of reserved_in offending slots_of start_of slot_type is_overall
    slot_at first_of length_said size_tested code_tested said_tested framed length_tested generation_tested headed slot_offending meant_code bytes_at
    given told
computed_bus i m =
    refl also refl also refl also refl also refl also refl also refl also refl also refl also refl also refl also refl
    also refl also refl also refl also refl also refl also refl also refl also end

-- and those of request Five
computed_fail : (i m : List ℕ) → Agree i m shown_fail
unfolding settings_of layout_of over under verdict_of entry_by shown_by status_bytes given told
computed_fail i m =
    refl also refl also refl also refl also refl also refl also refl also refl also refl also refl also refl also refl
    also refl also refl also end

both : {i m : List ℕ} {cs ds : List Case} → Agree i m cs → Agree i m ds → Agree i m (cs ++ ds)
both end l = l
both (e also k) l = e also both k l

computed : (i m : List ℕ) → Agree i m table
unfolding settings_of settings_bytes control_of reserved_in offending chosen settled over under verdict_of entry_by shown_by status_bytes kind_of
    layout_of reading_allowed nominal_allowed settings_formed had ordered before elements_of type_of kind_at settings_at thresholds_at reading_at
    nominal_at spare_at spare_clear element_formed elements_formed slots_of start_of slot_type is_overall slot_at header shown_at verdict_at code_at
    worst shown_in page_bits slot_bytes page_with status_page first_of length_said size_tested code_tested said_tested framed length_tested
    generation_tested headed places_of slot_offending settings_after brought_to in_reach alike request_bytes own brings one
    tried tries cost better best overall_in row_under reachable bytes_at served is_name padded equal same_bytes row_start descriptor descriptor_page
    declared descriptor_of byte_offends offends head_tested given told
computed i m =
    refl also refl also refl also refl also refl also refl also refl also refl also refl also refl also refl also refl
    also refl also refl also refl also refl also refl also refl also refl also refl also refl also refl also refl also refl
    also refl also refl also refl also refl also refl also refl also refl also refl also refl also refl also refl
    also refl also refl also refl also refl also refl also refl also refl also both (computed_stopped i m) (both (computed_bus i m) (computed_fail i m))

-- apart from the table, so that antt holds less at a time
computed_errors : (i m : List ℕ) → Agree i m errors
unfolding settings_of settings_bytes control_of reserved_in offending chosen settled kind_of layout_of reading_allowed nominal_allowed
    settings_formed had ordered before elements_of type_of kind_at settings_at thresholds_at reading_at nominal_at spare_at spare_clear element_formed
    elements_formed slots_of start_of slot_type is_overall slot_at first_of length_said size_tested code_tested said_tested framed length_tested
    generation_tested headed places_of slot_offending settings_after brought_to alike request_bytes own brings one cost
    bytes_at given told
computed_errors i m = refl also refl also refl also end

pub proved : AllHold table
proved = all_hold table computed

pub stopped_proved : AllHold stopped_fans
stopped_proved = all_hold stopped_fans computed_stopped

pub errors_proved : AllHold errors
errors_proved = all_hold errors computed_errors
