-- An Element Descriptor page that was accepted is written again as the same bytes. Assumes nothing.
use Rattle.std.specs.Prelude.{Ok}
use mathlib.Core.Path.{◌≡◌, refl, sym, ap, ◌∙◌}
use mathlib.Core.Bool.{Bool, true, ◌||◌}
use mathlib.Core.List.{List, ◌++◌}
use Prim.Native.Nat.{ℕ, zero, suc, ◌+◌, ◌<◌}
use native.Mathlib.Nat.{add-zero}
use native.Mathlib.Omega.{arith}
use lib.Dec.{eqb, ltb}
use lib.ListN.{length, get_or}
use borrow.Author.Tests.{eq-eqb, ltb-false}
use Rattle.bits.specs.Numbers.{big, Bytes}
use Rattle.bits.specs.Places.{two_at}
use Rattle.bits.specs.Rows.{joined, bytes_at}
use Rattle.bits.proofs.Logic.{by_case, below_all}
use Rattle.bits.proofs.Rows.{joined_same, row_get}
use Rattle.bits.proofs.RowStarts.{start_first, start_step}
use Rattle.record_head.specs.Head.{record_head, count_tested}
use Rattle.record_head.proofs.Counted.{count_back}
use Rattle.shelf.specs.Limits.{most_text}
use Rattle.page.specs.Slots.{slots_of}
use Rattle.page.proofs.HeaderBothWays.{head_again}
use Rattle.names.specs.Name.{name_length, name_at, name_in, padded}
use Rattle.names.proofs.NameBack.{length_name, padded_end, name_back}
use Rattle.descriptor_page.specs.Page.{width, start_of, descriptor}
use Rattle.descriptor_page.proofs.PagePlaced.{page_behind}
use Rattle.descriptor_page.proofs.SamePages.{page_same, descriptor_is, page_is}
use Rattle.descriptor_record.specs.Read.{declared, place_on, names_read, name_on, names_record}
use Rattle.descriptor_record.specs.Rewritten.{entry_place, end_byte, entry_formed, entries_formed, entries_tested, record_tested, page_again}
use Rattle.descriptor_record.proofs.Refusals.{name_length_lem, read_parts, few_slots, byte_1, zero_bytes, name_read, entry, entry_is, rows}

-- descriptors start where the names before them say
place_start : (p : List ℕ) (i : ℕ) → place_on p i ≡ start_of (name_on p) i
place_start p zero = sym (start_first 8 (width (name_on p)))
place_start p (suc i) =
    let e = place_start p i in
    omega (arith, e, name_length_lem p i, start_step 8 (width (name_on p)) i)

-- writing again what an accepted reading gave, whatever stands behind it
module _ (c p rest : List ℕ) (a : names_read c p ≡ Ok tt) where
  abbrev told : List ℕ
  told = names_record c p ++ rest

  module _ (i : ℕ) (l : i < slots_of c) where
    entry_get : (j : ℕ) → j < most_text → get_or told (entry_place i + j) 0 ≡ get_or (padded (name_on p i)) j 0
    unfolding names_record
    entry_get j m =
        let n = slots_of c in
        let head = record_head 0 0 n in
        ap (λ (x : List ℕ). get_or (head ++ x ++ rest) (entry_place i + j) 0) (joined_same (λ i. padded (name_on p i)) (entry c p a) n (entry_is c p a))
        ∙ row_get entry_place (λ i. most_text) (entry c p a) (rows c p a) head refl n rest i j l m
        ∙ ap (λ (x : List ℕ). get_or x j 0) (sym (entry_is c p a i l))

    -- each entry is the name that was read, with zeros behind it
    entry_name : name_at told (entry_place i) ≡ name_on p i
    entry_name = name_back (name_on p i) (name_read c p a i l) told (entry_place i) entry_get

    entry_length : name_length told (entry_place i) ≡ length (name_on p i)
    entry_length = sym (length_name told (entry_place i)) ∙ ap length entry_name

    entry_formed_lem : entry_formed told i ≡ true
    unfolding entry_formed
    entry_formed_lem = below_all (end_byte told (entry_place i)) most_text end
      where
        end : (k : ℕ) → k < most_text → end_byte told (entry_place i) k ≡ true
        end k m =
            let n = name_length told (entry_place i) in
            let b = get_or told (entry_place i + k) 0 in
            by_case (ltb k n) (λ e. ap (λ (x : Bool). x || eqb b 0) e)
            (λ e.
            let z : b ≡ 0 = entry_get k m ∙ padded_end (name_on p i) (name_read c p a i l) k (omega (arith, ltb-false k n e, entry_length)) m in
            ap (λ (x : Bool). x || eqb b 0) e ∙ eq-eqb b 0 z)

    pub name_again : name_in told (entry_place 0) i ≡ name_on p i
    unfolding name_in
    name_again = entry_name

    -- its bytes on the page are those of its descriptor
    row_again : Bytes p → (k : ℕ) → k < width (name_on p) i → get_or p (start_of (name_on p) i + k) 0 ≡ get_or (descriptor (name_on p i)) k 0
    row_again h k m =
        let at = place_on p i in
        let x = name_on p i in
        let n = name_length_lem p i in
        let z0 : get_or p at 0 ≡ 0 = ap (λ (q : ℕ). get_or p q 0) (sym (add-zero at)) ∙ zero_bytes c p a i l 0 (omega arith) in
        let z1 : get_or p (at + 1) 0 ≡ 0 = zero_bytes c p a i l 1 (omega arith) in
        let b : big (two_at p (at + 2)) ≡ length x = unfold declared in sym n in
        let y : bytes_at p (at + 4) (length x) ≡ x = unfold name_on in ap (bytes_at p (at + 4)) n in
        ap (λ (q : ℕ). get_or p (q + k) 0) (sym (place_start p i)) ∙ descriptor_is p at x h z0 z1 b y k m

  pub tested_again : record_tested c told ≡ Ok tt
  unfolding record_tested entries_tested entries_formed names_record
  tested_again =
      let n = slots_of c in
      let k : count_tested told n ≡ (Ok tt) = count_back 0 0 n (joined (λ i. padded (name_on p i)) n ++ rest) (omega (arith, few_slots c p a)) in
      rw ((read_parts c p a).0, k, below_all (entry_formed told) n entry_formed_lem)

  pub page_again_lem : Bytes c → Bytes p → page_again c told ≡ p
  unfolding page_again
  page_again_lem hc hp =
      let n = slots_of c in
      let f = name_on p in
      let r = read_parts c p a in
      let e : length p ≡ start_of f n = r.2 ∙ place_start p n in
      let h = head_again c p 0x07 0 (start_of f n) r.1 e (page_behind f n) r.3 hc hp (sym (byte_1 c p a)) in
      page_same c c (name_in told (entry_place 0)) f n refl name_again ∙ sym (page_is c f n p e (sym h) (λ i k l m. row_again i l hp k m))
