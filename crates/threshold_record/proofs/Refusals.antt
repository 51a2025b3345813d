-- A Threshold In page read and written again: one refusal after the other, and what an accepted one leaves. Assumes nothing.
use Rattle.std.specs.Prelude.{Ok}
use mathlib.Core.Path.{◌≡◌, refl, sym, ap, ◌∙◌}
use mathlib.Core.Bool.{true}
use mathlib.Core.List.{List, [], ◌++◌}
use Prim.Native.Nat.{ℕ, ◌+◌, ◌*◌, ◌≤◌}
use native.Mathlib.Omega.{arith}
use lib.ListN.{length, get_or, length-append}
use borrow.Author.Tests.{eq-eqb}
use Rattle.bits.specs.Choice.{first_below}
use Rattle.bits.specs.Places.{put_four}
use Rattle.bits.specs.Rows.{bytes_at, put_bytes}
use Rattle.bits.proofs.Logic.{pick_yes}
use Rattle.bits.proofs.Rows.{length-bytes_at}
use Rattle.bits.proofs.RowsPut.{put_behind, four_behind}
use Rattle.refusals.specs.Outcomes.{placed}
use Rattle.refusals.proofs.AcceptedTests.{held_page, held_offence}
use Rattle.record_head.specs.Head.{record_head}
use Rattle.shelf.specs.Limits.{most_types, most_elements}
use Rattle.shelf_formed.specs.Formed.{HasFront, configuration_formed}
use Rattle.page.specs.Slots.{slots_of, slot_place}
use Rattle.page.specs.Header.{headed, header}
use Rattle.page.specs.Header as pages
use Rattle.page.proofs.HeaderTests.{head_put_lem}
use Rattle.page.proofs.HeaderBothWays.{length-tested}
use Rattle.page.proofs.SlotBounds.{configuration_there, configuration_passed, accepted_there, slots_bound}
use Rattle.page.proofs.PagePut.{length-header}
use Rattle.threshold_rows.specs.Rows.{on_page, in_record, row_place, offence, offends, limits_tested}
use Rattle.threshold_rows.proofs.FirstOffence.{found}
use Rattle.threshold_rows.proofs.ByteTests.{byte_zero}
use Rattle.threshold_record.specs.Read.{bytes_tested, threshold_tested, threshold_read, threshold_record}
use Rattle.threshold_record.specs.Rewritten.{entries_tested, record_tested, page_again}
use Rattle.refusals.specs.Answers.{Answer}

pub parts_read : (c p : List ℕ) → configuration_formed c ≡ true → headed c p 0x05 (slots_of c) ≡ Ok tt → get_or p 1 0 ≡ 0
    → (offence c p on_page (slots_of c) ≡ slot_place (slots_of c)) × (limits_tested c p on_page (slots_of c) ≡ Ok tt) → threshold_read c p ≡ Ok tt
unfolding threshold_read threshold_tested bytes_tested
parts_read c p f h o r =
    let n = slots_of c in
    let k = first_below (offends c p) (slot_place n) in
    let e : k ≡ slot_place n = sym (found c p n) ∙ pick_yes _ _ _ (eq-eqb (get_or p 1 0) 0 o) ∙ r.0 in
    rw (f, h, eq-eqb k (slot_place n) e, r.1)

-- what an accepted page says
module _ (c p : List ℕ) (a : threshold_read c p ≡ Ok tt) where
  pub read_parts : (configuration_formed c ≡ true) × (headed c p 0x05 (slots_of c) ≡ Ok tt) × (get_or p 1 0 ≡ 0)
      × (offence c p on_page (slots_of c) ≡ slot_place (slots_of c)) × (limits_tested c p on_page (slots_of c) ≡ Ok tt)
  unfolding threshold_read threshold_tested bytes_tested
  read_parts =
      let n = slots_of c in
      let h1 = configuration_passed c (threshold_tested c p n) a in
      let h2 = held_page (headed c p 0x05 n) (bytes_tested c p n) h1.1 in
      let h3 = held_offence (first_below (offends c p) (slot_place n)) (slot_place n) (limits_tested c p on_page n) h2.1 in
      let o = byte_zero p (offence c p on_page n) (slot_place n) (λ e. omega (arith, e)) (found c p n ∙ h3.0) in
      (h1.0, h2.0, o.0, o.1, h3.1)

  pub read_front : HasFront c
  read_front = configuration_there c read_parts.0

  -- the bytes that are read and written for the record
  module _ {n : ℕ} (e : n ≡ slots_of c) where
    pub page_there : slot_place n ≤ length p
    page_there = omega (arith, length-tested c p 0x05 (slots_of c) read_parts.1)

    pub entries_there : (fields : List ℕ) → length fields ≡ row_place in_record (most_types + most_elements) → row_place in_record n ≤ length fields
    entries_there fields l = omega (arith, l, slots_bound c read_front.0)

-- what the reader hands over
pub record_placed : (c p r : List ℕ) {n : ℕ} {x y : List ℕ} → n ≡ slots_of c → row_place in_record n ≤ length r → x ≡ put_four r 0 (record_head 0 0 n)
    → y ≡ put_bytes x in_record (bytes_at p on_page (4 * n)) → y ≡ placed (threshold_record c p) r
unfolding threshold_record
record_placed c p r {n} {x} {y} e l u v =
    let f = bytes_at p on_page (4 * n) in
    v
    ∙ ap (λ (o : List ℕ). put_bytes o in_record f) (u ∙ four_behind [] r (record_head 0 0 n) 0 refl refl (omega arith))
    ∙ put_behind (record_head 0 0 n) r f in_record refl (omega (arith, length-bytes_at p on_page (4 * n)))
    ∙ ap (λ (m : ℕ). placed (record_head 0 0 m ++ bytes_at p on_page (4 * m)) r) e

pub record_front : (c r : List ℕ) {a : Answer} → a ≡ record_tested c r → a ≡ Ok tt → HasFront c
unfolding record_tested
record_front c r = accepted_there c (entries_tested c r (slots_of c))

-- the page again
module _ (c r : List ℕ) {n : ℕ} (e : n ≡ slots_of c) where
  abbrev again : List ℕ
  again = header c 0x05 0 n ++ bytes_at r in_record (4 * n)

  length-again : length again ≡ slot_place n
  length-again =
      length-append (header c 0x05 0 n) (bytes_at r in_record (4 * n))
      ∙ rw (length-header c 0x05 0 n, length-bytes_at r in_record (4 * n))

  pub again_length : {k : ℕ} → k ≡ slot_place n → k ≡ length (page_again c r)
  unfolding page_again
  again_length q = rw (← e) (q ∙ sym length-again)

  pub again_placed : (out : List ℕ) {x y : List ℕ} → slot_place n ≤ length out → x ≡ pages.head_put c out 0x05 0 n → y ≡ put_bytes x on_page (bytes_at r in_record (4 * n))
      → y ≡ placed (page_again c r) out
  unfolding page_again
  again_placed out l u v =
      let f = bytes_at r in_record (4 * n) in
      let h = header c 0x05 0 n in
      rw (← e)
      (v
      ∙ ap (λ (o : List ℕ). put_bytes o on_page f) (u ∙ head_put_lem c out 0x05 0 n (omega arith))
      ∙ put_behind h out f on_page (length-header c 0x05 0 n) (omega (arith, length-bytes_at r in_record (4 * n))))
