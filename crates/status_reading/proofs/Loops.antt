-- What each step of reading a status page comes to, from what the calls say. Assumes nothing.
use mathlib.Core.Path.{◌≡◌, sym, ap, ◌∙◌}
use mathlib.Core.Bool.{true, false}
use mathlib.Core.List.{List}
use Prim.Native.Nat.{ℕ, ◌+◌, ◌<◌}
use lib.ListN.{get_or}
use Rattle.bits.specs.Choice.{pick, all_below, refused_in}
use Rattle.bits.specs.Places.{four_at}
use Rattle.bits.proofs.Logic.{pick_yes, pick_no, fails}
use Rattle.bits.proofs.Offence.{refused_at, refused_none}
use Rattle.element.specs.Status.{status_offending, overall_offending, code_alone, entry_of}
use Rattle.page.specs.declared.slots.Slot.{Slot}
use Rattle.page.specs.Slots.{slot_at, slot_place}
use Rattle.status_reading.specs.Read.{first_allows, offence, slot_shown}
use Rattle.status_reading.proofs.FirstOffence.{slot_offending, found}

-- what the four bytes of slot i say
module _ (p : List ℕ) (i : ℕ) (at : Slot) {k : ℕ} {e : List ℕ} (u : k ≡ slot_place i) (h : e ≡ four_at p k) where
  four_is : e ≡ four_at p (slot_place i)
  four_is = h ∙ ap (four_at p) u

  pub offends_overall : {n : ℕ} → at.overall ≡ true → n ≡ overall_offending e
      → n ≡ pick at.overall (overall_offending (four_at p (slot_place i))) (status_offending at.kind (four_at p (slot_place i)))
  offends_overall o r = r ∙ ap overall_offending four_is ∙ sym (pick_yes _ _ _ o)

  pub offends_element : {n : ℕ} → at.overall ≡ false → n ≡ status_offending at.kind e
      → n ≡ pick at.overall (overall_offending (four_at p (slot_place i))) (status_offending at.kind (four_at p (slot_place i)))
  offends_element o r = r ∙ ap (status_offending at.kind) four_is ∙ sym (pick_no _ _ _ o)

  pub shows_overall : {x : List ℕ} → at.overall ≡ true → x ≡ code_alone (get_or e 0 0)
      → x ≡ pick at.overall (code_alone (get_or p (slot_place i) 0)) (entry_of at.kind (four_at p (slot_place i)))
  shows_overall o r = r ∙ ap (λ (l : List ℕ). code_alone (get_or l 0 0)) four_is ∙ sym (pick_yes _ _ _ o)

  pub shows_element : {x : List ℕ} → at.overall ≡ false → x ≡ entry_of at.kind e
      → x ≡ pick at.overall (code_alone (get_or p (slot_place i) 0)) (entry_of at.kind (four_at p (slot_place i)))
  shows_element o r = r ∙ ap (entry_of at.kind) four_is ∙ sym (pick_no _ _ _ o)

-- and of the slot under a configuration
module _ (c p : List ℕ) (i : ℕ) {at : Slot} (q : at ≡ slot_at c i) where
  pub slot_offends : {n : ℕ} → n ≡ pick at.overall (overall_offending (four_at p (slot_place i))) (status_offending at.kind (four_at p (slot_place i)))
      → n ≡ slot_offending c p i
  unfolding slot_offending
  slot_offends h = h ∙ rw q

  pub slot_shows : {x : List ℕ} → x ≡ pick at.overall (code_alone (get_or p (slot_place i) 0)) (entry_of at.kind (four_at p (slot_place i)))
      → x ≡ slot_shown c p i
  unfolding slot_shown
  slot_shows h = h ∙ rw q

module _ (c p : List ℕ) (n : ℕ) where
  pub first_byte_refused : first_allows p ≡ false → 1 ≡ offence c p n
  first_byte_refused e = sym (pick_no _ _ _ e) ∙ found c p n

  module _ (e : first_allows p ≡ true) where
    pub slot_refused : (i : ℕ) {k m : ℕ} → i < n → all_below (fails (refused_in (slot_offending c p))) i ≡ true → k ≡ slot_offending c p i → k < 4 → m ≡ slot_place i
        → m + k ≡ offence c p n
    slot_refused i l a q b u = refused_at slot_place (slot_offending c p) n i l a q b u ∙ sym (pick_yes _ _ _ e) ∙ found c p n

    pub none_refused : {m : ℕ} → all_below (fails (refused_in (slot_offending c p))) n ≡ true → m ≡ slot_place n → m ≡ offence c p n
    none_refused a u = refused_none slot_place (slot_offending c p) n a u ∙ sym (pick_yes _ _ _ e) ∙ found c p n
