-- What each test of a Threshold Out page comes to, from what the calls say. Assumes nothing.
use Rattle.std.specs.Prelude.{Ok, Err}
use mathlib.Core.Path.{◌≡◌, refl, sym, ap, ◌∙◌}
use mathlib.Core.Bool.{Bool, true, false}
use mathlib.Core.List.{List}
use Prim.Native.Nat.{ℕ}
use native.Mathlib.Omega.{arith}
use Rattle.bits.specs.Choice.{all_below}
use Rattle.bits.proofs.Logic.{pick_yes, pick_no}
use Rattle.element.specs.Types.{ordered}
use Rattle.refusals.specs.declared.Refusal.TheVariants.{ThresholdOrder}
use Rattle.refusals.specs.declared.Refusal.{Refusal}
use Rattle.refusals.specs.declared.PageRefusal.{PageRefusal}
use Rattle.refusals.specs.Outcomes.{of_page, offence_tested, telling}
use Rattle.refusals.proofs.Stages.{stopped, gone_on, none_offended, slots_told}
use Rattle.shelf.specs.Types.{elements_of}
use Rattle.shelf.specs.Elements.{thresholds_at}
use Rattle.page.specs.declared.places.Places.{Places}
use Rattle.page.specs.Places.{places_of}
use Rattle.page.specs.Slots.{slots_of, slot_place}
use Rattle.page.specs.Header.{HasPage, page_tested}
use Rattle.page.proofs.ElementSlots.{front_there, page_has}
use Rattle.threshold_rows.specs.Rows.{on_page, HasRows, byte_tested, had_tested}
use Rattle.threshold_rows.proofs.FirstOffence.{byte_offence, byte_found}
use Rattle.threshold_rows.proofs.ByteTests as rows
use Rattle.threshold_page_out.specs.Taken.{taken_at}
use Rattle.threshold_page_out.specs.Tests.{element_ordered, all_ordered, order_tested, limits_tested, bytes_tested}
use Rattle.threshold_page_out.proofs.PageActs.{after_is}
use Rattle.refusals.specs.Answers.{Answer, Counted, PageAnswer}

module _ (s p : List ℕ) where
  pub ordered_is : (j : ℕ) {at : Places} {t : List ℕ} {b : Bool} → at ≡ places_of s j → t ≡ taken_at p at (thresholds_at s j) → b ≡ ordered at.kind t
      → b ≡ element_ordered s p j
  unfolding element_ordered places_of
  ordered_is j q h e = e ∙ rw (ap (λ (z : Places). z.kind) q, after_is s p j q h)

  pub order_refused : (n : ℕ) → n ≡ elements_of s → all_below (element_ordered s p) n ≡ false → Err ThresholdOrder ≡ order_tested s p
  unfolding all_ordered
  order_refused n q e = sym (pick_no (all_ordered s p) _ _ (rw (← q) e))

  pub each_ordered : (n : ℕ) → n ≡ elements_of s → all_below (element_ordered s p) n ≡ true → Ok tt ≡ order_tested s p
  unfolding all_ordered
  each_ordered n q e = sym (pick_yes (all_ordered s p) _ _ (rw (← q) e))

  -- the page's own tests
  module _ (n : ℕ) where
    module _ {b : Answer} (k : b ≡ had_tested s p on_page n) where
      pub not_had : {r : Refusal} → b ≡ Err r → b ≡ limits_tested s p n
      unfolding limits_tested
      not_had v = stopped (had_tested s p on_page n) (order_tested s p) k v

      pub order_last : {d : Answer} → b ≡ Ok tt → d ≡ order_tested s p → d ≡ limits_tested s p n
      unfolding limits_tested
      order_last v q = gone_on (had_tested s p on_page n) (order_tested s p) k v q

    module _ {b : PageAnswer} (h : b ≡ byte_tested p) where
      abbrev end : ℕ
      end = slot_place n

      first_found : {o : PageAnswer} → o ≡ offence_tested (byte_offence p end) end (limits_tested s p n) → o ≡ bytes_tested s p n
      unfolding bytes_tested
      first_found q = q ∙ ap (λ (k : ℕ). offence_tested k end (limits_tested s p n)) (byte_found p n)

      pub byte_refused : {r : PageRefusal} → b ≡ Err r → b ≡ bytes_tested s p n
      byte_refused u = first_found (rows.byte_refused p end end (λ e. omega (arith, e)) (limits_tested s p n) h u)

      pub limits_last : {a : Answer} {o : PageAnswer} → b ≡ Ok tt → a ≡ limits_tested s p n → o ≡ of_page a → o ≡ bytes_tested s p n
      limits_last u e q =
          first_found (rows.byte_passed p end end (λ w. omega (arith, w)) (limits_tested s p n) h u (none_offended end end (limits_tested s p n) refl e q))

-- the bytes that they read, behind the tests of the shelf and the header
pub page_room : (s p : List ℕ) {t : Counted} {n : ℕ} → t ≡ telling (page_tested s p 0x05) (slots_of s) → t ≡ Ok n → HasPage s p × (n ≡ slots_of s)
page_room s p h u = let e = slots_told (page_tested s p 0x05) (slots_of s) h u in (page_has s p 0x05 refl e.0, e.1)

pub rows_there : (s p : List ℕ) {n : ℕ} → HasPage s p → n ≡ slots_of s → HasRows s p on_page n
rows_there s p h q = (front_there s p h, omega arith, omega (arith, h.1))
