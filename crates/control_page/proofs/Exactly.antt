-- An accepted control page changes exactly the chosen elements' named fields. Assumes nothing.
use mathlib.Core.Path.{◌≡◌, refl, sym, ap, ◌∙◌}
use mathlib.Core.Bool.{Bool, true, not, ◌&&◌, and-true, and-false}
use mathlib.Core.List.{List}
use mathlib.Core.Logic.{◌⊎◌, inl, inr}
use Prim.Native.Nat.{ℕ}
use native.Mathlib.Omega.{arith}
use lib.ListN.{get_or}
use borrow.Author.Tests.{eq-eqb, ne_eqb}
use Rattle.bits.specs.Places.{four_at}
use Rattle.bits.proofs.Logic.{by_case, pick_yes, pick_no}
use Rattle.element.specs.declared.settings.Settings.{Settings}
use Rattle.element.specs.Settings.{settings_of, settings_bytes}
use Rattle.element.specs.Requests.{acted}
use Rattle.element_control.specs.Control.{settled}
use Rattle.element_control.proofs.Acting.{settled_said}
use Rattle.shelf.specs.Limits.{element_place}
use Rattle.shelf.specs.Types.{elements_of, kind_at}
use Rattle.shelf.specs.Elements.{settings_at}
use Rattle.shelf.specs.SettingsList.{settings_in, with_settings}
use Rattle.shelf.proofs.SettingsList.{settings_place}
use Rattle.shelf_formed.proofs.ElementsPut.{bytes_same}
use Rattle.page.specs.Slots.{slot_place}
use Rattle.page.specs.Places.{own_slot, overall_slot, places_of}
use Rattle.control_page.specs.Tests.{valid}
use Rattle.control_page.specs.Brought.{acting_at, settings_after, brought_to, after}
use Rattle.control_page.specs.Exactly.{Chosen, ChosenByte, request_for, record_in, Acted, Exactly}
use Rattle.control_page.proofs.Changes.{length-kept, settings_reached, unchosen_kept}

-- what a request makes of settings, field by field
acted_fields : (r s : Settings) → Acted r s (acted r s)
acted_fields r s = record {
  prdfail = refl;
  disabled = refl;
  flags1 = refl;
  flags2 = refl;
  flags3 = refl;
  swap_cleared = λ e. ap (λ (b : Bool). s.swap && not b) e ∙ and-false s.swap;
  swap_kept = λ e. ap (λ (b : Bool). s.swap && not b) e ∙ and-true s.swap;
  speed_kept = λ e. pick_yes _ _ _ (eq-eqb r.speed 0 e);
  speed_replaced = λ h. pick_no _ _ _ (ne_eqb r.speed 0 (λ e. omega arith));
}

module _ (s p : List ℕ) where
  others : (q : ℕ) → (get_or (after s p) q 0 ≡ get_or s q 0) ⊎ ChosenByte s p q
  unfolding with_settings
  others =
      bytes_same element_place 0 settings_place (omega arith) (settings_in (brought_to s p)) s (elements_of s) (valid s p) (ChosenByte s p)
      (λ j i l m.
      by_case (acting_at p (places_of s j)).select (λ e. inr (j, (l, e), omega arith, omega arith))
      (λ e. inl (unchosen_kept s p j l e i (omega arith))))

  module _ (v : valid s p ≡ true) (j : ℕ) (h : Chosen s p j) where
    abbrev made : Settings
    made = acted (request_for s p j) (record_in s s j)

    bytes : settings_at (after s p) j ≡ settings_bytes (kind_at s j) made
    unfolding settings_after places_of settled
    bytes = settings_reached s p v j h.0 ∙ pick_yes _ _ _ h.1

    said : record_in s (after s p) j ≡ made
    unfolding settings_after places_of
    said =
        ap (settings_of (kind_at s j)) (settings_reached s p v j h.0)
        ∙ settled_said (kind_at s j) (four_at p (slot_place (overall_slot s j))) (four_at p (slot_place (own_slot s j))) (settings_at s j) h.1

  pub exactly : valid s p ≡ true → Exactly s p (after s p)
  exactly v = record {
    same_length = length-kept s p;
    others = others;
    fields = λ j h. rw (said v j h) (acted_fields (request_for s p j) (record_in s s j));
    no_more = λ j h. bytes v j h ∙ ap (settings_bytes (kind_at s j)) (sym (said v j h));
  }
