-- What a control page makes of one element and of all, from what the calls say. Assumes nothing.
use Rattle.std.specs.Prelude.{Ok, Err}
use mathlib.Core.Path.{◌≡◌, refl, sym, ap, ◌∙◌}
use mathlib.Core.Bool.{true, false}
use mathlib.Core.List.{List}
use Prim.Native.Nat.{ℕ, ◌+◌, ◌<◌}
use native.Mathlib.Omega.{arith}
use lib.ListN.{length}
use Rattle.bits.specs.Places.{four_at, put_four, fours_put}
use Rattle.bits.proofs.FourPut.{put_same}
use Rattle.bits.proofs.FoursPut.{fours_next, fours_length}
use Rattle.element.specs.declared.types.Kind.{Kind}
use Rattle.element.specs.declared.settings.Settings.{Settings}
use Rattle.element_control.specs.declared.Control.{Control}
use Rattle.element.specs.Settings.{settings_of, settings_bytes}
use Rattle.element.specs.Requests.{acted}
use Rattle.element_control.specs.Control.{selected, control_of, chosen, settled}
use Rattle.element_control.proofs.Acting.{settled_length, own_acts, overall_acts, settled_by, settled_alone}
use Rattle.refusals.specs.declared.PageRefusal.{PageRefusal}
use Rattle.shelf.specs.Limits.{element_place, HasElement}
use Rattle.shelf.specs.Types.{elements_of}
use Rattle.shelf.specs.Elements.{settings_at, settings_put}
use Rattle.shelf.specs.SettingsList.{with_settings}
use Rattle.shelf.proofs.SettingsList.{settings_place, settings_length, list_put}
use Rattle.shelf_formed.proofs.FrontOfShelf.{front}
use Rattle.shelf_formed.proofs.ElementsPut.{front_after, row_later}
use Rattle.page.specs.declared.places.Places.{Places}
use Rattle.page.specs.Places.{places_of, HasSlots}
use Rattle.page.specs.Header.{HasPage}
use Rattle.page.proofs.HeaderBothWays.{tested_has}
use Rattle.page.proofs.ElementSlots.{places_alike, element_there}
use Rattle.control_page.specs.Tests.{control_tested, valid}
use Rattle.control_page.proofs.ValidPage.{valid_headed}
use Rattle.control_page.specs.Brought.{acting_at, settings_after, brought_to, after}
use Rattle.refusals.specs.Answers.{PageAnswer}

-- one element
module _ (s : List ℕ) (j : ℕ) where
  pub acted_by : (k : Kind) (e : List ℕ) {f g o : List ℕ} {c : Control} {x y : Settings} → selected e ≡ true → c ≡ control_of k e → f ≡ settings_at s j
      → x ≡ settings_of k f → y ≡ acted c.request x → g ≡ settings_bytes k y → o ≡ settings_put s j g
      → o ≡ settings_put s j (settled k (control_of k e) (settings_at s j))
  acted_by k e t hc hf hx hy hg ho = ho ∙ ap (settings_put s j) (hg ∙ rw (hy, hx, hc, hf) (sym (settled_by k e (settings_at s j) t)))

  -- by its own control element, by the overall one, by none
  module _ (p : List ℕ) {at : Places} {b : List ℕ} (q : at ≡ places_of s j) (hb : b ≡ four_at p at.ownplace) where
    made : (e : List ℕ) → chosen (control_of at.kind (four_at p at.overallplace)) (control_of at.kind (four_at p at.ownplace)) ≡ control_of at.kind e
        → settled at.kind (control_of at.kind e) (settings_at s j) ≡ settings_after s p j
    unfolding settings_after
    made e h = ap (λ (c : Control). settled at.kind c (settings_at s j)) (sym h) ∙ ap (λ (z : Places). settled z.kind (acting_at p z) (settings_at s j)) q

    pub by_own : {o : List ℕ} → selected b ≡ true → o ≡ settings_put s j (settled at.kind (control_of at.kind b) (settings_at s j))
        → o ≡ settings_put s j (settings_after s p j)
    by_own t ho = ho ∙ ap (settings_put s j) (made b (rw (← hb) (own_acts at.kind (four_at p at.overallplace) b t)))

    module _ {a : List ℕ} (ha : a ≡ four_at p at.overallplace) (f : selected b ≡ false) where
      by_rest : settled at.kind (control_of at.kind a) (settings_at s j) ≡ settings_after s p j
      by_rest = made a (rw (← hb, ← ha) (overall_acts at.kind a b f))

      pub by_overall : {o : List ℕ} → o ≡ settings_put s j (settled at.kind (control_of at.kind a) (settings_at s j))
          → o ≡ settings_put s j (settings_after s p j)
      by_overall ho = ho ∙ ap (settings_put s j) by_rest

      pub by_none : selected a ≡ false → s ≡ settings_put s j (settings_after s p j)
      unfolding settings_at settings_put
      by_none u = sym (ap (put_four s (element_place j)) (sym by_rest ∙ settled_alone at.kind a (settings_at s j) u) ∙ put_same s (element_place j))

-- one element after the other
module _ (s p : List ℕ) where
  pub after_length : (j : ℕ) → length (settings_after s p j) ≡ 4
  unfolding settings_after
  after_length j = settled_length (places_of s j).kind (acting_at p (places_of s j)) (settings_at s j) (settings_length s j)

  abbrev pub partly : ℕ → List ℕ
  partly n = fours_put element_place (settings_after s p) s n

  -- those acted on already do not change what is made of the next
  same_after : (j : ℕ) → j < elements_of s → settings_after (partly j) p j ≡ settings_after s p j
  unfolding settings_after settings_at
  same_after j l =
      let e = front_after element_place 0 settings_place (omega arith) (settings_after s p) s j in
      rw (places_alike s (partly j) e j l, row_later element_place 0 settings_place (omega arith) (settings_after s p) s j j (omega arith))

  pub act_next : (j : ℕ) {x y : List ℕ} → j < elements_of s → x ≡ partly j → y ≡ settings_put x j (settings_after x p j) → y ≡ partly (j + 1)
  unfolding settings_put
  act_next j {x} l e h =
      fours_next element_place (settings_after s p) s j e refl (ap (λ (z : List ℕ). settings_after z p j) e ∙ same_after j l) h

  -- nor the front, and so the walk; and there are the bytes that are read for it: its own, and its two slots
  module _ (j : ℕ) {x : List ℕ} (e : x ≡ partly j) where
    pub same_front : front x ≡ front s
    same_front = ap front e ∙ front_after element_place 0 settings_place (omega arith) (settings_after s p) s j

    pub act_room : HasPage s p → j < elements_of s → HasElement x j × HasSlots p (places_of x j)
    act_room h l = element_there s p h x same_front (fours_length element_place (settings_after s p) s j e) j l

  pub partly_length : (n : ℕ) {x : List ℕ} → x ≡ partly n → length x ≡ length s
  partly_length n e = fours_length element_place (settings_after s p) s n e

  pub all_acted : (n : ℕ) {x : List ℕ} → n ≡ elements_of s → x ≡ partly n → x ≡ with_settings s (brought_to s p)
  unfolding brought_to
  all_acted n q e = e ∙ ap partly q ∙ list_put (settings_after s p) after_length s

  -- the call as a whole
  module _ {a : PageAnswer} (h : a ≡ control_tested s p) where
    pub refused_after : {r : PageRefusal} → a ≡ Err r → s ≡ after s p
    unfolding valid
    refused_after u = sym (rw (← h, u))

    pub accepted_room : a ≡ Ok tt → HasPage s p
    unfolding valid
    accepted_room u = let v : valid s p ≡ true = rw (← h, u) in tested_has s p 0x02 (valid_headed s p v)

    pub accepted_after : {x : List ℕ} → a ≡ Ok tt → x ≡ with_settings s (brought_to s p) → x ≡ after s p
    unfolding valid
    accepted_after u e = e ∙ sym (rw (← h, u))
