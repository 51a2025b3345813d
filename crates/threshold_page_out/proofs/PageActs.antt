-- What a Threshold Out page makes of one element and of all, from what the calls say. Assumes nothing.
use Rattle.std.specs.Prelude.{Ok, Err}
use mathlib.Core.Path.{◌≡◌, refl, sym, ap, ◌∙◌}
use mathlib.Core.Bool.{true}
use mathlib.Core.List.{List}
use Prim.Native.Nat.{ℕ, ◌+◌, ◌<◌}
use native.Mathlib.Omega.{arith}
use lib.ListN.{length}
use Rattle.bits.specs.Places.{four_at, fours_put}
use Rattle.bits.proofs.FoursPut.{fours_next, fours_length, fours_joined}
use Rattle.element.specs.Thresholds.{taken}
use Rattle.refusals.specs.declared.PageRefusal.{PageRefusal}
use Rattle.shelf.specs.Limits.{element_place, thresholds_place, HasElement}
use Rattle.shelf.specs.Types.{elements_of}
use Rattle.shelf_formed.proofs.FrontOfShelf.{front}
use Rattle.shelf.specs.Elements.{thresholds_at, thresholds_put}
use Rattle.shelf_formed.proofs.ElementsPut.{front_after, row_later}
use Rattle.page.specs.declared.places.Places.{Places}
use Rattle.page.specs.Places.{places_of, HasSlots}
use Rattle.page.specs.Header.{HasPage}
use Rattle.page.proofs.HeaderBothWays.{tested_has}
use Rattle.page.proofs.ElementSlots.{places_alike, element_there}
use Rattle.threshold_page_out.specs.Tests.{thresholds_tested, valid, after}
use Rattle.threshold_page_out.proofs.ValidPage.{valid_headed}
use Rattle.threshold_page_out.specs.Taken.{taken_at, thresholds_after, taken_from, with_thresholds}
use Rattle.refusals.specs.Answers.{PageAnswer}

-- one element
pub taken_is : (p : List ℕ) (at : Places) {a b t x : List ℕ} {stored : List ℕ} → a ≡ four_at p at.ownplace → b ≡ four_at p at.overallplace → t ≡ stored
    → x ≡ taken a b t → x ≡ taken_at p at stored
taken_is p at ha hb ht h = h ∙ rw (ha, hb, ht)

pub after_is : (s p : List ℕ) (j : ℕ) {at : Places} {x : List ℕ} → at ≡ places_of s j → x ≡ taken_at p at (thresholds_at s j) → x ≡ thresholds_after s p j
unfolding thresholds_after
after_is s p j q h = h ∙ ap (λ (z : Places). taken_at p z (thresholds_at s j)) q

pub thresholds_place_lem : (j : ℕ) → thresholds_place j ≡ element_place j + 4
thresholds_place_lem j = refl

-- one element after the other
module _ (s p : List ℕ) where
  pub after_length : (j : ℕ) → length (thresholds_after s p j) ≡ 4
  unfolding thresholds_after taken
  after_length j = refl

  abbrev pub partly : ℕ → List ℕ
  partly n = fours_put thresholds_place (thresholds_after s p) s n

  -- those acted on already do not change what is made of the next
  same_after : (j : ℕ) → j < elements_of s → thresholds_after (partly j) p j ≡ thresholds_after s p j
  unfolding thresholds_after thresholds_at
  same_after j l =
      let e = front_after thresholds_place 4 thresholds_place_lem (omega arith) (thresholds_after s p) s j in
      rw (places_alike s (partly j) e j l, row_later thresholds_place 4 thresholds_place_lem (omega arith) (thresholds_after s p) s j j (omega arith))

  pub act_next : (j : ℕ) {x y t : List ℕ} → j < elements_of s → x ≡ partly j → t ≡ thresholds_after x p j → y ≡ thresholds_put x j t → y ≡ partly (j + 1)
  unfolding thresholds_put
  act_next j l e q h =
      fours_next thresholds_place (thresholds_after s p) s j e refl (q ∙ ap (λ (z : List ℕ). thresholds_after z p j) e ∙ same_after j l) h

  -- nor the front, and so the walk; and there are the bytes that are read for it: its own, and its two slots
  module _ (j : ℕ) {x : List ℕ} (e : x ≡ partly j) where
    pub same_front : front x ≡ front s
    same_front = ap front e ∙ front_after thresholds_place 4 thresholds_place_lem (omega arith) (thresholds_after s p) s j

    pub act_room : HasPage s p → j < elements_of s → HasElement x j × HasSlots p (places_of x j)
    act_room h l = element_there s p h x same_front (fours_length thresholds_place (thresholds_after s p) s j e) j l

  pub partly_length : (n : ℕ) {x : List ℕ} → x ≡ partly n → length x ≡ length s
  partly_length n e = fours_length thresholds_place (thresholds_after s p) s n e

  pub all_acted : (n : ℕ) {x : List ℕ} → n ≡ elements_of s → x ≡ partly n → x ≡ with_thresholds s (taken_from s p)
  unfolding with_thresholds taken_from
  all_acted n q e = e ∙ ap partly q ∙ fours_joined thresholds_place (thresholds_after s p) after_length s (elements_of s)

  -- the call as a whole
  module _ {a : PageAnswer} (h : a ≡ thresholds_tested s p) where
    pub refused_after : {r : PageRefusal} → a ≡ Err r → s ≡ after s p
    unfolding valid
    refused_after u = sym (rw (← h, u))

    pub accepted_room : a ≡ Ok tt → HasPage s p
    unfolding valid
    accepted_room u = let v : valid s p ≡ true = rw (← h, u) in tested_has s p 0x05 (valid_headed s p v)

    pub accepted_after : {x : List ℕ} → a ≡ Ok tt → x ≡ with_thresholds s (taken_from s p) → x ≡ after s p
    unfolding valid
    accepted_after u e = e ∙ sym (rw (← h, u))
