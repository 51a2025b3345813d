-- An accepted Threshold Out page changes exactly the asked threshold bytes. Assumes nothing.
use mathlib.Core.Path.{◌≡◌, refl, ap, ◌∙◌}
use mathlib.Core.Bool.{true}
use mathlib.Core.List.{List}
use mathlib.Core.Logic.{◌⊎◌, inl, inr}
use Prim.Native.Nat.{ℕ, zero, suc, ◌+◌, ◌<◌}
use native.Mathlib.Nat.{add-zero}
use native.Mathlib.Omega.{arith}
use lib.Dec.{eqb, ltb}
use lib.ListN.{get_or}
use borrow.Author.Tests.{eq-eqb, ne_eqb, ltb-true, ltb-false}
use Rattle.bits.specs.Choice.{pick}
use Rattle.bits.specs.Places.{four_at}
use Rattle.bits.proofs.Logic.{by_case, pick_yes, pick_no}
use Rattle.element.specs.Thresholds.{byte_taken, taken}
use Rattle.shelf.specs.Limits.{thresholds_place}
use Rattle.shelf.specs.Types.{elements_of}
use Rattle.shelf.specs.Elements.{thresholds_at}
use Rattle.shelf_formed.proofs.ElementsPut.{bytes_same}
use Rattle.page.specs.Places.{places_of}
use Rattle.threshold_page_out.specs.Tests.{valid, after}
use Rattle.threshold_page_out.specs.Taken.{thresholds_after, taken_from, thresholds_in, with_thresholds}
use Rattle.threshold_page_out.specs.Exactly.{own_byte, overall_byte, Threshold, AskedByte, Exactly}
use Rattle.threshold_page_out.proofs.PageActs.{thresholds_place_lem}
use Rattle.threshold_page_out.proofs.Changes.{length-kept, thresholds_reached}

-- one byte of the four that are taken
one_taken : (x p s : List ℕ) (m a b : ℕ) → four_at x m ≡ taken (four_at p a) (four_at p b) (four_at s m) → (i : ℕ) → i < 4
    → get_or x (m + i) 0 ≡ byte_taken (get_or p (a + i) 0) (get_or p (b + i) 0) (get_or s (m + i) 0)
unfolding taken
one_taken x p s m a b e zero l = rw (add-zero m, add-zero a, add-zero b) (ap (λ (r : List ℕ). get_or r 0 0) e)
one_taken x p s m a b e (suc zero) l = ap (λ (r : List ℕ). get_or r 1 0) e
one_taken x p s m a b e (suc (suc zero)) l = ap (λ (r : List ℕ). get_or r 2 0) e
one_taken x p s m a b e (suc (suc (suc zero))) l = ap (λ (r : List ℕ). get_or r 3 0) e
one_taken x p s m a b e (suc (suc (suc (suc i)))) l = absurd (omega arith)

module _ (s p : List ℕ) (v : valid s p ≡ true) where
  module _ (j i : ℕ) (t : Threshold s j i) where
    byte : get_or (after s p) (thresholds_place j + i) 0 ≡ byte_taken (own_byte s p j i) (overall_byte s p j i) (get_or s (thresholds_place j + i) 0)
    unfolding thresholds_after thresholds_at
    byte =
        one_taken (after s p) p s (thresholds_place j) (places_of s j).ownplace (places_of s j).overallplace
        (thresholds_reached s p v j t.0) i t.1

    no_own : own_byte s p j i ≡ 0
        → get_or (after s p) (thresholds_place j + i) 0
        ≡ pick (eqb (overall_byte s p j i) 0) (get_or s (thresholds_place j + i) 0) (overall_byte s p j i)
    no_own e = byte ∙ pick_yes _ _ _ (eq-eqb (own_byte s p j i) 0 e)

    asked : (get_or (after s p) (thresholds_place j + i) 0 ≡ get_or s (thresholds_place j + i) 0) ⊎ AskedByte s p (thresholds_place j + i)
    asked =
        by_case (ltb 0 (own_byte s p j i)) (λ a. inr (j, i, t, inl (ltb-true 0 (own_byte s p j i) a), refl))
        (λ a.
        by_case (ltb 0 (overall_byte s p j i)) (λ b. inr (j, i, t, inr (ltb-true 0 (overall_byte s p j i) b), refl))
        (λ b. inl (no_own (omega (arith, ltb-false 0 (own_byte s p j i) a)) ∙ pick_yes _ _ _ (eq-eqb (overall_byte s p j i) 0 (omega (arith, ltb-false 0 (overall_byte s p j i) b))))))

  pub exactly : Exactly s p (after s p)
  unfolding with_thresholds
  exactly = record {
    same_length = length-kept s p;
    others = bytes_same thresholds_place 4 thresholds_place_lem (omega arith) (thresholds_in (taken_from s p)) s (elements_of s) (valid s p) (AskedByte s p) (λ j i l m. asked j i (l, m));
    own = λ j i t h. byte j i t ∙ pick_no _ _ _ (ne_eqb (own_byte s p j i) 0 (λ e. omega arith));
    overall = λ j i t e h. no_own j i t e ∙ pick_no _ _ _ (ne_eqb (overall_byte s p j i) 0 (λ d. omega arith));
  }
