-- Status elements of an element of any type, and the entries that say the same, from the facts of its rules. Assumes nothing.
use mathlib.Core.Path.{◌≡◌, refl, sym, ap, ◌∙◌}
use mathlib.Core.Bool.{true}
use mathlib.Core.List.{List, [], ◌∷◌, ◌++◌}
use Prim.Native.Nat.{ℕ, zero, suc, ◌+◌, ◌*◌, ◌/◌, ◌%◌, ◌<◌, ◌≤◌}
use native.Mathlib.Nat.{mod-eq_of_lt}
use native.Mathlib.Omega.{arith}
use lib.Bits.{and_mask}
use lib.Dec.{eqb}
use lib.ListN.{length, get_or, replicate}
use borrow.Author.Tests.{eqb-true, eq-eqb, leb-true, le-leb}
use Rattle.bits.specs.Bits.{num, within, only}
use Rattle.bits.proofs.Logic.{and_right, and_both, all_four, four_pass, first_small, below_all, by_byte_if, four_alike}
use Rattle.bits.specs.Choice.{pick, first_of_four}
use Rattle.bits.proofs.Halves.{num_small}
use Rattle.element.specs.declared.types.Kind.{Kind}
use Rattle.element.specs.declared.settings.Settings.{Settings}
use Rattle.element.specs.declared.verdict.Verdict.{Verdict}
use Rattle.element.specs.StatusLayout.{StatusLayout, field_mask, fields_in, padded, twelve, holds, fit}
use Rattle.element.specs.Rules.{code_allowed, first_clear, shown_mask, clear}
use Rattle.element.specs.Types.{rules_of, layout_of, reading_allowed, verdict_of}
use Rattle.element.specs.Status.{head_of, first_byte, entry_of, status_bytes, entry_by, shown_by, status_offending, most_shown, overall_offending, code_alone, most_overall}
use Rattle.element.proofs.Pieces.{length-padded}
use Rattle.element.proofs.StatusBothWays.{byte_clear, three_behind, bytes_again_lem, twelve_fit, twelve_back}
use Rattle.element.proofs.StoredSettings.{Storable}
use Rattle.element.proofs.TypeFacts.{facts}

-- byte 0, each way round
first_again : (a : ℕ) → a < 256 → first_clear a ≡ true → first_byte (head_of a) ≡ a
first_again a h t = eqb-true _ _ (by_byte_if first_clear (λ a. eqb (first_byte (head_of a)) a) refl a h t)

module _ (x c p d w : ℕ) (hp : p ≤ 1) (hd : d ≤ 1) (hw : w ≤ 1) (hc : c ≤ 8) (e : x ≡ p * 64 + d * 32 + w * 16 + c) where
  code_in : x % 16 ≡ c
  code_in = omega arith

  prdfail_in : x / 64 % 2 ≡ p
  prdfail_in = omega arith

  disabled_in : x / 32 % 2 ≡ d
  disabled_in = omega arith

  swap_in : x / 16 % 2 ≡ w
  swap_in = omega arith

  first_low : x < 128
  first_low = omega arith

module _ (c p d w : ℕ) (hp : p ≤ 1) (hd : d ≤ 1) (hw : w ≤ 1) (hc : c ≤ 8) where
  abbrev a : ℕ
  a = first_byte (c ∷ p ∷ d ∷ w ∷ [])

  sum_is : a ≡ p * 64 + d * 32 + w * 16 + c
  sum_is = omega arith

  first_back : head_of a ≡ c ∷ p ∷ d ∷ w ∷ []
  first_back =
      let x = code_in a c p d w hp hd hw hc sum_is in
      let y = prdfail_in a c p d w hp hd hw hc sum_is in
      let z = disabled_in a c p d w hp hd hw hc sum_is in
      let v = swap_in a c p d w hp hd hw hc sum_is in λ i. x i ∷ y i ∷ z i ∷ v i ∷ []

  first_fine : first_clear a ≡ true
  first_fine =
      let l = first_low a c p d w hp hd hw hc sum_is in
      let m : a % 128 ≡ a = mod-eq_of_lt l in
      and_both (eq-eqb _ _ (and_mask a 7 ∙ m)) (le-leb (a % 16) 8 (rw (code_in a c p d w hp hd hw hc sum_is) hc))

module _ (k : Kind) where
  abbrev l : StatusLayout
  l = (rules_of k).status

  offence_is : (e : List ℕ) → status_offending k e ≡ first_of_four (clear l e)
  unfolding status_offending
  offence_is e = four_alike ((facts k).hides e)

  -- byte j is tested by itself and byte 0
  pub status_alike : (e d : List ℕ) (j : ℕ) → get_or e 0 0 ≡ get_or d 0 0 → get_or e j 0 ≡ get_or d j 0 → (rules_of k).status_allows e j ≡ (rules_of k).status_allows d j
  status_alike e d j p q =
      let c : clear l e j ≡ clear l d j = λ i. pick (eqb j 0) (first_clear (p i)) (within (get_or (shown_mask l) j 0) (q i)) in
      (facts k).hides e j ∙ c ∙ sym ((facts k).hides d j)

  pub offence_small : (e : List ℕ) → status_offending k e ≤ 4
  offence_small e = rw (offence_is e) (first_small _ _ _ _)

  pub bytes_length : (x : List ℕ) → length (status_bytes k x) ≡ 4
  unfolding status_bytes
  bytes_length x = refl

  pub entry_length : (e : List ℕ) → length (entry_of k e) ≡ 16
  unfolding entry_of
  entry_length e =
      let f = fields_in l.second (get_or e 1 0) ++ (fields_in l.third (get_or e 2 0) ++ fields_in l.fourth (get_or e 3 0)) in
      ap (λ (n : ℕ). suc (suc (suc (suc n)))) (length-padded 12 f)

  -- four bytes of which none is refused are those that show what they say
  module _ (a b c d : ℕ) (t : status_offending k (a ∷ b ∷ c ∷ d ∷ []) ≡ 4) where
    parts : (first_clear a ≡ true) × (within (field_mask l.second) b ≡ true) × (within (field_mask l.third) c ≡ true) × (within (field_mask l.fourth) d ≡ true)
    parts = all_four _ _ _ _ (sym (offence_is (a ∷ b ∷ c ∷ d ∷ [])) ∙ t)

    pub status_again : a < 256 → b < 256 → c < 256 → d < 256 → status_bytes k (entry_of k (a ∷ b ∷ c ∷ d ∷ [])) ≡ a ∷ b ∷ c ∷ d ∷ []
    unfolding status_bytes entry_of
    status_again ha hb hc hd =
        let h = parts in
        let x = first_again a ha h.0 in
        let y = three_behind l (head_of a) (twelve l b c d) ∙ bytes_again_lem l (facts k).lays b c d hb hc hd h.1 h.2 h.3 in
        λ i. x i ∷ y i

    -- and what they say can be shown
    pub entry_fit : fit (most_shown k) (entry_of k (a ∷ b ∷ c ∷ d ∷ [])) 16 ≡ true
    unfolding most_shown entry_of
    entry_fit = below_all (holds (most_shown k) (entry_of k (a ∷ b ∷ c ∷ d ∷ []))) 16 (λ i h. le-leb _ _ (at i))
      where
        at : (i : ℕ) → get_or (entry_of k (a ∷ b ∷ c ∷ d ∷ [])) i 0 ≤ get_or (most_shown k) i 0
        at zero = leb-true _ 8 (and_right (only (6 ∷ 5 ∷ 4 ∷ 3 ∷ 2 ∷ 1 ∷ 0 ∷ []) a) (code_allowed (a % 16)) parts.0)
        at (suc zero) = omega arith
        at (suc (suc zero)) = omega arith
        at (suc (suc (suc zero))) = omega arith
        at (suc (suc (suc (suc i)))) = twelve_fit l (facts k).lays b c d i

  -- byte 0 has the code of the verdict
  pub code_shown : (s : Settings) (r n : ℕ) (t : List ℕ) → get_or (status_bytes k (shown_by k s r n t)) 0 0 % 16 ≡ (verdict_of k s r n t).code
  unfolding status_bytes shown_by entry_by verdict_of
  code_shown s r n t =
      let c = ((rules_of k).verdict s r n t).code in
      let h : c ≤ 8 = leb-true _ 8 ((facts k).judges s r n t) in
      ap (λ (x : List ℕ). get_or x 0 0)
      (first_back c (num s.prdfail) (num s.disabled) (num s.swap) (num_small s.prdfail) (num_small s.disabled) (num_small s.swap) h)

  -- what an element shows: it is not refused, and is read back
  module _ (s : Settings) (r n : ℕ) (t : List ℕ) (h : Storable k s) (m : r < 65536) (a : reading_allowed k r ≡ true) where
    abbrev v : Verdict
    v = verdict_of k s r n t

    code_small : v.code ≤ 8
    unfolding verdict_of
    code_small = leb-true _ 8 ((facts k).judges s r n t)

    pub shown_back : entry_of k (status_bytes k (shown_by k s r n t)) ≡ shown_by k s r n t
    unfolding entry_of status_bytes shown_by entry_by reading_allowed layout_of
    shown_back =
        let f = (rules_of k).fields s v r in
        let x = first_back v.code (num s.prdfail) (num s.disabled) (num s.swap) (num_small s.prdfail) (num_small s.disabled) (num_small s.swap) code_small in
        let q = three_behind l (v.code ∷ num s.prdfail ∷ num s.disabled ∷ num s.swap ∷ []) (padded 12 f) in
        let y = ap (λ (z : List ℕ). twelve l (get_or z 0 0) (get_or z 1 0) (get_or z 2 0)) q ∙ twelve_back l (facts k).lays f ((facts k).shows s v r m h a) in
        λ i. x i ++ y i

    pub shown_clear : status_offending k (status_bytes k (shown_by k s r n t)) ≡ 4
    unfolding status_bytes shown_by entry_by
    shown_clear =
        let x = first_fine v.code (num s.prdfail) (num s.disabled) (num s.swap) (num_small s.prdfail) (num_small s.disabled) (num_small s.swap) code_small in
        offence_is _
        ∙ four_pass x (byte_clear l.second (facts k).lays.second _ _) (byte_clear l.third (facts k).lays.third _ _)
        (byte_clear l.fourth (facts k).lays.fourth _ _)

-- an overall element shows its code alone
module _ (e : List ℕ) where
  pub overall_small : overall_offending e ≤ 4
  unfolding overall_offending
  overall_small = first_small _ _ _ _

pub alone_fit : (n : ℕ) → code_allowed n ≡ true → fit most_overall (code_alone n) 16 ≡ true
alone_fit n t = below_all (holds most_overall (code_alone n)) 16 (λ i h. le-leb _ _ (at i))
  where
    zeros : (i m : ℕ) → get_or (replicate m 0) i 0 ≤ get_or (replicate m 0) i 0
    zeros i m = omega arith

    at : (i : ℕ) → get_or (code_alone n) i 0 ≤ get_or most_overall i 0
    at zero = leb-true n 8 t
    at (suc i) = zeros i 15
