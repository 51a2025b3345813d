-- What 4, 12 and 6 say of a page, and that only the bytes up to the offset told decide it: over the order of tests, then of each call.
-- Assumes nothing.
use mathlib.Core.Path.{◌≡◌, refl, sym, ap, ◌∙◌}
use mathlib.Core.Bool.{Bool, true, false}
use mathlib.Core.List.{List}
use Prim.Native.Nat.{ℕ, ◌+◌, ◌<◌, ◌≤◌}
use native.Mathlib.Omega.{arith}
use lib.Dec.{eqb}
use lib.ListN.{length}
use borrow.Author.Tests.{eqb-true, eqb-false, ne_eqb}
use Rattle.bits.specs.Choice.{pick, first_below}
use Rattle.bits.specs.Places.{AlikeTo}
use Rattle.bits.proofs.Logic.{never, pick_no, first_bound, first_passes, first_fails}
use Rattle.bits.proofs.Offence.{stops_alike}
use Rattle.refusals.specs.Numbers.{page_number, page_offset}
use Rattle.refusals.specs.Outcomes.{not_allowed_at}
use Rattle.page.specs.Slots.{slots_of}
use Rattle.configuration_page.specs.Read as configurationSpecs
use Rattle.configuration_page.proofs.AlikeUpTo as configuration
use Rattle.descriptor_record.specs.Read as namesSpecs
use Rattle.descriptor_record.proofs.AlikeUpTo as names
use Rattle.status_reading.specs.Read as statusSpecs
use Rattle.status_reading.proofs.FirstOffence as status
use Rattle.threshold_rows.specs.Rows as rowsSpecs
use Rattle.threshold_rows.proofs.FirstOffence as rows
use Rattle.threshold_record.specs.Read as limits
use Rattle.control_page.specs.Tests as controlSpecs
use Rattle.control_page.proofs.FirstOffence as control
use Rattle.threshold_page_out.specs.Tests as thresholds
use Rattle.collector.specs.Collector.{page_of}
use Rattle.promises.specs.Promises.{ReadConfiguration, ReadStatus, ReadThresholds, ReadDescriptors, ApplyControl, ApplyThresholds, EndPage}
use Rattle.promises.specs.PromisesForC.{NumberedPage, ReadConfigurationForC, ReadStatusForC, ReadThresholdsForC, ReadDescriptorsForC, ApplyControlForC, ApplyThresholdsForC, EndPageForC}
use Rattle.promises.specs.Order.{Tests, own_order, order, in_order, PassesTo6, FirstOffending, OffsetTold, configuration_tests, descriptor_tests, status_tests, limit_tests, control_tests, taken_tests, other_tests, meant_tests}
use Rattle.promises.proofs.PageOrder.{configuration_order, descriptor_order, status_order, limit_order, control_order, taken_order, meant_order}
use Rattle.refusals.specs.Answers.{PageAnswer}

-- 6, 7 and 8 are not 4, 12 or 0, and 6 tells where
own_six : (k end : ℕ) (h o : Bool) → page_number (own_order k end h o) ≡ 6 → (k ≡ end → ⊥) × (page_offset (own_order k end h o) ≡ k)
own_six k end h o q = go (eqb k end) refl h o q
  where
    go : (t : Bool) → eqb k end ≡ t → (h o : Bool) → page_number (pick t (own_order 0 0 h o) (not_allowed_at k)) ≡ 6
        → (k ≡ end → ⊥) × (page_offset (pick t (own_order 0 0 h o) (not_allowed_at k)) ≡ k)
    go true e true true q = absurd (omega arith)
    go true e true false q = absurd (omega arith)
    go true e false o q = absurd (omega arith)
    go false e h o q = (eqb-false k end e, refl)

own_else : (k end : ℕ) (h o : Bool) → (page_number (own_order k end h o) ≡ 6 → ⊥) → page_offset (own_order k end h o) ≡ 0
own_else k end h o f = go (eqb k end) h o f
  where
    go : (t h o : Bool) → (page_number (pick t (own_order 0 0 h o) (not_allowed_at k)) ≡ 6 → ⊥) → page_offset (pick t (own_order 0 0 h o) (not_allowed_at k)) ≡ 0
    go true true true f = refl
    go true true false f = refl
    go true false o f = refl
    go false h o f = absurd (f refl)

own_behind : (k end : ℕ) (h o : Bool) → (page_number (own_order k end h o) ≡ 4 → ⊥) × (page_number (own_order k end h o) ≡ 12 → ⊥)
own_behind k end h o = go (eqb k end) h o
  where
    go : (t h o : Bool) → (page_number (pick t (own_order 0 0 h o) (not_allowed_at k)) ≡ 4 → ⊥) × (page_number (pick t (own_order 0 0 h o) (not_allowed_at k)) ≡ 12 → ⊥)
    go true true true = ((λ q. omega (arith, q)), (λ q. omega (arith, q)))
    go true true false = ((λ q. omega (arith, q)), (λ q. omega (arith, q)))
    go true false o = ((λ q. omega (arith, q)), (λ q. omega (arith, q)))
    go false h o = ((λ q. omega (arith, q)), (λ q. omega (arith, q)))

-- each number before 6 has its own test
module _ (own : PageAnswer) where
  abbrev Six : Bool → Bool → Bool → Bool → Bool → Bool → Type 0
  Six f s c a n g =
      (f ≡ true) × (s ≡ true) × (c ≡ true) × (a ≡ true) × (n ≡ true) × (g ≡ true) × (page_number own ≡ 6)

  six : (f s c a n g : Bool) → page_number (order f s c a n g own) ≡ 6 → Six f s c a n g
  six true true true true true true q = (refl, refl, refl, refl, refl, refl, q)
  six true true true true true false q = absurd (omega arith)
  six true true true true false g q = absurd (omega arith)
  six true true true false n g q = absurd (omega arith)
  six true true false a n g q = absurd (omega arith)
  six true false c a n g q = absurd (omega arith)
  six false s c a n g q = absurd (omega arith)

  four : (page_number own ≡ 4 → ⊥) → (f s c a n g : Bool) → page_number (order f s c a n g own) ≡ 4 → a ≡ false
  four h true true true true true true q = absurd (h q)
  four h true true true true true false q = absurd (omega arith)
  four h true true true true false g q = absurd (omega arith)
  four h true true true false n g q = refl
  four h true true false a n g q = absurd (omega arith)
  four h true false c a n g q = absurd (omega arith)
  four h false s c a n g q = absurd (omega arith)

  twelve : (page_number own ≡ 12 → ⊥) → (f s c a n g : Bool) → page_number (order f s c a n g own) ≡ 12 → (a ≡ true) × (n ≡ false)
  twelve h true true true true true true q = absurd (h q)
  twelve h true true true true true false q = absurd (omega arith)
  twelve h true true true true false g q = (refl, refl)
  twelve h true true true false n g q = absurd (omega arith)
  twelve h true true false a n g q = absurd (omega arith)
  twelve h true false c a n g q = absurd (omega arith)
  twelve h false s c a n g q = absurd (omega arith)

  else_0 : ((page_number own ≡ 6 → ⊥) → page_offset own ≡ 0) → (f s c a n g : Bool) → (page_number (order f s c a n g own) ≡ 6 → ⊥)
      → page_offset (order f s c a n g own) ≡ 0
  else_0 h true true true true true true q = h q
  else_0 h true true true true true false q = refl
  else_0 h true true true true false g q = refl
  else_0 h true true true false n g q = refl
  else_0 h true true false a n g q = refl
  else_0 h true false c a n g q = refl
  else_0 h false s c a n g q = refl

-- of an answer by the order of tests
module _ (t : Tests) {r : PageAnswer} (e : r ≡ in_order t) where
  abbrev k : ℕ
  k = first_below t.offends t.end

  abbrev own : PageAnswer
  own = own_order k t.end t.had t.ordered

  -- 4 is never given where the bytes given are page length + 4
  pub four_said : page_number r ≡ 4 → t.said ≡ false
  four_said q =
      four own (own_behind k t.end t.had t.ordered).0 t.formed t.size t.code t.said t.needed t.generation
      (sym (ap page_number e) ∙ q)

  -- 12 is never given where the length is the needed one, and only behind 4
  pub twelve_needed : page_number r ≡ 12 → (t.said ≡ true) × (t.needed ≡ false)
  twelve_needed q =
      twelve own (own_behind k t.end t.had t.ordered).1 t.formed t.size t.code t.said t.needed t.generation
      (sym (ap page_number e) ∙ q)

  -- every answer but 6 tells 0
  pub else_zero : (page_number r ≡ 6 → ⊥) → page_offset r ≡ 0
  else_zero f =
      ap page_offset e
      ∙ else_0 own (own_else k t.end t.had t.ordered) t.formed t.size t.code t.said t.needed t.generation
      (λ q. f (ap page_number e ∙ q))

  module _ (q : page_number r ≡ 6) where
    passed : Six own t.formed t.size t.code t.said t.needed t.generation
    passed = six own t.formed t.size t.code t.said t.needed t.generation (sym (ap page_number e) ∙ q)

    told : (k ≡ t.end → ⊥) × (page_offset own ≡ k)
    told = own_six k t.end t.had t.ordered passed.6

    as_own : r ≡ own
    as_own = let h = passed in e ∙ rw (h.0, h.1, h.2, h.3, h.4, h.5)

    at_k : page_offset r ≡ k
    at_k = ap page_offset as_own ∙ told.1

    before_end : k < t.end
    before_end = omega (arith, first_bound t.offends t.end, told.0)

    -- 6 tells the first offending byte, which is one of the page
    pub six_told : FirstOffending t.offends (page_offset r) × (page_offset r < t.end)
    six_told =
        let o = at_k in (
          (ap t.offends o ∙ first_passes t.offends t.end before_end, (λ i l. first_fails t.offends t.end i (omega (arith, l, o)))),
          omega (arith, o, before_end),
        )

    -- and another page that passes the tests before 6, and offends alike up to there, is answered alike
    pub six_alike : (u : Tests) → PassesTo6 u → u.end ≡ t.end → ((i : ℕ) → i ≤ page_offset r → t.offends i ≡ u.offends i) → in_order u ≡ not_allowed_at (page_offset r)
    six_alike u h n a =
        let o = at_k in
        let s = stops_alike t.offends u.offends t.end before_end (λ i l. a i (omega (arith, l, o))) in
        let m : first_below u.offends u.end ≡ k = ap (first_below u.offends) n ∙ s in
        rw (h.0, h.1, h.2, h.3, h.4, h.5)
        (pick_no _ _ _ (ne_eqb (first_below u.offends u.end) u.end (λ z. told.0 (sym m ∙ z ∙ n))) ∙ ap not_allowed_at (m ∙ sym o))

-- for C
told_for_c : (t : Tests) → t.offends 0 ≡ false → {P : PageAnswer → List ℕ → Type 0} → ((r : PageAnswer) (o : List ℕ) → P r o → r ≡ in_order t)
    → OffsetTold t (λ (n : ℕ) (o : List ℕ) (k : ℕ). NumberedPage (λ r. P r o) n k)
told_for_c t z f n o k h =
    let r = h.0 in
    let e = f r o h.1 in
    ((λ q. six_c (sym h.2 ∙ q)), (λ u. h.3 ∙ else_zero t e (λ q. u (h.2 ∙ q))))
  where
    six_c : page_number h.0 ≡ 6 → FirstOffending t.offends k × (k ≡ 0 → ⊥)
    six_c q =
        let s = (six_told t (f h.0 o h.1) q).0 in
        let at : t.offends k ≡ true = ap t.offends h.3 ∙ s.0 in (
          (at, (λ i l. s.1 i (omega (arith, l, h.3)))),
          (λ w. never (sym at ∙ ap t.offends w ∙ z)),
        )

pub ses_read_configuration : (page configuration : List ℕ) → OffsetTold (configuration_tests page) (ReadConfigurationForC page configuration)
unfolding configurationSpecs.offends configurationSpecs.fixed_offends
ses_read_configuration page configuration = told_for_c (configuration_tests page) refl (λ r o h. h.0 ∙ configuration_order page)

pub ses_read_status : (configuration page fields : List ℕ) → OffsetTold (status_tests configuration page) (ReadStatusForC configuration page fields)
unfolding statusSpecs.offends
ses_read_status configuration page fields = told_for_c (status_tests configuration page) refl (λ r o h. h.0 ∙ status_order configuration page)

pub ses_read_thresholds : (configuration page fields : List ℕ) → OffsetTold (limit_tests configuration page) (ReadThresholdsForC configuration page fields)
unfolding rowsSpecs.offends
ses_read_thresholds configuration page fields = told_for_c (limit_tests configuration page) refl (λ r o h. h.0 ∙ limit_order configuration page)

pub ses_read_descriptors : (configuration page fields : List ℕ) → OffsetTold (descriptor_tests configuration page) (ReadDescriptorsForC configuration page fields)
unfolding namesSpecs.offends
ses_read_descriptors configuration page fields =
    told_for_c (descriptor_tests configuration page) refl (λ r o h. h.0 ∙ descriptor_order configuration page)

pub ses_apply_control : (shelf page : List ℕ) → OffsetTold (control_tests shelf page) (ApplyControlForC shelf page)
unfolding controlSpecs.offends
ses_apply_control shelf page = told_for_c (control_tests shelf page) refl (λ r o h. h.0 ∙ control_order shelf page)

pub ses_apply_thresholds : (shelf page : List ℕ) → OffsetTold (taken_tests shelf page) (ApplyThresholdsForC shelf page)
unfolding rowsSpecs.byte_offends
ses_apply_thresholds shelf page = told_for_c (taken_tests shelf page) refl (λ r o h. h.0 ∙ taken_order shelf page)

-- of the page collected, by the code meant
pub ses_end_page : (collector shelf : List ℕ) (code : ℕ) (c : List ℕ)
    → OffsetTold (meant_tests code shelf (page_of collector)) (λ n o k. EndPageForC collector shelf code n c o k)
unfolding controlSpecs.offends rowsSpecs.byte_offends
ses_end_page collector shelf code c =
    told_for_c (meant_tests code shelf p) (never_first (eqb code 0x02) (eqb code 0x05)) {P = λ r o. EndPage collector shelf code r c o}
    (λ r o h. h.0.0 ∙ meant_order code shelf p)
  where
    p : List ℕ
    p = page_of collector

    never_first : (a b : Bool) → (pick a (control_tests shelf p) (pick b (taken_tests shelf p) (other_tests shelf p))).offends 0 ≡ false
    never_first true b = refl
    never_first false true = refl
    never_first false false = refl

-- Two pages that agree up to the offset told: the other is refused there too, if it passes the tests before 6 and has the same length.
module _ (p p' : List ℕ) {r : PageAnswer} {o : List ℕ} (q : page_number r ≡ 6) (a : AlikeTo (page_offset r) p p') where
  pub configuration_alike : (old : List ℕ) → ReadConfiguration p old r o → length p' ≡ length p → PassesTo6 (configuration_tests p')
      → configurationSpecs.configuration_read p' ≡ not_allowed_at (page_offset r)
  configuration_alike old h n u =
      configuration_order p'
      ∙ six_alike (configuration_tests p) (h.0 ∙ configuration_order p) q (configuration_tests p') u n (configuration.offends_alike p p' (page_offset r) a)

  pub status_alike : (c old : List ℕ) → ReadStatus c p old r o → PassesTo6 (status_tests c p') → statusSpecs.status_read c p' ≡ not_allowed_at (page_offset r)
  status_alike c old h u =
      status_order c p'
      ∙ six_alike (status_tests c p) (h.0 ∙ status_order c p) q (status_tests c p') u refl (status.offends_alike c p p' (page_offset r) a)

  pub limits_alike : (c old : List ℕ) → ReadThresholds c p old r o → PassesTo6 (limit_tests c p') → limits.threshold_read c p' ≡ not_allowed_at (page_offset r)
  limits_alike c old h u =
      limit_order c p'
      ∙ six_alike (limit_tests c p) (h.0 ∙ limit_order c p) q (limit_tests c p') u refl (rows.offends_alike p p' (page_offset r) a c)

  pub control_alike : (s : List ℕ) → ApplyControl s p r o → PassesTo6 (control_tests s p') → controlSpecs.control_tested s p' ≡ not_allowed_at (page_offset r)
  control_alike s h u =
      control_order s p'
      ∙ six_alike (control_tests s p) (h.0 ∙ control_order s p) q (control_tests s p') u refl (control.offends_alike s p p' (page_offset r) a)

  pub taken_alike : (s : List ℕ) → ApplyThresholds s p r o → PassesTo6 (taken_tests s p') → thresholds.thresholds_tested s p' ≡ not_allowed_at (page_offset r)
  taken_alike s h u =
      taken_order s p'
      ∙ six_alike (taken_tests s p) (h.0 ∙ taken_order s p) q (taken_tests s p') u refl (rows.byte_alike p p' (page_offset r) a)

-- Of descriptor pages the byte behind the offset decides too: a length of two bytes is told at its first.
pub descriptors_alike : (c p p' old : List ℕ) {r : PageAnswer} {o : List ℕ} → page_number r ≡ 6 → AlikeTo (page_offset r + 1) p p' → ReadDescriptors c p old r o
    → length p' ≡ length p → PassesTo6 (descriptor_tests c p') → namesSpecs.names_read c p' ≡ not_allowed_at (page_offset r)
descriptors_alike c p p' old {r} q a h n u =
    let t = descriptor_tests c p in
    let e = h.0 ∙ descriptor_order c p in
    let l : t.end ≡ length p = sym (eqb-true (length p) t.end (passed t e q).4) in
    let l' : (descriptor_tests c p').end ≡ length p' = sym (eqb-true (length p') (descriptor_tests c p').end u.4) in
    let k = (six_told t e q).1 in
    descriptor_order c p'
    ∙ six_alike t e q (descriptor_tests c p') u (l' ∙ n ∙ sym l) (λ i m. names.offends_alike p p' (page_offset r) a (slots_of c) i m (omega (arith, m, k)))
