-- What the tests of a collected page and its end come to, from what the calls say. Assumes nothing.
use Rattle.std.specs.Prelude.{Ok, Err}
use mathlib.Core.Path.{◌≡◌, refl, sym, ap, ap₂, ◌∙◌}
use mathlib.Core.List.{List, [], ◌∷◌}
use Prim.Native.Nat.{ℕ, ◌<◌, ◌≤◌}
use native.Mathlib.Omega.{arith}
use lib.ListN.{length, get_or}
use borrow.Author.Tests.{eq-eqb, ne_eqb}
use Rattle.bits.specs.Places.{two_at}
use Rattle.bits.specs.Rows.{bytes_at}
use Rattle.bits.proofs.Logic.{pick_yes, pick_no}
use Rattle.bits.proofs.Rows.{length-bytes_at}
use Rattle.refusals.specs.declared.Refusal.{Refusal}
use Rattle.refusals.specs.declared.Refusal.TheVariants.{PageCode, NeededLength}
use Rattle.refusals.specs.Outcomes.{next, of_page, Changes}
use Rattle.refusals.proofs.Stages.{stopped, gone_on}
use Rattle.page.specs.Header.{shelf_tested, size_tested, given_tested}
use Rattle.control_page.specs.Tests as control
use Rattle.control_page.specs.Brought as controlled
use Rattle.threshold_page_out.specs.Tests as thresholds
use Rattle.collector.specs.Collector.{most_kept, room_place, count_of, page_of}
use Rattle.collector.proofs.Held.{first_byte_lem}
use Rattle.collected_page.specs.Meant.{other_tested, meant_tested, meant_after, meant_code, long_tested}
use Rattle.collected_page.proofs.Long.{long_tested_lem, long_after, by_front}
use Rattle.refusals.specs.Answers.{Answer, PageAnswer}

-- the tests where another code is meant
module _ (s p : List ℕ) {a : Answer} (h : a ≡ shelf_tested s) where
  pub other_not_formed : {r : Refusal} → a ≡ Err r → a ≡ other_tested s p
  unfolding other_tested
  other_not_formed u = stopped (shelf_tested s) (next (size_tested p) (Err PageCode)) h u

  module _ (u : a ≡ Ok tt) {b : Answer} (k : b ≡ size_tested p) where
    pub other_short : {r : Refusal} → b ≡ Err r → b ≡ other_tested s p
    unfolding other_tested
    other_short v = gone_on (shelf_tested s) (next (size_tested p) (Err PageCode)) h u (stopped (size_tested p) (Err PageCode) k v)

    pub other_code : b ≡ Ok tt → Err PageCode ≡ other_tested s p
    unfolding other_tested
    other_code v = gone_on (shelf_tested s) (next (size_tested p) (Err PageCode)) h u (gone_on (size_tested p) (Err PageCode) k v refl)

-- and of a page longer than the largest
module _ (s p : List ℕ) (n code : ℕ) {a : Answer} (h : a ≡ shelf_tested s) where
  abbrev said : Answer
  said = next (given_tested p n) (Err NeededLength)

  abbrev coded : Answer
  coded = next (meant_code p code) said

  pub long_not_formed : {r : Refusal} → a ≡ Err r → a ≡ long_tested s p n code
  unfolding long_tested
  long_not_formed u = stopped (shelf_tested s) coded h u

  module _ (u : a ≡ Ok tt) {b : Answer} (k : b ≡ meant_code p code) where
    pub long_other_code : {r : Refusal} → b ≡ Err r → b ≡ long_tested s p n code
    unfolding long_tested
    long_other_code v = gone_on (shelf_tested s) coded h u (stopped (meant_code p code) said k v)

    module _ (v : b ≡ Ok tt) {d : Answer} (q : d ≡ given_tested p n) where
      pub long_not_said : {r : Refusal} → d ≡ Err r → d ≡ long_tested s p n code
      unfolding long_tested
      long_not_said w = gone_on (shelf_tested s) coded h u (gone_on (meant_code p code) said k v (stopped (given_tested p n) (Err NeededLength) q w))

      pub long_not_needed : d ≡ Ok tt → Err NeededLength ≡ long_tested s p n code
      unfolding long_tested
      long_not_needed w =
          gone_on (shelf_tested s) coded h u (gone_on (meant_code p code) said k v (gone_on (given_tested p n) (Err NeededLength) q w refl))

-- the page by the code meant
module _ (code : ℕ) (s p : List ℕ) where
  pub as_control : code ≡ 0x02 → {r : PageAnswer} {o : List ℕ} → Changes (control.control_tested s p) (controlled.after s p) r o
      → Changes (meant_tested code s p) (meant_after code s p) r o
  as_control e h = let t = eq-eqb code 0x02 e in (h.0 ∙ sym (pick_yes _ _ _ t), h.1 ∙ sym (pick_yes _ _ _ t))

  module _ (f : code ≡ 0x02 → ⊥) where
    pub as_thresholds : code ≡ 0x05 → {r : PageAnswer} {o : List ℕ} → Changes (thresholds.thresholds_tested s p) (thresholds.after s p) r o
        → Changes (meant_tested code s p) (meant_after code s p) r o
    as_thresholds e h =
        let t = ne_eqb code 0x02 f in
        let u = eq-eqb code 0x05 e in
        (h.0 ∙ sym (pick_no _ _ _ t ∙ pick_yes _ _ _ u), h.1 ∙ sym (pick_no _ _ _ t ∙ pick_yes _ _ _ u))

    pub as_other : (code ≡ 0x05 → ⊥) → {a : Answer} {r : PageAnswer} → a ≡ other_tested s p → r ≡ of_page a
        → Changes (meant_tested code s p) (meant_after code s p) r s
    as_other g h e =
        let t = ne_eqb code 0x02 f in
        let u = ne_eqb code 0x05 g in
        (e ∙ ap of_page h ∙ sym (pick_no _ _ _ t ∙ pick_no _ _ _ u), sym (pick_no _ _ _ t ∙ pick_no _ _ _ u))

-- the page that was collected
module _ (c s : List ℕ) (code : ℕ) {n : ℕ} (h : n ≡ count_of c) where
  pub whole_ended : {q : List ℕ} {r : PageAnswer} {o : List ℕ} → q ≡ bytes_at c room_place n → Changes (meant_tested code s q) (meant_after code s q) r o
      → Changes (meant_tested code s (page_of c)) (meant_after code s (page_of c)) r o
  unfolding page_of
  whole_ended e m = let p = e ∙ ap (bytes_at c room_place) h in (m.0 ∙ ap (meant_tested code s) p, m.1 ∙ ap (meant_after code s) p)

  module _ (l : most_kept < n) where
    page_long : length (page_of c) ≡ n
    unfolding page_of
    page_long = length-bytes_at c room_place (count_of c) ∙ sym h

    is_long : most_kept < length (page_of c)
    is_long = omega (arith, page_long, l)

    same_byte_lem : {q : List ℕ} → q ≡ bytes_at c room_place most_kept → (i : ℕ) → i < most_kept → get_or q i 0 ≡ get_or (page_of c) i 0
    unfolding page_of
    same_byte_lem e i b =
        ap (λ (x : List ℕ). get_or x i 0) e ∙ first_byte_lem c most_kept i b ∙ sym (first_byte_lem c (count_of c) i (omega (arith, h, l, b)))

    pub long_ended : {q : List ℕ} {t : Answer} {r : PageAnswer} → q ≡ bytes_at c room_place most_kept → t ≡ long_tested s q n code → r ≡ of_page t
        → Changes (meant_tested code s (page_of c)) (meant_after code s (page_of c)) r s
    long_ended {q} e k m =
        let two : two_at q 2 ≡ two_at (page_of c) 2 = ap₂ (λ (a b : ℕ). a ∷ b ∷ []) (same_byte_lem e 2 (omega arith)) (same_byte_lem e 3 (omega arith)) in (
          m ∙ ap of_page (k ∙ by_front s q (page_of c) n code (same_byte_lem e 0 (omega arith)) two)
              ∙ ap (λ (j : ℕ). of_page (long_tested s (page_of c) j code)) (sym page_long)
              ∙ sym (long_tested_lem s (page_of c) is_long code),
          sym (long_after s (page_of c) is_long code),
        )

-- the first bytes of a long one have its frame
pub frame_there : (c : List ℕ) {q : List ℕ} → q ≡ bytes_at c room_place most_kept → 4 ≤ length q
frame_there c e = omega (arith, ap length e, length-bytes_at c room_place most_kept)
