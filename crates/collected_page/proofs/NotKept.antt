-- What is beyond the largest page changes no answer but by its count, and by that only up to where the count stops. Assumes nothing.
use mathlib.Core.Path.{◌≡◌, sym, ap, ap₂, ◌∙◌}
use mathlib.Core.Bool.{false}
use mathlib.Core.List.{List, [], ◌∷◌}
use Prim.Native.Nat.{ℕ, ◌+◌, ◌<◌, ◌≤◌}
use native.Mathlib.Omega.{arith}
use lib.Dec.{eqb, leb}
use lib.ListN.{length, get_or}
use lib.Seq.{ext_get_or}
use borrow.Author.Tests.{leb-true, leb-false}
use Rattle.bits.specs.Numbers.{big, Bytes}
use Rattle.bits.specs.Places.{two_at}
use Rattle.bits.proofs.Logic.{by_case}
use Rattle.bits.proofs.Each.{byte_small}
use Rattle.refusals.specs.Outcomes.{of_page}
use Rattle.page.specs.Header.{says}
use Rattle.page.proofs.HeaderTests.{says_most}
use Rattle.collector.specs.Collector.{most_kept, most_counted, AlikeKept}
use Rattle.collector.proofs.Counts.{from_most, most_bound, still_below, counts_back}
use Rattle.collected_page.specs.Meant.{meant_tested, meant_after, long_tested}
use Rattle.collected_page.proofs.Long.{long_tested_lem, long_after, by_front}

-- no page says as many bytes as are counted at most
says_fewer : (p : List ℕ) → Bytes p → (n : ℕ) → most_counted ≤ n → says p n ≡ false
says_fewer p h n l =
    by_case (says p n) (λ t. let m = says_most p n (byte_small p h 2) (byte_small p h 3) t in absurd (omega (arith, l, m))) (λ t. t)

module _ (s p q : List ℕ) (h : Bytes p) (e : AlikeKept p q) (code : ℕ) where
  abbrev Same : Type 0
  Same = (meant_tested code s p ≡ meant_tested code s q) × (meant_after code s p ≡ meant_after code s q)

  short : length p ≤ most_kept → Same
  short l =
      let n : length q ≡ length p = counts_back (length p) (length q) most_counted (omega arith) e.0 in
      let t : p ≡ q = ext_get_or 0 p q (sym n) (λ i b. e.1 i (omega (arith, b, l))) in
      (ap (meant_tested code s) t, ap (meant_after code s) t)

  fields : (get_or p 0 0 ≡ get_or q 0 0) × (two_at p 2 ≡ two_at q 2)
  fields = (e.1 0 (omega arith), ap₂ (λ (a b : ℕ). a ∷ b ∷ []) (e.1 2 (omega arith)) (e.1 3 (omega arith)))

  said : most_kept < length p → long_tested s q (length p) code ≡ long_tested s q (length q) code
  unfolding long_tested
  said l =
      by_case (leb most_counted (length p))
      (λ t.
      let a = leb-true most_counted (length p) t in
      let b : most_counted ≤ length q = omega (arith, e.0, from_most (length p) most_counted a, (most_bound (length q) most_counted).1) in
      let u : says q (length p) ≡ false = ap (λ (x : List ℕ). eqb (length p) (big x + 4)) (sym fields.1) ∙ says_fewer p h (length p) a in
      let v : says q (length q) ≡ false = ap (λ (x : List ℕ). eqb (length q) (big x + 4)) (sym fields.1) ∙ says_fewer p h (length q) b in
      rw (u, v))
      (λ t.
      let a = leb-false most_counted (length p) t in
      ap (λ (n : ℕ). long_tested s q n code) (sym (counts_back (length p) (length q) most_counted a e.0)))

  long : most_kept < length p → Same
  long l =
      let m : most_kept < length q = omega (arith, e.0, still_below most_kept (length p) most_counted l (omega arith), (most_bound (length q) most_counted).1) in (
        long_tested_lem s p l code ∙ ap of_page (by_front s p q (length p) code fields.0 fields.1 ∙ said l) ∙ sym (long_tested_lem s q m code),
        long_after s p l code ∙ sym (long_after s q m code),
      )

  pub front_decides : Same
  front_decides = by_case (leb (length p) most_kept) (λ t. short (leb-true (length p) most_kept t)) (λ t. long (leb-false (length p) most_kept t))
