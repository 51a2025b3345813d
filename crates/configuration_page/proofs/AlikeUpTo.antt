-- Whether a byte of a configuration page offends is decided by the bytes up to it. Assumes nothing.
use mathlib.Core.Path.{◌≡◌, sym, ap, ◌∙◌}
use mathlib.Core.Bool.{not, ◌&&◌}
use mathlib.Core.List.{List}
use Prim.Native.Nat.{ℕ, ◌+◌, ◌-◌, ◌/◌, ◌%◌, ◌<◌, ◌≤◌}
use native.Mathlib.Omega.{arith}
use lib.Dec.{eqb, leb, ltb}
use borrow.Author.Tests.{ltb-true, ltb-false}
use Rattle.bits.specs.Choice.{pick}
use Rattle.bits.specs.Places.{AlikeTo}
use Rattle.bits.proofs.Logic.{by_case}
use Rattle.bits.proofs.Sums.{sum_same}
use Rattle.element.specs.Types.{served}
use Rattle.shelf.specs.Limits.{most_elements, most_in_type, most_text}
use Rattle.configuration_page.specs.Page.{header_place}
use Rattle.configuration_page.specs.Read.{types_on, header_byte, total_before, fixed_offends, header_offends, text_offends, offends}
use Rattle.configuration_page.proofs.Refusals.{fixed_at, header_at, text_at}

module _ (p q : List ℕ) (k : ℕ) (h : AlikeTo k p q) where
  totals : (t : ℕ) → header_place t ≤ k → total_before p t ≡ total_before q t
  unfolding total_before
  totals t l = sum_same (header_byte p 1) (header_byte q 1) t (λ i m. h (header_place i + 1) (omega arith))

  header_alike : (t j : ℕ) → header_byte p j t ≡ header_byte q j t → total_before p t ≡ total_before q t
      → header_offends p t j (header_byte p j t) ≡ header_offends q t j (header_byte q j t)
  unfolding header_offends
  header_alike t j x y = λ i.
      pick (eqb j 0) (not (served (x i)))
      (pick (eqb j 1) (not (leb (x i) most_in_type && leb (y i + x i) most_elements)) (pick (eqb j 2) (not (eqb (x i) 0)) (not (leb (x i) most_text))))

  pub offends_alike : (m : ℕ) → m ≤ k → offends p m ≡ offends q m
  offends_alike m l = by_case (ltb m 48) (λ t. fixed (ltb-true m 48 t)) (λ t. behind (ltb-false m 48 t))
    where
      fixed : m < 48 → offends p m ≡ offends q m
      fixed b = fixed_at p m b ∙ ap (fixed_offends m) (h m l) ∙ sym (fixed_at q m b)

      behind : 48 ≤ m → offends p m ≡ offends q m
      behind b = by_case (ltb m (header_place (types_on p))) (λ t. header (ltb-true m (header_place (types_on p)) t)) (λ t. text (ltb-false m (header_place (types_on p)) t))
        where
          types : types_on p ≡ types_on q
          types = h 10 (omega arith)

          header : m < header_place (types_on p) → offends p m ≡ offends q m
          header s =
              let t : ℕ = (m - 48) / 4 in
              let j : ℕ = (m - 48) % 4 in
              let e : m ≡ header_place t + j = omega arith in
              let n : j < 4 = omega arith in
              ap (offends p) e
              ∙ header_at p t j (omega arith) n
              ∙ header_alike t j (h (header_place t + j) (omega arith)) (totals t (omega arith))
              ∙ sym (header_at q t j (omega (arith, types)) n)
              ∙ ap (offends q) (sym e)

          text : header_place (types_on p) ≤ m → offends p m ≡ offends q m
          text s = text_at p m s ∙ ap text_offends (h m l) ∙ sym (text_at q m (omega (arith, types)))
