-- What an accepted page says, part by part. Assumes nothing.
use Rattle.std.specs.Prelude.{Ok}
use mathlib.Core.Path.{◌≡◌, sym, ◌∙◌}
use mathlib.Core.Bool.{true, false, ◌&&◌}
use mathlib.Core.List.{List}
use Prim.Native.Nat.{ℕ, ◌+◌, ◌<◌, ◌≤◌}
use native.Mathlib.Omega.{arith}
use lib.Dec.{leb}
use lib.ListN.{length, get_or}
use borrow.Author.Tests.{eqb-true, not-false}
use Rattle.bits.specs.Bits.{printable}
use Rattle.bits.proofs.Logic.{and_left, and_right, first_fails}
use Rattle.element.specs.Types.{served}
use Rattle.shelf.specs.Limits.{most_types, most_elements, most_in_type, most_text}
use Rattle.page.specs.Header.{length_said}
use Rattle.configuration_page.specs.Page.{header_place}
use Rattle.configuration_page.specs.Read.{types_on, header_byte, total_before, text_place_on, needed_length, fixed_offends, header_offends, text_offends, offends, first_offence, configuration_read}
use Rattle.configuration_page.proofs.Refusals.{fixed_at, header_at, text_at, headers_there, read_parts}

module _ (p : List ℕ) (a : configuration_read p ≡ Ok tt) where
  passed : (get_or p 0 0 ≡ 0x01) × (length_said p ≡ true) × (length p ≡ needed_length p) × (first_offence p ≡ length p)
  passed = read_parts p a

  pub code_passed : get_or p 0 0 ≡ 0x01
  code_passed = passed.0

  pub length-passed : length_said p ≡ true
  length-passed = passed.1

  pub needed_passed : length p ≡ text_place_on p (types_on p)
  unfolding needed_length
  needed_passed = passed.2

  fine : (k : ℕ) → k < length p → offends p k ≡ false
  unfolding first_offence
  fine k h = first_fails (offends p) (length p) k (rw passed.3 h)

  pub headers_in : header_place (types_on p) ≤ length p
  headers_in = headers_there p passed.2

  -- the first 48 bytes
  fixed_fine : (k : ℕ) → k < 48 → fixed_offends k (get_or p k 0) ≡ false
  fixed_fine k h = sym (fixed_at p k h) ∙ fine k (omega (arith, headers_in))

  pub byte_1 : get_or p 1 0 ≡ 0
  unfolding fixed_offends
  byte_1 = eqb-true (get_or p 1 0) 0 (not-false _ (fixed_fine 1 (omega arith)))

  pub byte_8 : get_or p 8 0 ≡ 0x11
  unfolding fixed_offends
  byte_8 = eqb-true (get_or p 8 0) 0x11 (not-false _ (fixed_fine 8 (omega arith)))

  pub byte_9 : get_or p 9 0 ≡ 0
  unfolding fixed_offends
  byte_9 = eqb-true (get_or p 9 0) 0 (not-false _ (fixed_fine 9 (omega arith)))

  pub byte_11 : get_or p 11 0 ≡ 0x24
  unfolding fixed_offends
  byte_11 = eqb-true (get_or p 11 0) 0x24 (not-false _ (fixed_fine 11 (omega arith)))

  pub types_passed : (leb 1 (types_on p) ≡ true) × (leb (types_on p) most_types ≡ true)
  unfolding fixed_offends
  types_passed =
      let h = not-false _ (fixed_fine 10 (omega arith)) in
      (and_left (leb 1 (types_on p)) (leb (types_on p) most_types) h, and_right (leb 1 (types_on p)) (leb (types_on p) most_types) h)

  -- a header
  module _ (t : ℕ) (h : t < types_on p) where
    header_fine : (j : ℕ) → j < 4 → header_offends p t j (header_byte p j t) ≡ false
    header_fine j l = sym (header_at p t j h l) ∙ fine (header_place t + j) (omega (arith, headers_in))

    pub code_served : served (header_byte p 0 t) ≡ true
    unfolding header_offends
    code_served = not-false _ (header_fine 0 (omega arith))

    pub counts_passed : (leb (header_byte p 1 t) most_in_type ≡ true) × (leb (total_before p t + header_byte p 1 t) most_elements ≡ true)
    unfolding header_offends
    counts_passed =
        let c = leb (header_byte p 1 t) most_in_type in
        let d = leb (total_before p t + header_byte p 1 t) most_elements in
        let q = not-false (c && d) (header_fine 1 (omega arith)) in
        (and_left c d q, and_right c d q)

    pub third_zero : header_byte p 2 t ≡ 0
    unfolding header_offends
    third_zero = eqb-true (header_byte p 2 t) 0 (not-false _ (header_fine 2 (omega arith)))

    pub text_short : leb (header_byte p 3 t) most_text ≡ true
    unfolding header_offends
    text_short = not-false _ (header_fine 3 (omega arith))

  -- the texts
  pub text_passed : (k : ℕ) → header_place (types_on p) ≤ k → k < length p → printable (get_or p k 0) ≡ true
  unfolding text_offends
  text_passed k h l = not-false _ (sym (text_at p k h) ∙ fine k l)
