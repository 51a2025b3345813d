-- What a shelf s shows. Assumes nothing.
use Rattle.std.specs.Prelude.{Bool, false, ◌||◌, List, ℕ, zero, suc, ◌+◌, ◌-◌, eqb}
use Rattle.bits.specs.Choice.{pick}
use Rattle.bits.specs.Bits.{nibble}
use Rattle.element.specs.declared.types.Kind.{Kind}
use Rattle.element.specs.declared.verdict.Verdict.{Verdict}
use Rattle.element.specs.Settings.{settings_of}
use Rattle.element.specs.Types.{verdict_of}
use Rattle.element.specs.Status.{shown_by}
use Rattle.shelf.specs.Types.{elements_of, kind_at}
use Rattle.shelf.specs.Elements.{settings_at, thresholds_at, reading_at, nominal_at}
use Rattle.shelf_status.specs.declared.PageBits.{PageBits}

-- element j, of kind k: what follows from what is stored of it, its code, and the entry that says what it shows
unfoldable pub verdict_at : List ℕ → Kind → ℕ → Verdict
verdict_at s k j = verdict_of k (settings_of k (settings_at s j)) (reading_at s j) (nominal_at s j) (thresholds_at s j)

unfoldable pub code_at : List ℕ → Kind → ℕ → ℕ
code_at s k j = (verdict_at s k j).code

unfoldable pub shown_at : List ℕ → Kind → ℕ → List ℕ
shown_at s k j = shown_by k (settings_of k (settings_at s j)) (reading_at s j) (nominal_at s j) (thresholds_at s j)

-- the test f passes at some number below n
abbrev pub any_below : (ℕ → Bool) → ℕ → Bool
any_below f zero = false
any_below f (suc n) = any_below f n || f n

-- the worst of the codes that are there, worst first 2, 3, 6, 1; 0 if there is none
abbrev pub worst_of : (ℕ → Bool) → ℕ
worst_of there = pick (there 2) 2 (pick (there 3) 3 (pick (there 6) 6 (pick (there 1) 1 0)))

-- some of the elements from `first` on has the code
abbrev pub has : List ℕ → Kind → ℕ → ℕ → ℕ → Bool
has s k first n code = any_below (λ i. eqb (code_at s k (first + i)) code) n

-- the worst code of the elements from `first` up to `end`
unfoldable pub worst : List ℕ → Kind → ℕ → ℕ → ℕ
worst s k first end = worst_of (has s k first (end - first))

-- the worse of two codes
abbrev pub worse : ℕ → ℕ → ℕ
worse a b = worst_of (λ code. eqb a code || eqb b code)

-- some element has the code
abbrev pub is_code : List ℕ → ℕ → ℕ → Bool
is_code s code j = eqb (code_at s (kind_at s j) j) code

abbrev pub any_element : List ℕ → ℕ → Bool
any_element s code = any_below (is_code s code) (elements_of s)

-- the bits after one more element, which has this code
abbrev pub bits_with : PageBits → ℕ → PageBits
bits_with b code = record { noncritical = b.noncritical || eqb code 3; critical = b.critical || eqb code 2 }

-- NON-CRIT if any has 3, CRIT if any has 2
unfoldable pub page_bits : List ℕ → PageBits
page_bits s = record { noncritical = any_element s 3; critical = any_element s 2 }

-- page byte 1: bit 2 NON-CRIT, bit 1 CRIT
abbrev pub bits_byte : PageBits → ℕ
bits_byte b = nibble false b.noncritical b.critical false
