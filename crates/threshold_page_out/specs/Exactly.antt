-- Exactly what an accepted Threshold Out page p changes of a shelf s: the asked threshold bytes. x is the shelf afterwards. Assumes nothing.
use Rattle.std.specs.Prelude.{◌≡◌, List, ◌⊎◌, ℕ, ◌+◌, ◌<◌, length, get_or}
use Rattle.shelf.specs.Limits.{thresholds_place}
use Rattle.shelf.specs.Types.{elements_of}
use Rattle.page.specs.Places.{places_of}

-- what the page has for threshold byte i of element j: the individual byte, and the overall one
abbrev pub own_byte : List ℕ → List ℕ → ℕ → ℕ → ℕ
own_byte s p j i = get_or p ((places_of s j).ownplace + i) 0

abbrev pub overall_byte : List ℕ → List ℕ → ℕ → ℕ → ℕ
overall_byte s p j i = get_or p ((places_of s j).overallplace + i) 0

-- there is such a byte
abbrev pub Threshold : List ℕ → ℕ → ℕ → Type 0
Threshold s j i = (j < elements_of s) × (i < 4)

-- one of the two is nonzero
abbrev pub Asked : List ℕ → List ℕ → ℕ → ℕ → Type 0
Asked s p j i = (0 < own_byte s p j i) ⊎ (0 < overall_byte s p j i)

-- byte q is an asked threshold byte
abbrev pub AskedByte : List ℕ → List ℕ → ℕ → Type 0
AskedByte s p q = (j : ℕ) × (i : ℕ) × Threshold s j i × Asked s p j i × (q ≡ thresholds_place j + i)

pub record Exactly (s p x : List ℕ) : Type 0 where
  pub same_length : length x ≡ length s
  -- every byte is as it was, or it is an asked threshold byte
  pub others : (q : ℕ) → (get_or x q 0 ≡ get_or s q 0) ⊎ AskedByte s p q
  -- a nonzero individual byte is taken; else a nonzero overall byte
  pub own : (j i : ℕ) → Threshold s j i → 0 < own_byte s p j i → get_or x (thresholds_place j + i) 0 ≡ own_byte s p j i
  pub overall : (j i : ℕ) → Threshold s j i → own_byte s p j i ≡ 0 → 0 < overall_byte s p j i → get_or x (thresholds_place j + i) 0 ≡ overall_byte s p j i
