-- An element type is one record of rules. Assumes nothing.
use Rattle.std.specs.Prelude.{Bool, ◌&&◌, List, [], ◌∷◌, ℕ, ◌%◌, eqb, leb, get_or}
use Rattle.bits.specs.Choice.{pick}
use Rattle.bits.specs.Bits.{mask_of, only}
use Rattle.bits.specs.Masks.{byte_within}
use Rattle.bits.specs.Places.{four_at}
use Rattle.bits.specs.Numbers.{big}
use Rattle.element.specs.declared.types.LowOrder.{LowOrder}
use Rattle.element.specs.declared.layout.Layout.{Layout}
use Rattle.element.specs.declared.settings.Settings.{Settings}
use Rattle.element.specs.declared.verdict.Verdict.{Verdict}
use Rattle.element.specs.Layouts.{settings_mask}
use Rattle.element.specs.Thresholds.{thresholds_mask}
use Rattle.element.specs.StatusLayout.{StatusLayout, field_mask, most_of, shifts_of}

-- codes 0 to 8
abbrev pub code_allowed : ℕ → Bool
code_allowed n = leb n 8

-- byte 0 of a status element: bit 7 is zero, and the code is allowed
abbrev pub first_clear : ℕ → Bool
first_clear a = only (6 ∷ 5 ∷ 4 ∷ 3 ∷ 2 ∷ 1 ∷ 0 ∷ []) a && code_allowed (a % 16)

-- the bits that are shown in each of the four bytes
abbrev pub shown_mask : StatusLayout → List ℕ
shown_mask l =
    mask_of (6 ∷ 5 ∷ 4 ∷ 3 ∷ 2 ∷ 1 ∷ 0 ∷ []) ∷ field_mask l.second ∷ field_mask l.third ∷ field_mask l.fourth ∷ []

-- byte j of a status element: of bytes 1 to 3 every bit that is no field is zero
abbrev pub clear : StatusLayout → List ℕ → ℕ → Bool
clear l e j = pick (eqb j 0) (first_clear (get_or e 0 0)) (byte_within (shown_mask l) e j)

-- What the code is told of a type, as the numbers that four bytes each say: the bits that bytes may have, of settings, of a status element,
-- of the twelve bytes of an entry which the type lays out, and of thresholds; and the lowest bit of each of the twelve in the status element.
pub record Numbers : Type 0 where
  pub settings : ℕ
  pub shown : ℕ
  pub shown_first : ℕ
  pub shown_next : ℕ
  pub shown_last : ℕ
  pub shifts_first : ℕ
  pub shifts_next : ℕ
  pub shifts_last : ℕ
  pub thresholds : ℕ

abbrev pub numbers_of : Layout → StatusLayout → ℕ → Numbers
numbers_of l s n = record {
  settings = big (settings_mask l);
  shown = big (shown_mask s);
  shown_first = big (four_at (most_of s) 0);
  shown_next = big (four_at (most_of s) 4);
  shown_last = big (four_at (most_of s) 8);
  shifts_first = big (four_at (shifts_of s) 0);
  shifts_next = big (four_at (shifts_of s) 4);
  shifts_last = big (four_at (shifts_of s) 8);
  thresholds = big (thresholds_mask n);
}

pub record Rules : Type 0 where
  -- its code in a type list
  pub code : ℕ
  -- settings, both ways: which bits of bytes 1 to 3 are its flags, and which its speed
  pub layout : Layout
  -- which of the four bytes of a selected control element are allowed
  pub control_allows : List ℕ → ℕ → Bool
  -- the most that its reading may be, and the least and the most that its nominal may be
  pub most_reading : ℕ
  pub least_nominal : ℕ
  pub most_nominal : ℕ
  -- how many thresholds it has, of the four from the first on, and the order of the low two
  pub thresholds : ℕ
  pub low_order : LowOrder
  -- from settings, reading, nominal and thresholds
  pub verdict : Settings → ℕ → ℕ → List ℕ → Verdict
  -- the status element, both ways; which of its four bytes are allowed; and the fields that an element shows
  pub status : StatusLayout
  pub status_allows : List ℕ → ℕ → Bool
  pub fields : Settings → Verdict → ℕ → List ℕ
  -- what the code is told of these
  pub numbers : Numbers
