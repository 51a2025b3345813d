-- The FAIL that a status page shows of a sensor, and the code beside it. Assumes nothing.
use Rattle.std.specs.Prelude.{◌≡◌, Bool, ◌||◌, List, ◌⊎◌, ℕ, ◌+◌, ◌%◌, get_or}
use Rattle.bits.specs.Bits.{bit_of}
use Rattle.element.specs.declared.types.Kind.{Kind}
use Rattle.element.specs.declared.types.Kind.TheVariants.{Temperature, Voltage, Current}
use Rattle.element.specs.declared.verdict.Verdict.{Verdict}
use Rattle.page.specs.Slots.{slot_place}
use Rattle.page.specs.Places.{own_slot}

-- 04h, 12h and 13h
abbrev pub Sensor : Kind → Type 0
Sensor k = (k ≡ Temperature) ⊎ (k ≡ Voltage) ⊎ (k ≡ Current)

-- where a page for the configuration c has element j
abbrev pub own_place : List ℕ → ℕ → ℕ
own_place c j = slot_place (own_slot c j)

-- on the page p: its code, bits 3 to 0 of byte 0; the FAIL of a sensor, bit 6 of byte 1; that of a fan, bit 6 of byte 3
abbrev pub code_on : List ℕ → List ℕ → ℕ → ℕ
code_on c p j = get_or p (own_place c j) 0 % 16

abbrev pub fail_on : List ℕ → List ℕ → ℕ → ℕ
fail_on c p j = bit_of 6 (get_or p (own_place c j + 1) 0)

abbrev pub fan_fail_on : List ℕ → List ℕ → ℕ → ℕ
fan_fail_on c p j = bit_of 6 (get_or p (own_place c j + 3) 0)

-- one of the four limits trips
abbrev pub tripped : Verdict → Bool
tripped v = (v.highcrit || v.lowcrit) || (v.highwarn || v.lowwarn)
