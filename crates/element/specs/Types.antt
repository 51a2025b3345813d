-- The element types that are served: the rules of each, and what follows from them. Assumes nothing.
use Rattle.std.specs.Prelude.{Bool, Option, Some, None, ◌&&◌, ◌||◌, List, [], ◌∷◌, ℕ, ◌-◌, ◌/◌, ◌%◌, eqb, leb}
use Rattle.bits.specs.Bits.{bit_of, bit, mask_of, num}
use Rattle.bits.specs.Choice.{pick}
use Rattle.element.specs.declared.types.LowOrder.TheVariants.{Any, WarningAbove, CriticalAbove}
use Rattle.element.specs.declared.types.TypeRules.{TypeRules}
use Rattle.element.specs.declared.layout.Layout.{Layout}
use Rattle.element.specs.declared.settings.Settings.{Settings}
use Rattle.element.specs.declared.verdict.Verdict.{Verdict}
use Rattle.element.specs.declared.types.Kind.{Kind}
use Rattle.element.specs.declared.types.Kind.TheVariants.{Cooling, Temperature, Voltage, Current}
use Rattle.element.specs.Layouts.{named}
use Rattle.element.specs.Verdict.{detected, fan_verdict, temperature_verdict, voltage_verdict, current_verdict}
use Rattle.element.specs.StatusLayout.{StatusLayout, flag, field, reserved}
use Rattle.element.specs.Rules.{Rules, clear, numbers_of}
use Rattle.element.specs.Thresholds.{high_ordered, low_ordered, byte_had}

-- Cooling (03h): a fan

-- byte 1 bit 7 IDENT; byte 3 bit 6 FAIL, bit 5 ON, bits 2 to 0 SPEED
abbrev pub fan_layout : Layout
fan_layout = record { flags1 = mask_of (7 ∷ []); flags2 = 0; flags3 = mask_of (6 ∷ 5 ∷ []); speed = mask_of (2 ∷ 1 ∷ 0 ∷ []) }

abbrev pub is_on : Settings → Bool
is_on s = bit 5 s.flags3

-- byte 1 bit 7 IDENT, bits 2 to 0 the upper part of the speed; byte 2 its lower eight bits;
-- byte 3 bit 6 FAIL, 5 RQSTED ON, 4 OFF, bits 2 to 0 the speed code
abbrev pub fan_status : StatusLayout
fan_status = record {
  second = flag ∷ reserved 4 ∷ field 3 ∷ [];
  third = field 8 ∷ [];
  fourth = reserved 1 ∷ flag ∷ flag ∷ flag ∷ reserved 1 ∷ field 3 ∷ [];
}

-- the speed code is the stored SPEED if ON, else 0
abbrev pub speed_shown : Settings → ℕ
speed_shown s = pick (is_on s) s.speed 0

-- OFF is set exactly if ON is 0
abbrev pub fan_fields : Settings → Verdict → ℕ → List ℕ
fan_fields s v r =
    bit_of 7 s.flags1 ∷ r / 256 ∷ r % 256 ∷ bit_of 6 s.flags3 ∷ bit_of 5 s.flags3 ∷ (1 - bit_of 5 s.flags3) ∷ speed_shown s ∷ []

abbrev pub cooling : Rules
cooling = record {
  code = 0x03;
  layout = fan_layout;
  control_allows = named fan_layout;
  most_reading = 2047;
  least_nominal = 0;
  most_nominal = 0;
  thresholds = 0;
  low_order = Any;
  verdict = λ s r n t. fan_verdict (is_on s) r;
  status = fan_status;
  status_allows = clear fan_status;
  fields = fan_fields;
  numbers = numbers_of fan_layout fan_status 0;
}

-- what the three sensors share

-- byte 1 bit 7 IDENT, bit 6 FAIL
abbrev pub sensor_layout : Layout
sensor_layout = record { flags1 = mask_of (7 ∷ 6 ∷ []); flags2 = 0; flags3 = 0; speed = 0 }

abbrev pub ident_of : Settings → ℕ
ident_of s = bit_of 7 s.flags1

abbrev pub has_fail : Settings → Bool
has_fail s = bit 6 s.flags1

-- FAIL is shown if it is stored or the code is 2 or 3
abbrev pub fail_shown : Settings → Verdict → Bool
fail_shown s v = has_fail s || detected v.code

-- Temperature Sensor (04h)

-- byte 1 bits 7 and 6 IDENT, FAIL; byte 2 the reading; byte 3 bits 3 to 0 OT FAILURE, OT WARNING, UT FAILURE, UT WARNING
abbrev pub temperature_status : StatusLayout
temperature_status = record {
  second = flag ∷ flag ∷ reserved 6 ∷ [];
  third = field 8 ∷ [];
  fourth = reserved 4 ∷ flag ∷ flag ∷ flag ∷ flag ∷ [];
}

abbrev pub temperature_fields : Settings → Verdict → ℕ → List ℕ
temperature_fields s v r =
    ident_of s ∷ num (fail_shown s v) ∷ r % 256 ∷ num v.highcrit ∷ num v.highwarn ∷ num v.lowcrit ∷ num v.lowwarn ∷ []

abbrev pub temperature : Rules
temperature = record {
  code = 0x04;
  layout = sensor_layout;
  control_allows = named sensor_layout;
  most_reading = 255;
  least_nominal = 0;
  most_nominal = 0;
  thresholds = 4;
  low_order = WarningAbove;
  verdict = λ s r n t. temperature_verdict r t;
  status = temperature_status;
  status_allows = clear temperature_status;
  fields = temperature_fields;
  numbers = numbers_of sensor_layout temperature_status 4;
}

-- Voltage Sensor (12h)

-- byte 1 bits 7 and 6 IDENT, FAIL, bits 3 to 0 WARN OVER, WARN UNDER, CRIT OVER, CRIT UNDER; bytes 2 and 3 the reading
abbrev pub voltage_status : StatusLayout
voltage_status = record {
  second = flag ∷ flag ∷ reserved 2 ∷ flag ∷ flag ∷ flag ∷ flag ∷ [];
  third = field 8 ∷ [];
  fourth = field 8 ∷ [];
}

abbrev pub voltage_fields : Settings → Verdict → ℕ → List ℕ
voltage_fields s v r =
    ident_of s
    ∷ num (fail_shown s v)
    ∷ num v.highwarn
    ∷ num v.lowwarn
    ∷ num v.highcrit
    ∷ num v.lowcrit
    ∷ r / 256
    ∷ r % 256
    ∷ []

abbrev pub voltage : Rules
voltage = record {
  code = 0x12;
  layout = sensor_layout;
  control_allows = named sensor_layout;
  most_reading = 65535;
  least_nominal = 1;
  most_nominal = 32767;
  thresholds = 4;
  low_order = CriticalAbove;
  verdict = λ s r n t. voltage_verdict r n t;
  status = voltage_status;
  status_allows = clear voltage_status;
  fields = voltage_fields;
  numbers = numbers_of sensor_layout voltage_status 4;
}

-- Current Sensor (13h)

-- a voltage without the two UNDER bits
abbrev pub current_status : StatusLayout
current_status = record {
  second = flag ∷ flag ∷ reserved 2 ∷ flag ∷ reserved 1 ∷ flag ∷ reserved 1 ∷ [];
  third = field 8 ∷ [];
  fourth = field 8 ∷ [];
}

abbrev pub current_fields : Settings → Verdict → ℕ → List ℕ
current_fields s v r = ident_of s ∷ num (fail_shown s v) ∷ num v.highwarn ∷ num v.highcrit ∷ r / 256 ∷ r % 256 ∷ []

abbrev pub current : Rules
current = record {
  code = 0x13;
  layout = sensor_layout;
  control_allows = named sensor_layout;
  most_reading = 65535;
  least_nominal = 1;
  most_nominal = 32767;
  thresholds = 2;
  low_order = Any;
  verdict = λ s r n t. current_verdict r n t;
  status = current_status;
  status_allows = clear current_status;
  fields = current_fields;
  numbers = numbers_of sensor_layout current_status 2;
}

-- the types by name

abbrev pub rules_of : Kind → Rules
rules_of Cooling = cooling
rules_of Temperature = temperature
rules_of Voltage = voltage
rules_of Current = current

-- what the code is told of them
abbrev pub rules_told : Kind → TypeRules
rules_told k = record {
  code = (rules_of k).code;
  layout = (rules_of k).layout;
  settings = (rules_of k).numbers.settings;
  shown = (rules_of k).numbers.shown;
  thresholds = (rules_of k).numbers.thresholds;
  shown_first = (rules_of k).numbers.shown_first;
  shown_next = (rules_of k).numbers.shown_next;
  shown_last = (rules_of k).numbers.shown_last;
  shifts_first = (rules_of k).numbers.shifts_first;
  shifts_next = (rules_of k).numbers.shifts_next;
  shifts_last = (rules_of k).numbers.shifts_last;
  low_order = (rules_of k).low_order;
  most_reading = (rules_of k).most_reading;
  least_nominal = (rules_of k).least_nominal;
  most_nominal = (rules_of k).most_nominal;
}

abbrev pub code_of : Kind → ℕ
code_of k = (rules_of k).code

-- the type that a code names, if it is served
unfoldable pub kind_named : ℕ → Option Kind
kind_named code =
    pick (eqb code (code_of Cooling)) (Some Cooling)
    (pick (eqb code (code_of Temperature)) (Some Temperature)
    (pick (eqb code (code_of Voltage)) (Some Voltage) (pick (eqb code (code_of Current)) (Some Current) None)))

-- the type that a served code names; any other code, which no well-formed shelf has, reads as Current
unfoldable pub kind_of : ℕ → Kind
kind_of code =
    pick (eqb code (code_of Cooling)) Cooling
    (pick (eqb code (code_of Temperature)) Temperature (pick (eqb code (code_of Voltage)) Voltage Current))

-- a code is served if it is that of the type which it names
unfoldable pub served : ℕ → Bool
served code = eqb (code_of (kind_of code)) code

unfoldable pub layout_of : Kind → Layout
layout_of k = (rules_of k).layout

unfoldable pub reading_allowed : Kind → ℕ → Bool
reading_allowed k r = leb r (rules_of k).most_reading

unfoldable pub nominal_allowed : Kind → ℕ → Bool
nominal_allowed k n = leb (rules_of k).least_nominal n && leb n (rules_of k).most_nominal

-- no threshold byte is set that the type doesn't have
unfoldable pub had : Kind → List ℕ → Bool
had k t = let n : ℕ = (rules_of k).thresholds in ((byte_had n t 0 && byte_had n t 1) && byte_had n t 2) && byte_had n t 3

unfoldable pub ordered : Kind → List ℕ → Bool
ordered k t = high_ordered t && low_ordered (rules_of k).low_order t

unfoldable pub verdict_of : Kind → Settings → ℕ → ℕ → List ℕ → Verdict
verdict_of k s r n t = (rules_of k).verdict s r n t
