-- Verdicts: the status code and the four limit bits, from reading, nominal and thresholds. Assumes nothing.
use Rattle.std.specs.Prelude.{Bool, false, not, ◌&&◌, ◌||◌, List, ℕ, ◌*◌, eqb, ltb, ℤ, pos, ◌-ℤ◌, ◌*ℤ◌, get_or}
use Rattle.std.specs.Int.Signed.{lt_z}
use Rattle.std.specs.Int.{w16}
use Rattle.std.proofs.Common.{to_z}
use Rattle.bits.specs.Choice.{pick}
use Rattle.element.specs.declared.verdict.Verdict.{Verdict}

-- 2 (critical), else 3 (non-critical), else 1
abbrev pub code_for : Bool → Bool → ℕ
code_for critical warning = pick critical 2 (pick warning 3 1)

-- 2 or 3: a failure or a warning condition is detected
abbrev pub detected : ℕ → Bool
detected code = eqb code 2 || eqb code 3

-- the verdict of four limit bits: high critical, high warning, low warning, low critical
abbrev pub judged : Bool → Bool → Bool → Bool → Verdict
judged hc hw lw lc = record { code = code_for (hc || lc) (hw || lw); highcrit = hc; highwarn = hw; lowwarn = lw; lowcrit = lc }

-- a code without a limit bit
abbrev pub unlimited : ℕ → Verdict
unlimited n = record { code = n; highcrit = false; highwarn = false; lowwarn = false; lowcrit = false }

-- a limit of 0 never trips; high limits trip strictly above, low ones strictly below
abbrev pub above : ℕ → ℕ → Bool
above r h = not (eqb h 0) && ltb h r

abbrev pub below : ℕ → ℕ → Bool
below r l = not (eqb l 0) && ltb r l

-- the signed number that the 16 bits of a voltage or current say
abbrev pub signed : ℕ → ℤ
signed v = to_z w16 v

-- 200 × (V − N) > N × h
unfoldable pub over : ℕ → ℕ → ℕ → Bool
over v n h = not (eqb h 0) && lt_z (pos (n * h)) (pos 200 *ℤ (signed v -ℤ pos n))

-- 200 × (N − V) > N × l
unfoldable pub under : ℕ → ℕ → ℕ → Bool
under v n l = not (eqb l 0) && lt_z (pos (n * l)) (pos 200 *ℤ (pos n -ℤ signed v))

-- a fan is 2 if ON and its reading is 0, else 1
abbrev pub fan_verdict : Bool → ℕ → Verdict
fan_verdict on r = unlimited (code_for (on && eqb r 0) false)

-- byte 0 is no reading: code 6, no verdict bit
abbrev pub temperature_verdict : ℕ → List ℕ → Verdict
temperature_verdict r t =
    pick (eqb r 0) (unlimited 6)
    (judged (above r (get_or t 0 0)) (above r (get_or t 1 0)) (below r (get_or t 2 0)) (below r (get_or t 3 0)))

abbrev pub voltage_verdict : ℕ → ℕ → List ℕ → Verdict
voltage_verdict v n t = judged (over v n (get_or t 0 0)) (over v n (get_or t 1 0)) (under v n (get_or t 2 0)) (under v n (get_or t 3 0))

-- likewise, high only
abbrev pub current_verdict : ℕ → ℕ → List ℕ → Verdict
current_verdict v n t = judged (over v n (get_or t 0 0)) (over v n (get_or t 1 0)) false false
