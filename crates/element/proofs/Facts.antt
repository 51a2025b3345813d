-- The facts that theorems ask of a type's rules. Assumes nothing.
use mathlib.Core.Path.{◌≡◌, refl}
use mathlib.Core.Bool.{Bool, true, false, ◌||◌}
use mathlib.Core.List.{List}
use Prim.Native.Nat.{ℕ, ◌<◌}
use lib.Dec.{leb}
use Rattle.bits.specs.Choice.{pick}
use Rattle.element.specs.declared.settings.Settings.{Settings}
use Rattle.element.specs.declared.verdict.Verdict.{Verdict}
use Rattle.element.specs.Layouts.{named}
use Rattle.element.specs.Verdict.{code_for, judged}
use Rattle.element.specs.Rules.{Rules, code_allowed, clear, numbers_of}
use Rattle.element.proofs.SettingsBothWays.{Sound, Placed}
use Rattle.element.proofs.Pieces.{AllLe}
use Rattle.element.proofs.StatusBothWays.{Lays, all_most}

module _ (r : Rules) where
  pub record Facts : Type 0 where
    pub numbered : r.numbers ≡ numbers_of r.layout r.status r.thresholds
    -- settings: the masks are sound, and what they do not name is reserved
    pub sound : Sound r.layout
    pub reserves : (e : List ℕ) (j : ℕ) → r.control_allows e j ≡ named r.layout e j
    -- verdict: the code is one that a status element may have
    pub judges : (s : Settings) (v n : ℕ) (t : List ℕ) → code_allowed (r.verdict s v n t).code ≡ true
    -- status: the bytes are whole, what is no field is reserved, and what an element shows fits
    pub lays : Lays r.status
    pub hides : (e : List ℕ) (j : ℕ) → r.status_allows e j ≡ clear r.status e j
    pub shows : (s : Settings) (v : Verdict) (n : ℕ) → n < 65536 → Placed r.layout s → leb n r.most_reading ≡ true → AllLe (r.fields s v n) (all_most r.status)

-- codes 1, 2, 3 and 6 are allowed
pub code_picked : (p q : Bool) → code_allowed (code_for p q) ≡ true
code_picked true q = refl
code_picked false true = refl
code_picked false false = refl

pub code_judged : (hc hw lw lc : Bool) → code_allowed (judged hc hw lw lc).code ≡ true
code_judged hc hw lw lc = code_picked (hc || lc) (hw || lw)

pub code_either : (t : Bool) (v w : Verdict) → code_allowed v.code ≡ true → code_allowed w.code ≡ true → code_allowed (pick t v w).code ≡ true
code_either true v w p q = p
code_either false v w p q = q
