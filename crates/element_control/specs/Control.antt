-- Control elements: what one asks, which of two acts on an element, and what it makes of settings. Assumes nothing.
use Rattle.std.specs.Prelude.{Bool, true, false, List, ℕ, get_or}
use Rattle.bits.specs.Choice.{pick, first_of_four}
use Rattle.bits.specs.Bits.{bit}
use Rattle.element.specs.declared.types.Kind.{Kind}
use Rattle.element.specs.declared.settings.Settings.{Settings}
use Rattle.element_control.specs.declared.Control.{Control}
use Rattle.element.specs.Types.{rules_of}
use Rattle.element.specs.Settings.{settings_of, settings_bytes}
use Rattle.element.specs.Requests.{acted}

-- byte 0, bit 7
abbrev pub selected : List ℕ → Bool
selected e = bit 7 (get_or e 0 0)

-- a request for nothing
abbrev pub nothing : Settings
nothing = record { prdfail = false; disabled = false; swap = false; flags1 = 0; flags2 = 0; flags3 = 0; speed = 0 }

-- an element without SELECT
abbrev pub unselected : Control
unselected = record { select = false; request = nothing }

-- a selected element, whose bits stand where settings have theirs, RST SWAP in the place of SWAP
abbrev pub requesting : Settings → Control
requesting r = record { select = true; request = r }

-- an unselected element's other 31 bits have no effect
unfoldable pub control_of : Kind → List ℕ → Control
control_of k e = pick (selected e) (requesting (settings_of k e)) unselected

-- byte j is allowed: reserved bits are tested in selected elements only
abbrev pub allows : Kind → List ℕ → ℕ → Bool
allows k e j = pick (selected e) ((rules_of k).control_allows e j) true

-- the first byte that is not allowed, 4 if all are
unfoldable pub offending : Kind → List ℕ → ℕ
offending k e = first_of_four (allows k e)

-- an individual element with SELECT acts alone; one without leaves its element to the overall one
unfoldable pub chosen : Control → Control → Control
chosen overall own = pick own.select own overall

-- the stored settings afterwards; an element without SELECT leaves them as they are
unfoldable pub settled : Kind → Control → List ℕ → List ℕ
settled k c e = pick c.select (settings_bytes k (acted c.request (settings_of k e))) e
