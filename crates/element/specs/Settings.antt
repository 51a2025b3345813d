-- Settings of an element: the record, and the four bytes that store it; what may be stored of an element beside them. Assumes nothing.
use Rattle.std.specs.Prelude.{Bool, ◌&&◌, List, ℕ}
use Rattle.element.specs.declared.types.Kind.{Kind}
use Rattle.element.specs.declared.settings.Settings.{Settings}
use Rattle.element.specs.Layouts.{said, stored, formed}
use Rattle.element.specs.Types.{layout_of, reading_allowed, nominal_allowed, had, ordered}

unfoldable pub settings_of : Kind → List ℕ → Settings
settings_of k e = said (layout_of k) e

unfoldable pub settings_bytes : Kind → Settings → List ℕ
settings_bytes k s = stored (layout_of k) s

-- the four bytes are settings that the type may have
unfoldable pub settings_formed : Kind → List ℕ → Bool
settings_formed k e = formed (layout_of k) e

-- settings, thresholds, reading and nominal that the type may have
abbrev pub fields_formed : Kind → List ℕ → List ℕ → ℕ → ℕ → Bool
fields_formed k e t r n = (((settings_formed k e && had k t) && ordered k t) && reading_allowed k r) && nominal_allowed k n
