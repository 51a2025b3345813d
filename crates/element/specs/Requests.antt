-- What a request makes of settings, and what one may not have. Assumes nothing.
use Rattle.std.specs.Prelude.{not, ◌&&◌, List, ℕ, eqb}
use Rattle.bits.specs.Choice.{pick, first_of_four}
use Rattle.element.specs.declared.types.Kind.{Kind}
use Rattle.element.specs.declared.settings.Settings.{Settings}
use Rattle.element.specs.Types.{rules_of}

-- the first byte with a reserved bit set, 4 if none has one
unfoldable pub reserved_in : Kind → List ℕ → ℕ
reserved_in k e = first_of_four ((rules_of k).control_allows e)

-- speed code 0 keeps SPEED; 1 to 7 replaces it
abbrev pub speed_after : ℕ → ℕ → ℕ
speed_after code stored = pick (eqb code 0) stored code

-- what a request r makes of settings s: PRDFAIL, DISABLED and the type's flags take the bits; RST SWAP 1 clears SWAP, 0 keeps it
abbrev pub acted : Settings → Settings → Settings
acted r s = record {
  prdfail = r.prdfail;
  disabled = r.disabled;
  swap = s.swap && not r.swap;
  flags1 = r.flags1;
  flags2 = r.flags2;
  flags3 = r.flags3;
  speed = speed_after r.speed s.speed;
}
