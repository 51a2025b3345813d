-- Control elements made of flags and a speed code: the settings that four bytes say under a layout, the bytes that store them, which bytes
-- are settings, and which are reserved. Settings are stored where the control element has them, with SELECT zero and SWAP in the place of
-- RST SWAP. Assumes nothing.
use Rattle.std.specs.Prelude.{Bool, false, not, ◌&&◌, ◌||◌, List, [], ◌∷◌, ℕ, eqb, get_or}
use Rattle.std.specs.Int.Bits.{bit_and, bit_or}
use Rattle.bits.specs.Bits.{bit, mask_of, nibble, join}
use Rattle.bits.specs.Masks.{all_within, byte_within}
use Rattle.element.specs.declared.layout.Layout.{Layout}
use Rattle.element.specs.declared.settings.Settings.{Settings}

-- byte 0: bit 6 PRDFAIL, 5 DISABLED, 4 SWAP; bytes 1 to 3: the type's flags, and its speed
abbrev pub said : Layout → List ℕ → Settings
said l e = record {
  prdfail = bit 6 (get_or e 0 0);
  disabled = bit 5 (get_or e 0 0);
  swap = bit 4 (get_or e 0 0);
  flags1 = bit_and (get_or e 1 0) l.flags1;
  flags2 = bit_and (get_or e 2 0) l.flags2;
  flags3 = bit_and (get_or e 3 0) l.flags3;
  speed = bit_and (get_or e 3 0) l.speed;
}

-- the same the other way round
abbrev pub stored : Layout → Settings → List ℕ
stored l s =
    join (nibble false s.prdfail s.disabled s.swap) 0
    ∷ bit_and s.flags1 l.flags1
    ∷ bit_and s.flags2 l.flags2
    ∷ bit_or (bit_and s.flags3 l.flags3) (bit_and s.speed l.speed)
    ∷ []

-- the bits that settings have in each of the four bytes; a control element has SELECT too
abbrev pub settings_mask : Layout → List ℕ
settings_mask l = mask_of (6 ∷ 5 ∷ 4 ∷ []) ∷ l.flags1 ∷ l.flags2 ∷ bit_or l.flags3 l.speed ∷ []

abbrev pub control_mask : Layout → List ℕ
control_mask l = mask_of (7 ∷ 6 ∷ 5 ∷ 4 ∷ []) ∷ l.flags1 ∷ l.flags2 ∷ bit_or l.flags3 l.speed ∷ []

-- the four bytes are such settings: no bit is set but the named ones, and a type with a speed has none of 0
abbrev pub formed : Layout → List ℕ → Bool
formed l e = all_within (settings_mask l) e && (eqb l.speed 0 || not (eqb (bit_and (get_or e 3 0) l.speed) 0))

-- byte j of a control element has no other bit set
abbrev pub named : Layout → List ℕ → ℕ → Bool
named l e j = byte_within (control_mask l) e j
