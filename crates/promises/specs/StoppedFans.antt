-- Fans that a control page stops or starts, and the speed code that a page shows of one. Assumes nothing.
use Rattle.std.specs.Prelude.{◌≡◌, Bool, false, List, ℕ, ◌+◌, ◌*◌, ◌%◌, get_or}
use Rattle.bits.specs.Bits.{num, bit_of}
use Rattle.element.specs.declared.types.Kind.TheVariants.{Cooling}
use Rattle.element.specs.declared.settings.Settings.{Settings}
use Rattle.shelf.specs.Types.{kind_at}
use Rattle.page.specs.Slots.{slot_place}
use Rattle.control_page.specs.Exactly.{Chosen, request_for, record_in}

-- bits 2 to 0 of byte 3 of slot i
abbrev pub speed_code : List ℕ → ℕ → ℕ
speed_code p i = get_or p (slot_place i + 3) 0 % 8

-- what switches a fan with this record ON or not, and asks for nothing else: RST SWAP and the speed code are 0, and FAIL is as it is
abbrev pub switching : Bool → Settings → Settings
switching on e = record {
  prdfail = e.prdfail;
  disabled = e.disabled;
  swap = false;
  flags1 = e.flags1;
  flags2 = e.flags2;
  flags3 = bit_of 6 e.flags3 * 64 + num on * 32;
  speed = 0;
}

-- so the page p switches element j of s, which is a fan
abbrev pub Switches : Bool → List ℕ → List ℕ → ℕ → Type 0
Switches on s p j = Chosen s p j × (kind_at s j ≡ Cooling) × (request_for s p j ≡ switching on (record_in s s j))
