-- Exactly what an accepted control page p changes of a shelf s: the chosen elements' named fields. x is the shelf afterwards. Assumes nothing.
use Rattle.std.specs.Prelude.{◌≡◌, true, false, List, ◌⊎◌, ℕ, ◌+◌, ◌<◌, ◌≤◌, length, get_or}
use Rattle.element.specs.declared.settings.Settings.{Settings}
use Rattle.element.specs.Settings.{settings_of, settings_bytes}
use Rattle.shelf.specs.Limits.{element_place}
use Rattle.shelf.specs.Types.{elements_of, kind_at}
use Rattle.shelf.specs.Elements.{settings_at}
use Rattle.page.specs.Places.{places_of}
use Rattle.control_page.specs.Brought.{acting_at}

-- a control element acts on element j: its own, or the overall one of its type
abbrev pub Chosen : List ℕ → List ℕ → ℕ → Type 0
Chosen s p j = (j < elements_of s) × ((acting_at p (places_of s j)).select ≡ true)

-- byte q is one of the four settings bytes of a chosen element
abbrev pub ChosenByte : List ℕ → List ℕ → ℕ → Type 0
ChosenByte s p q = (j : ℕ) × Chosen s p j × (element_place j ≤ q) × (q < element_place j + 4)

-- what that control element asks for, RST SWAP in the place of SWAP
abbrev pub request_for : List ℕ → List ℕ → ℕ → Settings
request_for s p j = (acting_at p (places_of s j)).request

-- the settings record of element j of s, as the block x stores it
abbrev pub record_in : List ℕ → List ℕ → ℕ → Settings
record_in s x j = settings_of (kind_at s j) (settings_at x j)

-- the fields of a record after a request, each from the stored one
pub record Acted (request stored after : Settings) : Type 0 where
  -- PRDFAIL, DISABLED and the type's flags take the bits: in byte 1 IDENT and a sensor's FAIL, in byte 3 a fan's FAIL and ON
  pub prdfail : after.prdfail ≡ request.prdfail
  pub disabled : after.disabled ≡ request.disabled
  pub flags1 : after.flags1 ≡ request.flags1
  pub flags2 : after.flags2 ≡ request.flags2
  pub flags3 : after.flags3 ≡ request.flags3
  -- RST SWAP 1 clears SWAP; 0 keeps it
  pub swap_cleared : request.swap ≡ true → after.swap ≡ false
  pub swap_kept : request.swap ≡ false → after.swap ≡ stored.swap
  -- speed code 0 keeps SPEED; 1 to 7 replaces it
  pub speed_kept : request.speed ≡ 0 → after.speed ≡ stored.speed
  pub speed_replaced : 0 < request.speed → after.speed ≡ request.speed

pub record Exactly (s p x : List ℕ) : Type 0 where
  pub same_length : length x ≡ length s
  -- every byte is as it was, or it is a settings byte of a chosen element
  pub others : (q : ℕ) → (get_or x q 0 ≡ get_or s q 0) ⊎ ChosenByte s p q
  -- of which these are the fields, and no other bit is set
  pub fields : (j : ℕ) → Chosen s p j → Acted (request_for s p j) (record_in s s j) (record_in s x j)
  pub no_more : (j : ℕ) → Chosen s p j → settings_at x j ≡ settings_bytes (kind_at s j) (record_in s x j)
