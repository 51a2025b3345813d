-- A slot stands among the slots of its type. Assumes nothing.
use mathlib.Core.Path.{◌≡◌}
use mathlib.Core.List.{List}
use Prim.Native.Nat.{ℕ, ◌+◌, ◌<◌, ◌≤◌}
use native.Mathlib.Omega.{arith}
use Rattle.bits.proofs.Ends.{part_start, part_end, part_is}
use Rattle.shelf.specs.Limits.{most_types}
use Rattle.page.specs.Slots.{start_of, slot_type}
use Rattle.page.proofs.SlotsBefore.{start_none, start_up}

-- a slot does not stand before its type
pub start_below : (c : List ℕ) (i : ℕ) → start_of c (slot_type c i) ≤ i
unfolding slot_type
start_below c i = part_start (start_of c) i most_types (omega (arith, start_none c))

-- nor behind it
pub type_ends : (c : List ℕ) (i : ℕ) → slot_type c i < most_types → i < start_of c (slot_type c i + 1)
unfolding slot_type
type_ends c i l = part_end (start_of c) i most_types l

-- and it stands so in no other type
pub slotted : (c : List ℕ) (t i : ℕ) → t < most_types → start_of c t ≤ i → i < start_of c (t + 1) → slot_type c i ≡ t
unfolding slot_type
slotted c t i l a b = part_is (start_of c) i most_types (start_up c) t l a b

-- each type has a slot of its own
pub types_below : (c : List ℕ) (t : ℕ) → t ≤ start_of c t
unfolding start_of
types_below c t = omega arith
