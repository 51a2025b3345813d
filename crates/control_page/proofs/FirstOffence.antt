-- The offset that a control page is refused with: the first byte that offends, and only the bytes up to it decide. Assumes nothing.
use mathlib.Core.Path.{◌≡◌, ap}
use mathlib.Core.List.{List, [], ◌∷◌}
use Prim.Native.Nat.{ℕ, ◌+◌, ◌<◌, ◌≤◌}
use native.Mathlib.Omega.{arith}
use Rattle.bits.specs.Choice.{pick, offence_in}
use Rattle.bits.specs.Bits.{only}
use Rattle.bits.specs.Places.{four_at, AlikeTo}
use Rattle.bits.proofs.Offence.{four_alike_to}
use Rattle.element_control.specs.Control.{offending}
use Rattle.element_control.proofs.FirstRefused.{allows_alike}
use Rattle.page.specs.Slots.{slot_at, slot_place}
use Rattle.page.proofs.FirstOffence as page
use Rattle.control_page.specs.Tests.{first_allows, slot_allows, offends, offence}

-- it is found slot by slot: the first byte of slot i that is refused, 4 if none is
unfoldable pub slot_offending : List ℕ → List ℕ → ℕ → ℕ
slot_offending s p i = offending (slot_at s i).kind (four_at p (slot_place i))

pub found : (s p : List ℕ) (n : ℕ) → pick (first_allows p) (offence_in slot_place (slot_offending s p) n) 1 ≡ offence s p n
unfolding offence slot_offending offending offends
found s p n = page.first_offence_lem (first_allows p) (slot_allows s p) n

pub offends_alike : (s p q : List ℕ) (k : ℕ) → AlikeTo k p q → (m : ℕ) → m ≤ k → offends s p m ≡ offends s q m
unfolding offends
offends_alike s p q k h =
    page.offends_alike (first_allows p) (first_allows q) (slot_allows s p) (slot_allows s q) k
    (λ l. ap (only (3 ∷ 2 ∷ 1 ∷ 0 ∷ [])) (h 1 l))
    slots
  where
    slots : (i j : ℕ) → j < 4 → slot_place i + j ≤ k → slot_allows s p i j ≡ slot_allows s q i j
    slots i j n l =
        allows_alike (slot_at s i).kind (four_at p (slot_place i)) (four_at q (slot_place i)) j (h (slot_place i) (omega arith))
        (four_alike_to p q (slot_place i) j n (λ m w. h m (omega arith)))
