-- The offset that a status page is refused with: the first byte that offends, and only the bytes up to it decide. Assumes nothing.
use mathlib.Core.Path.{◌≡◌, refl, ap, ◌∙◌}
use mathlib.Core.Bool.{Bool, true, false}
use mathlib.Core.List.{List, [], ◌∷◌}
use Prim.Native.Nat.{ℕ, ◌+◌, ◌<◌, ◌≤◌}
use native.Mathlib.Omega.{arith}
use lib.Dec.{eqb}
use Rattle.bits.specs.Choice.{pick, first_of_four, offence_in}
use Rattle.bits.specs.Bits.{only}
use Rattle.bits.specs.Places.{four_at, AlikeTo}
use Rattle.bits.proofs.Offence.{offence_alike, four_alike_to}
use Rattle.element.specs.Rules.{code_allowed}
use Rattle.element.specs.Types.{rules_of}
use Rattle.element.specs.Status.{status_offending, overall_allows, overall_offending}
use Rattle.element.proofs.TypeStatus.{status_alike}
use Rattle.page.specs.declared.slots.Slot.{Slot}
use Rattle.page.specs.Slots.{slot_at, slot_place}
use Rattle.page.proofs.FirstOffence as page
use Rattle.status_reading.specs.Read.{first_allows, slot_allows, offends, offence}

-- it is found slot by slot: the first byte of slot i that is refused, 4 if none is
unfoldable pub slot_offending : List ℕ → List ℕ → ℕ → ℕ
slot_offending c p i =
    let at : Slot = slot_at c i in
    pick at.overall (overall_offending (four_at p (slot_place i))) (status_offending at.kind (four_at p (slot_place i)))

slot_first : (c p : List ℕ) (i : ℕ) → slot_offending c p i ≡ first_of_four (slot_allows c p i)
unfolding slot_offending overall_offending status_offending
slot_first c p i = go (slot_at c i).overall
  where
    e : List ℕ
    e = four_at p (slot_place i)

    go : (t : Bool) → pick t (first_of_four (overall_allows e)) (first_of_four ((rules_of (slot_at c i).kind).status_allows e))
        ≡ first_of_four (λ j. pick t (overall_allows e j) ((rules_of (slot_at c i).kind).status_allows e j))
    go true = refl
    go false = refl

pub found : (c p : List ℕ) (n : ℕ) → pick (first_allows p) (offence_in slot_place (slot_offending c p) n) 1 ≡ offence c p n
unfolding offence offends
found c p n =
    ap (λ (m : ℕ). pick (first_allows p) m 1) (offence_alike slot_place n (slot_first c p)) ∙ page.first_offence_lem (first_allows p) (slot_allows c p) n

pub offends_alike : (c p q : List ℕ) (k : ℕ) → AlikeTo k p q → (m : ℕ) → m ≤ k → offends c p m ≡ offends c q m
unfolding offends
offends_alike c p q k h =
    page.offends_alike (first_allows p) (first_allows q) (slot_allows c p) (slot_allows c q) k
    (λ l. ap (only (2 ∷ 1 ∷ [])) (h 1 l))
    slots
  where
    slots : (i j : ℕ) → j < 4 → slot_place i + j ≤ k → slot_allows c p i j ≡ slot_allows c q i j
    slots i j n l =
        let x = h (slot_place i) (omega arith) in
        let y = four_alike_to p q (slot_place i) j n (λ m w. h m (omega arith)) in
        let z = status_alike (slot_at c i).kind (four_at p (slot_place i)) (four_at q (slot_place i)) j x y in
        λ d. pick (slot_at c i).overall (pick (eqb j 0) (code_allowed (x d)) (eqb (y d) 0)) (z d)
