-- What is asked of the closures that a function here is given, and what their calls give. Assumes nothing.
use Rattle.std.specs.Prelude.{◌≡◌, List, ℕ, ◌<◌, ◌≤◌, length, Ok}
use denote.Ref.{MutBor}
use Rattle.refusals.specs.Answers.{Counted}
use Rattle.refusals.specs.Outcomes.{placed}
use Rattle.page.specs.declared.slots.Slot.{Slot}
use Rattle.page.specs.Slots.{slot_at, slot_place}

-- a call gives r, and nothing else
abbrev pub Gives : {A : Type 0} → (A → Type 0) → A → Type 0
Gives {A} post r = (x : A) → post x → x ≡ r

-- it may be called at each of the first n slots
abbrev pub TakesSlots : (Slot → ℕ → Type 0) → List ℕ → ℕ → Type 0
TakesSlots pre c n = (i : ℕ) → i < n → pre (slot_at c i) i

-- and gives f i at slot i
abbrev pub GivesAt : {A : Type 0} → (Slot → ℕ → A → Type 0) → List ℕ → ℕ → (ℕ → A) → Type 0
GivesAt post c n f = (i : ℕ) → i < n → Gives (post (slot_at c i) i) (f i)

-- it may be called with the output buffer and n, once tests told n slots and a page of them has room
abbrev pub TakesRoom : (MutBor (List ℕ) → ℕ → Type 0) → Counted → List ℕ → Type 0
TakesRoom pre tested out = (n : ℕ) → tested ≡ Ok n → slot_place n ≤ length out → (o : MutBor (List ℕ)) → o.now ≡ out → pre o n

-- and puts a page of n slots there
abbrev pub Puts : (MutBor (List ℕ) → ℕ → Unit {0} → MutBor (List ℕ) → Type 0) → List ℕ → List ℕ → ℕ → Type 0
Puts post out page n =
    (length page ≡ slot_place n)
    × (slot_place n ≤ length out → (o q : MutBor (List ℕ)) → o.now ≡ out → post o n tt q → q.now ≡ placed page out)
