-- The control page for a wish: what is promised of it. Assumes nothing.
use Rattle.std.specs.Prelude.{◌≡◌, Bool, true, List, ◌⊎◌, ℕ, ◌*◌, eqb, length, Ok, Err}
use Rattle.bits.specs.Choice.{all_below, sum_below}
use Rattle.bits.specs.Numbers.{Bytes}
use Rattle.bits.specs.Places.{four_at}
use Rattle.build_order.specs.Order.{NotAfter}
use Rattle.element.specs.Settings.{settings_formed}
use Rattle.build_element.specs.Parts.{selects}
use Rattle.refusals.specs.declared.Refusal.TheVariants.{WantedList, Unreachable}
use Rattle.refusals.specs.Outcomes.{unless, next}
use Rattle.shelf.specs.Types.{elements_of, kind_at}
use Rattle.shelf.specs.SettingsList.{settings_in}
use Rattle.page.specs.Slots.{slots_of, slot_place}
use Rattle.page.specs.Header.{shelf_tested}
use Rattle.control_page.specs.Tests.{valid}
use Rattle.control_page.specs.Brought.{brought_to}
use Rattle.build_page.specs.Outcome.{built_of, left_by, BuildAnswer}
use Rattle.refusals.specs.Answers.{Answer}

-- what is wanted of element j is a record that its type may have
abbrev pub may_be : List ℕ → List ℕ → ℕ → Bool
may_be s w j = settings_formed (kind_at s j) (settings_in w j)

-- 9: another number of records than n elements
abbrev pub number_tested : List ℕ → ℕ → Answer
number_tested w n = unless (eqb (length w) (4 * n)) WantedList (Ok tt)

-- 9: one of the first n records that its type may not have
abbrev pub records_tested : List ℕ → List ℕ → ℕ → Answer
records_tested s w n = unless (all_below (may_be s w) n) WantedList (Ok tt)

-- 1: the shelf record is not well formed; 9: the number of records, then each of them
unfoldable pub wish_tested : List ℕ → List ℕ → Answer
wish_tested s w = next (shelf_tested s) (next (number_tested w (elements_of s)) (records_tested s w (elements_of s)))

-- the SELECT bits of a control page for s, overall ones counted
abbrev pub selects_on : List ℕ → List ℕ → ℕ
selects_on s p = sum_below (λ i. selects (four_at p (slot_place i))) (slots_of s)

-- a valid control page that brings the shelf s to the wanted settings
abbrev pub Reaching : List ℕ → List ℕ → List ℕ → Type 0
Reaching s w p = Bytes p × (valid s p ≡ true) × (brought_to s p ≡ w)

-- it reaches them, and no page that does has fewer SELECTs, or as many and stands before it in the dictionary
abbrev pub Best : List ℕ → List ℕ → List ℕ → Type 0
Best s w p = Reaching s w p × ((q : List ℕ) → Reaching s w q → NotAfter (selects_on s p) p (selects_on s q) q)

-- no valid page brings the shelf there
abbrev pub OutOfReach : List ℕ → List ℕ → Type 0
OutOfReach s w = (q : List ℕ) → Reaching s w q → ⊥

-- 10, if there is no page; else the best one, written if the output buffer holds it (11 if not), and its SELECTs
abbrev pub Answered : List ℕ → List ℕ → List ℕ → BuildAnswer → List ℕ → Type 0
Answered s w out r after =
    (OutOfReach s w × (r ≡ Err Unreachable) × (after ≡ out))
    ⊎ ((p : List ℕ) × Best s w p × (r ≡ built_of p (selects_on s p) out) × (after ≡ left_by r p out))

-- a refusal of the tests is the answer
abbrev pub Passed : Answer → List ℕ → List ℕ → List ℕ → BuildAnswer → List ℕ → Type 0
Passed (Ok tt) s w out r after = Answered s w out r after
Passed (Err x) s w out r after = (r ≡ Err x) × (after ≡ out)

-- what is promised of the answer r to the wish w on the shelf s, and of the output buffer after it, which was out
abbrev pub Promised : List ℕ → List ℕ → List ℕ → BuildAnswer → List ℕ → Type 0
Promised s w out r after = Passed (wish_tested s w) s w out r after
