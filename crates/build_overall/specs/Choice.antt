-- The overall element for the elements that a slot is for, of a shelf s and a wanted list w. Assumes nothing.
use Rattle.std.specs.Prelude.{Bool, List, ℕ, ◌+◌, ◌*◌, ◌-◌, ◌≤◌, ltb, length}
use Rattle.bits.specs.Choice.{pick, first_below}
use Rattle.bits.specs.Numbers.{big}
use Rattle.build_order.specs.Order.{sooner}
use Rattle.build_order.specs.Search.{Search, cost, best_tried, best_of, best}
use Rattle.build_element.specs.Wishes.{alike}
use Rattle.build_element.specs.Parts.{tries, overall_search}
use Rattle.shelf.specs.Elements.{settings_at}
use Rattle.shelf.specs.SettingsList.{settings_in}
use Rattle.page.specs.declared.slots.Slot.{Slot}
use Rattle.page.specs.Slots.{HasElements}
use Rattle.build_overall.specs.declared.Candidate.{Candidate}

-- the wanted list w has a record for each element that a slot is for, which the shelf s has
abbrev pub HasWishes : List ℕ → List ℕ → Slot → Type 0
HasWishes s w at = HasElements s at × (4 * at.end ≤ length w)

-- what is stored and wanted of the elements from a on
abbrev pub stored_from : List ℕ → ℕ → ℕ → List ℕ
stored_from s a i = settings_at s (a + i)

abbrev pub wanted_from : List ℕ → ℕ → ℕ → List ℕ
wanted_from w a i = settings_in w (a + i)

-- the search for their overall element
abbrev pub search_at : List ℕ → List ℕ → Slot → Search
search_at s w at = overall_search at.kind (stored_from s at.first) (wanted_from w at.first) (at.end - at.first)

-- the SELECTs that they need with the overall element o
unfoldable pub cost_of : List ℕ → List ℕ → Slot → List ℕ → ℕ
cost_of s w at o = cost (search_at s w at) o

abbrev pub ranked : List ℕ → List ℕ → Slot → List ℕ → Candidate
ranked s w at o = record { overall = o; selects = cost_of s w at o }

-- the better of the best so far and o
unfoldable pub tried_one : List ℕ → List ℕ → Slot → Candidate → List ℕ → Candidate
tried_one s w at b o = pick (sooner (cost_of s w at o) (big o) b.selects (big b.overall)) (ranked s w at o) b

-- the best of a and what is tried for the record x
unfoldable pub best_after : List ℕ → List ℕ → Slot → List ℕ → List ℕ → List ℕ
best_after s w at x a = best_tried (search_at s w at) x a (tries at.kind x)

-- the best of the unselected element and what is tried for the first n records
unfoldable pub best_among : List ℕ → List ℕ → Slot → ℕ → Candidate
best_among s w at n = ranked s w at (best_of (search_at s w at) n)

-- what is wanted of element j is wanted of one from a on before it
unfoldable pub repeated : List ℕ → ℕ → ℕ → Bool
repeated w a j = ltb (first_below (λ i. alike (settings_in w (a + i)) (settings_in w j)) (j - a)) (j - a)

unfoldable pub overall_of : List ℕ → List ℕ → Slot → List ℕ
overall_of s w at = best (search_at s w at)
