-- The control page for a wish: how it is made. Assumes nothing.
use Rattle.std.specs.Prelude.{Bool, List, ◌++◌, ℕ, Ok}
use Rattle.bits.specs.Choice.{pick, all_below, sum_below}
use Rattle.bits.specs.Rows.{joined}
use Rattle.element.specs.declared.types.Kind.{Kind}
use Rattle.element.specs.Types.{kind_of}
use Rattle.element_control.specs.Control.{control_of}
use Rattle.build_order.specs.Search.{Search, best}
use Rattle.build_element.specs.Wishes.{in_reach, one}
use Rattle.build_element.specs.Parts.{selects, overall_search}
use Rattle.refusals.specs.declared.Refusal.TheVariants.{Unreachable}
use Rattle.refusals.specs.Outcomes.{unless}
use Rattle.shelf.specs.Types.{type_code, type_count, before, kind_at}
use Rattle.shelf.specs.Elements.{settings_at}
use Rattle.shelf.specs.SettingsList.{settings_in}
use Rattle.page.specs.declared.slots.Slot.{Slot}
use Rattle.page.specs.Slots.{slots_of, slot_type, slot_at}
use Rattle.page.specs.Header.{header}
use Rattle.build_overall.specs.Choice.{stored_from, wanted_from}
use Rattle.refusals.specs.Answers.{Answer}

-- of type t: its kind, and what is stored and wanted of its element i
abbrev pub type_kind : List ℕ → ℕ → Kind
type_kind s t = kind_of (type_code s t)

abbrev pub stored_in : List ℕ → ℕ → ℕ → List ℕ
stored_in s t i = stored_from s (before s t) i

abbrev pub wanted_in : List ℕ → List ℕ → ℕ → ℕ → List ℕ
wanted_in s w t i = wanted_from w (before s t) i

-- the search for its overall element, and what it finds
abbrev pub search_in : List ℕ → List ℕ → ℕ → Search
search_in s w t = overall_search (type_kind s t) (stored_in s t) (wanted_in s w t) (type_count s t)

unfoldable pub overall_in : List ℕ → List ℕ → ℕ → List ℕ
overall_in s w t = best (search_in s w t)

-- the four bytes of a slot where o is the overall element of its type
unfoldable pub row_under : List ℕ → List ℕ → Slot → List ℕ → List ℕ
row_under s w at o = pick at.overall o (one at.kind (control_of at.kind o) (settings_at s at.first) (settings_in w at.first))

unfoldable pub row_for : List ℕ → List ℕ → ℕ → List ℕ
row_for s w i = row_under s w (slot_at s i) (overall_in s w (slot_type s i))

-- the SELECTs of the first n slots
abbrev pub selects_for : List ℕ → List ℕ → ℕ → ℕ
selects_for s w n = sum_below (λ i. selects (row_for s w i)) n

unfoldable pub control_page : List ℕ → List ℕ → List ℕ
control_page s w = header s 0x02 0 (slots_of s) ++ joined (row_for s w) (slots_of s)

-- element j can be brought to what is wanted of it
unfoldable pub reachable : List ℕ → List ℕ → ℕ → Bool
reachable s w j = in_reach (kind_at s j) (settings_at s j) (settings_in w j)

-- 10: one of the first n that can't
abbrev pub reach_tested : List ℕ → List ℕ → ℕ → Answer
reach_tested s w n = unless (all_below (reachable s w) n) Unreachable (Ok tt)
