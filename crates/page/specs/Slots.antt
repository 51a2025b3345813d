-- The slots of a page, four bytes each: for each type in order its overall element, then its individual elements. Assumes nothing.
use Rattle.std.specs.Prelude.{◌≡◌, Bool, false, List, ℕ, zero, suc, ◌+◌, ◌*◌, ◌-◌, ◌<◌, ◌≤◌, eqb, ltb, length}
use Rattle.bits.specs.Choice.{pick, first_below}
use Rattle.bits.specs.Places.{fours_put}
use Rattle.element.specs.declared.types.Kind.TheVariants.{Current}
use Rattle.element.specs.Types.{kind_of}
use Rattle.shelf.specs.Limits.{most_types, element_place}
use Rattle.shelf.specs.Types.{types_of, type_code, type_count, before, elements_of}
use Rattle.page.specs.declared.slots.Slot.{Slot}
use Rattle.page.specs.declared.slots.SlotRun.{SlotRun}

-- how many slots a page has
unfoldable pub slots_of : List ℕ → ℕ
slots_of c = types_of c + elements_of c

-- the slots before type t: an overall one for each type before it, and all their elements
unfoldable pub start_of : List ℕ → ℕ → ℕ
start_of c t = before c t + t

-- slot i stands before the end of type t
abbrev pub in_type : List ℕ → ℕ → ℕ → Bool
in_type c i t = ltb i (start_of c (t + 1))

-- the type of slot i: the first that ends after it
unfoldable pub slot_type : List ℕ → ℕ → ℕ
slot_type c i = first_below (in_type c i) most_types

-- a type's first slot is its overall element
unfoldable pub is_overall : List ℕ → ℕ → Bool
is_overall c i = eqb i (start_of c (slot_type c i))

-- what slot i is for: the elements of its type, or the one element alone, from `first` up to `end`
unfoldable pub slot_at : List ℕ → ℕ → Slot
slot_at c i =
    let t : ℕ = slot_type c i in
    record {
      kind = kind_of (type_code c t);
      overall = is_overall c i;
      first = pick (is_overall c i) (i - t) (i - t - 1);
      end = pick (is_overall c i) (i - t + type_count c t) (i - t);
    }

-- the block s has the elements that a slot is for
abbrev pub HasElements : List ℕ → Slot → Type 0
HasElements s at = (element_place at.end ≤ length s) × (at.overall ≡ false → at.first < at.end)

-- type t as a walk over the slots has it: how many types there are up to it, and where its slots end
abbrev pub slot_run_of : List ℕ → ℕ → Bool → SlotRun
slot_run_of c t overall = record { kind = kind_of (type_code c t); overall = overall; types = t + 1; end = start_of c (t + 1) }

abbrev pub slot_run : List ℕ → ℕ → SlotRun
slot_run c i = slot_run_of c (slot_type c i) (is_overall c i)

-- what a walk has before slot i: no type yet, or that of the slot before it
abbrev pub unstarted : SlotRun
unstarted = record { kind = Current; overall = false; types = 0; end = 0 }

abbrev pub slot_carried : List ℕ → ℕ → SlotRun
slot_carried c zero = unstarted
slot_carried c (suc i) = slot_run c i

-- what slot i is for, from its type
unfoldable pub slot_in : SlotRun → ℕ → Slot
slot_in r i =
    let after : ℕ = i + 1 - r.types in
    record {
      kind = r.kind;
      overall = r.overall;
      first = pick r.overall after (after - 1);
      end = pick r.overall (r.end - r.types) after;
    }

abbrev pub slot_place : ℕ → ℕ
slot_place i = 8 + 4 * i

-- the page with f 0, f 1, .. put into its first n slots, one after the other
abbrev pub slots_put : (ℕ → List ℕ) → List ℕ → ℕ → List ℕ
slots_put f out n = fours_put slot_place f out n
