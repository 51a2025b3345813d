-- Which bytes of a page with slots offend. Assumes nothing.
use Rattle.std.specs.Prelude.{Bool, true, not, ℕ, ◌-◌, ◌/◌, ◌%◌, eqb, ltb}
use Rattle.bits.specs.Choice.{pick}
use Rattle.page.specs.Slots.{slot_place}

-- the byte at k, where `own` says whether byte 1 is allowed, and f i j whether byte j of slot i is; nothing else of the header is refused with 6
abbrev pub offends_on : Bool → (ℕ → ℕ → Bool) → ℕ → Bool
offends_on own f k =
    not (pick (ltb k (slot_place 0)) (pick (eqb k 1) own true) (f ((k - slot_place 0) / 4) ((k - slot_place 0) % 4)))
