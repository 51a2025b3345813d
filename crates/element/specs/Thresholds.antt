-- The four threshold bytes: high critical, high warning, low warning, low critical. Assumes nothing.
use Rattle.std.specs.Prelude.{Bool, true, ◌||◌, List, [], ◌∷◌, ℕ, eqb, leb, ltb, get_or}
use Rattle.bits.specs.Choice.{pick}
use Rattle.element.specs.declared.types.LowOrder.{LowOrder}
use Rattle.element.specs.declared.types.LowOrder.TheVariants.{Any, WarningAbove, CriticalAbove}

-- a nonzero individual byte is taken; else a nonzero overall byte; else the stored byte stays
abbrev pub byte_taken : ℕ → ℕ → ℕ → ℕ
byte_taken own overall stored = pick (eqb own 0) (pick (eqb overall 0) stored overall) own

unfoldable pub taken : List ℕ → List ℕ → List ℕ → List ℕ
taken own overall stored =
    byte_taken (get_or own 0 0) (get_or overall 0 0) (get_or stored 0 0)
    ∷ byte_taken (get_or own 1 0) (get_or overall 1 0) (get_or stored 1 0)
    ∷ byte_taken (get_or own 2 0) (get_or overall 2 0) (get_or stored 2 0)
    ∷ byte_taken (get_or own 3 0) (get_or overall 3 0) (get_or stored 3 0)
    ∷ []

-- tested only where both bytes are nonzero
abbrev pub at_least : ℕ → ℕ → Bool
at_least a b = (eqb a 0 || eqb b 0) || leb b a

-- high critical at least high warning
abbrev pub high_ordered : List ℕ → Bool
high_ordered t = at_least (get_or t 0 0) (get_or t 1 0)

-- and the low two as the type has them: in no order, low warning at least low critical, or low critical at least low warning
abbrev pub low_ordered : LowOrder → List ℕ → Bool
low_ordered Any t = true
low_ordered WarningAbove t = at_least (get_or t 2 0) (get_or t 3 0)
low_ordered CriticalAbove t = at_least (get_or t 3 0) (get_or t 2 0)

-- of the four a type has the first n; the others are zero
abbrev pub byte_had : ℕ → List ℕ → ℕ → Bool
byte_had n t i = ltb i n || eqb (get_or t i 0) 0

-- the bits that the four bytes may have
abbrev pub byte_mask : ℕ → ℕ → ℕ
byte_mask n i = pick (ltb i n) 255 0

abbrev pub thresholds_mask : ℕ → List ℕ
thresholds_mask n = byte_mask n 0 ∷ byte_mask n 1 ∷ byte_mask n 2 ∷ byte_mask n 3 ∷ []
