-- What a search finds, or that it finds nothing. Assumes nothing.
use Rattle.std.specs.Prelude.{Bool, ℕ, ltb, Option, Some, None}
use Rattle.bits.specs.Choice.{pick, first_below}

-- the first number below n at which the test f passes, if there is one
unfoldable pub found_below : (ℕ → Bool) → ℕ → Option ℕ
found_below f n = pick (ltb (first_below f n) n) (Some (first_below f n)) None
