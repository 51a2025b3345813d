-- What is asked of the closure that a walk over elements is given, and what its calls tell. Assumes nothing.
use Rattle.std.specs.Prelude.{◌≡◌, Bool, List, ℕ, ◌<◌}
use Rattle.shelf.specs.declared.types.Run.{Run}
use Rattle.shelf.specs.Types.{run_at}

-- it may be called at each of the first n elements
abbrev pub TakesElements : (Run → ℕ → Type 0) → List ℕ → ℕ → Type 0
TakesElements pre s n = (j : ℕ) → j < n → pre (run_at s j) j

-- and tells f j of element j
abbrev pub TellsEach : (Run → ℕ → Bool → Type 0) → List ℕ → ℕ → (ℕ → Bool) → Type 0
TellsEach post s n f = (j : ℕ) → j < n → (b : Bool) → post (run_at s j) j b → b ≡ f j
