-- Element j of a shelf s: what is stored of it, and the shelf with other settings or thresholds for it. Assumes nothing.
use Rattle.std.specs.Prelude.{List, ℕ, ◌+◌}
use Rattle.bits.specs.Numbers.{big}
use Rattle.bits.specs.Places.{two_at, four_at, put_four}
use Rattle.shelf.specs.Limits.{element_place}

unfoldable pub settings_at : List ℕ → ℕ → List ℕ
settings_at s j = four_at s (element_place j)

unfoldable pub thresholds_at : List ℕ → ℕ → List ℕ
thresholds_at s j = four_at s (element_place j + 4)

unfoldable pub reading_at : List ℕ → ℕ → ℕ
reading_at s j = big (two_at s (element_place j + 8))

unfoldable pub nominal_at : List ℕ → ℕ → ℕ
nominal_at s j = big (two_at s (element_place j + 10))

unfoldable pub spare_at : List ℕ → ℕ → List ℕ
spare_at s j = four_at s (element_place j + 12)

unfoldable pub settings_put : List ℕ → ℕ → List ℕ → List ℕ
settings_put s j e = put_four s (element_place j) e

unfoldable pub thresholds_put : List ℕ → ℕ → List ℕ → List ℕ
thresholds_put s j t = put_four s (element_place j + 4) t
