-- The search for one row that serves many elements: the best by what it costs, and then by the dictionary. Assumes nothing.
use Rattle.std.specs.Prelude.{Bool, not, List, ℕ, zero, suc, ◌+◌}
use Rattle.bits.specs.Choice.{pick, sum_below}
use Rattle.bits.specs.Bits.{num}
use Rattle.bits.specs.Numbers.{big}
use Rattle.build_order.specs.Order.{sooner}

-- what is searched
pub record Search : Type 0 where
  -- how many elements there are, and the record that is wanted of each
  pub many : ℕ
  pub wanted : ℕ → List ℕ
  -- the row to start from; what is tried for a record, and how many rows these are
  pub start : List ℕ
  pub tried : List ℕ → ℕ → List ℕ
  pub tries : List ℕ → ℕ
  -- whether a row serves element i, which then needs nothing of its own
  pub serves : List ℕ → ℕ → Bool
  -- what a row costs by itself
  pub alone : List ℕ → ℕ

-- what a row costs: by itself, and one for each element that it does not serve
unfoldable pub cost : Search → List ℕ → ℕ
cost q a = q.alone a + sum_below (λ i. num (not (q.serves a i))) q.many

-- of rows that cost as much the one that says the smaller number, which is the first in the dictionary
unfoldable pub better : Search → List ℕ → List ℕ → List ℕ
better q a b = pick (sooner (cost q b) (big b) (cost q a) (big a)) b a

-- the best of a and the first v of what is tried for the record x
abbrev pub best_tried : Search → List ℕ → List ℕ → ℕ → List ℕ
best_tried q x a zero = a
best_tried q x a (suc v) = better q (best_tried q x a v) (q.tried x v)

-- the best of the start and what is tried for the first n records
abbrev pub best_of : Search → ℕ → List ℕ
best_of q zero = q.start
best_of q (suc n) = best_tried q (q.wanted n) (best_of q n) (q.tries (q.wanted n))

unfoldable pub best : Search → List ℕ
best q = best_of q q.many
