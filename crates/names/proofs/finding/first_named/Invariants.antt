use mathlib.Core.Path.{◌≡◌}
use mathlib.Core.Bool.{true}
use Prim.Native.Nat.{◌≤◌, ◌-◌}
use Rattle.bits.specs.Choice.{all_below}
use Rattle.bits.proofs.Logic.{fails}
use Rattle.shelf.specs.Types.{before}
use Rattle.names.specs.Found.{named}
use Rattle.names.proofs.finding.first_named.Given as goal

-- below j no element has the name; the elements of type t stand from `before shelf t` up to `end`
abbrev pub invariant-loop-j : goal.invariant-loop-j
invariant-loop-j l = (before l.shelf l.t ≤ l.j) × (l.j ≤ l.end) × (all_below (fails (named l.shelf l.text)) l.j ≡ true)

abbrev pub decreases-loop-j : goal.decreases-loop-j
decreases-loop-j l = l.end - l.j

-- types before t have been searched
abbrev pub invariant-search : goal.invariant-search
invariant-search l = (l.t ≤ l.sizes.types) × (l.j ≡ before l.shelf l.t) × (all_below (fails (named l.shelf l.text)) l.j ≡ true)
