use mathlib.Core.Path.{sym, ◌∙◌}
use native.Mathlib.Omega.{arith}
use Rattle.bits.proofs.Masks.{known_four, outside_none}
use borrow.Author.Rules.{rules}
use Rattle.bits.proofs.first_outside.Goals as goal

pub returns-then-are_within : goal.returns-then-are_within
returns-then-are_within c = let s = c.args in
    let e = s.e in
    let h = known_four e (search rules) (search rules) (search rules) (search rules) in
    outside_none s.mask e (omega arith) h (sym c.are_within.ensures ∙ c.if-are_within.true)
