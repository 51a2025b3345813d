use mathlib.Core.Path.{sym, ap, ◌∙◌}
use mathlib.Core.Bool.{◌&&◌}
use Prim.Native.Nat.{ℕ}
use lib.ListN.{get_or}
use Rattle.bits.specs.Choice.{first_of}
use Rattle.bits.specs.Bits.{within}
use Rattle.bits.specs.Places.{four_at}
use Rattle.bits.specs.Numbers.{big, bytes}
use Rattle.bits.proofs.Masks.{known_four}
use Rattle.element.proofs.TypeShapes.{none_hidden, first_hidden}
use borrow.Author.Rules.{rules}
use Rattle.element_status.proofs.offending.Goals as goal

pub returns-then-are_within-code_allowed : goal.returns-then-are_within-code_allowed
returns-then-are_within-code_allowed c = let s = c.args in
    let e = s.e in
    let h = known_four e (search rules) (search rules) (search rules) (search rules) in
    let w = c.are_within.ensures ∙ ap (λ (n : ℕ). within n (big (four_at e 0))) c.shown-2.ensures in
    let a = c.code_allowed.ensures in
    none_hidden s.kind e h (sym (λ i. w i && a i) ∙ c.if-are_within-code_allowed.true)

pub returns : goal.returns
returns c = let s = c.args in
    let e = s.e in
    let m = c.four_of-m.ensures ∙ ap (bytes 4) c.shown.ensures in
    let a = c.first_clear.ensures in
    c.first_of.ensures
    ∙ (λ i. first_of (a i) (within (get_or (m i) 1 0) (get_or e 1 0)) (within (get_or (m i) 2 0) (get_or e 2 0)) (within (get_or (m i) 3 0) (get_or e 3 0)))
    ∙ first_hidden s.kind e
