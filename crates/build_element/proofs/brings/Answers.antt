use mathlib.Core.Path.{ap, ◌∙◌}
use mathlib.Core.List.{List}
use Prim.Native.Nat.{ℕ}
use borrow.Author.Rules.{rules}
use Rattle.build_element.specs.Wishes.{alike}
use Rattle.build_element.proofs.Alike.{compared}
use Rattle.build_element.proofs.RequestBytes.{acts_is, leaves_is}
use Rattle.build_element.proofs.brings.Goals as goal
use Rattle.build_element.proofs.brings.Goals.{then-is_selected, else-is_selected}

pub returns : goal.returns
returns c = let s = c.args in
    let h = c.eq.ensures ∙ compared c.if-is_selected.reached s.wanted (search rules) (search rules) in
    elim c.if-is_selected.branch [
      | then-is_selected w ↦ acts_is s.kind s.control s.stored s.wanted c.is_selected.ensures w.if-is_selected.true
          w.of.ensures w.of-then-is_selected.ensures w.act-set.ensures (w.reached-is ∙ w.bytes-reached.ensures) h
      | else-is_selected w ↦ leaves_is s.kind s.control s.stored s.wanted c.is_selected.ensures w.if-is_selected.false (h ∙ ap (λ (e : List ℕ). alike e s.wanted) w.reached-is)
    ]
