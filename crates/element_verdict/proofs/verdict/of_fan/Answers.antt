use mathlib.Core.Path.{ap, ◌∙◌}
use mathlib.Core.Bool.{Bool, false, ◌&&◌}
use lib.Dec.{eqb}
use lib.ListN.{get_or}
use mir.Val.{Fits}
use mir.Syntax.{w8}
use Rattle.element.specs.Verdict.{code_for, unlimited}
use Rattle.element_verdict.proofs.StoredOn.{on_is}
use borrow.Author.Rules.{rules}
use Rattle.element_verdict.proofs.verdict.of_fan.Goals as goal

pub returns : goal.returns
returns c = let s = c.args in let h : Fits w8 (get_or s.stored 3 0) = search rules in c.unlimited.ensures ∙ ap unlimited (c.code_for.ensures ∙ ap (λ (b : Bool). code_for (b && eqb s.reading 0) false) (on_is s.stored h))
