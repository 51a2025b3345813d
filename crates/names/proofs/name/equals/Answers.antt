use mathlib.Core.Path.{refl, ◌∙◌}
use Rattle.names.proofs.NameTests.{other_bytes, same_bytes_lem}
use Rattle.names.proofs.name.equals.Goals as goal

pub returns-then-are_same : goal.returns-then-are_same
returns-then-are_same c = let a = c.args in
    same_bytes_lem a.s.now a.at a.text.now refl c.are_same.ensures c.if-are_same.true c.length_at.ensures

pub returns-else-are_same : goal.returns-else-are_same
returns-else-are_same c = let a = c.args in
    c.if-are_same.false ∙ other_bytes a.s.now a.at a.text.now refl c.are_same.ensures c.if-are_same.false
