use mathlib.Core.Path.{sym, ◌∙◌}
use Rattle.page.proofs.HeaderTests.{generation_differs, generation_passed}
use Rattle.page.proofs.header.test_generation.Goals as goal

pub returns-then-big32_at : goal.returns-then-big32_at
returns-then-big32_at c = let s = c.args in
    generation_differs s.configuration.now s.page.now
    (λ e. c.if-big32_at.true (c.big32_at.ensures ∙ e ∙ sym c.big32_at-2.ensures))

pub returns : goal.returns
returns c = let s = c.args in
    generation_passed s.configuration.now s.page.now
    (sym c.big32_at.ensures ∙ c.if-big32_at.false ∙ c.big32_at-2.ensures)
