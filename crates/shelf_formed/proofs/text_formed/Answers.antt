use mathlib.Core.Path.{sym, ◌∙◌}
use Rattle.shelf_formed.proofs.Tests.{unprintable}
use Rattle.shelf_formed.proofs.text_formed.Goals as goal

pub text_ended-requires : goal.text_ended-requires
text_ended-requires c = record { has_text = c.requires.has_text; n_le_most_text = c.requires.n_le_most_text; n_value = c.requires.n_value; n_value_2 = sym c.text_printable.ensures ∙ c.if-text_printable.true }

pub returns-then-text_printable : goal.returns-then-text_printable
returns-then-text_printable c = c.text_ended.ensures

pub returns-else-text_printable : goal.returns-else-text_printable
returns-else-text_printable c = unprintable c.args.shelf.now c.args.t c.requires.n_value c.requires.n_le_most_text c.text_printable.ensures c.if-text_printable.false
