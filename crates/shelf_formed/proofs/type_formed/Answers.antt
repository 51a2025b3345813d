use Rattle.shelf_formed.proofs.Tests.{text_read, text_too_long, type_judged}
use Rattle.shelf_formed.proofs.type_formed.Goals as goal

pub returns-then-n-gt-MOST_TEXT : goal.returns-then-n-gt-MOST_TEXT
returns-then-n-gt-MOST_TEXT c = let s = c.args in text_too_long s.shelf.now s.t (text_read s.shelf.now s.t c.type_place.ensures c.four_at-e.ensures) c.if-n-gt-MOST_TEXT.true

pub text_formed-requires : goal.text_formed-requires
text_formed-requires c = record { has_text = c.requires; n_le_most_text = c.if-n-gt-MOST_TEXT.false; n_value = text_read c.args.shelf.now c.args.t c.type_place.ensures c.four_at-e.ensures }

pub returns : goal.returns
returns c = let s = c.args in let p = c.type_place.ensures in let h = c.four_at-e.ensures in type_judged s.shelf.now s.t (text_read s.shelf.now s.t p h) c.if-n-gt-MOST_TEXT.false p h c.is_served.ensures c.text_formed.ensures
