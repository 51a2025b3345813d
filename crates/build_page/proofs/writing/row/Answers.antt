use native.Mathlib.Omega.{arith}
use Rattle.bits.specs.Numbers.{bytes}
use Rattle.build_page.proofs.Loops.{row_overall, row_own}
use Rattle.build_page.proofs.writing.row.Goals as goal

pub returns-then-at : goal.returns-then-at
returns-then-at c = let s = c.args in row_overall s.shelf.now s.wanted.now s.at (bytes 4 s.overall) c.if-at.true c.four_of-over.ensures

pub settings_at-requires : goal.settings_at-requires
settings_at-requires c = omega (arith, c.requires.0.0, c.requires.0.1 c.if-at.false)

pub settings_in-requires : goal.settings_in-requires
settings_in-requires c = omega (arith, c.requires.1, c.requires.0.1 c.if-at.false)

pub returns : goal.returns
returns c = let s = c.args in row_own s.shelf.now s.wanted.now s.at (bytes 4 s.overall) c.if-at.false c.four_of-over.ensures c.settings_at.ensures c.settings_in.ensures c.one.ensures
