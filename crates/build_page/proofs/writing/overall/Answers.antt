use mathlib.Core.Path.{◌≡◌}
use lib.ListN.{length, get_or}
use mir.Val.{Fits}
use mir.Syntax.{w8}
use Rattle.build_page.proofs.Loops.{number_found, number_stands}
use borrow.Author.Rules.{rules}
use Rattle.build_page.proofs.writing.overall.Goals as goal

pub returns-then-at : goal.returns-then-at
returns-then-at c = let s = c.args in
    let o = c.overall-best.result in
    let l : length o ≡ 4 = search rules in
    let h0 : Fits w8 (get_or o 0 0) = search rules in
    let h1 : Fits w8 (get_or o 1 0) = search rules in
    let h2 : Fits w8 (get_or o 2 0) = search rules in
    let h3 : Fits w8 (get_or o 3 0) = search rules in
    number_found s.shelf.now s.wanted.now s.at s.standing c.if-at.true l h0 h1 h2 h3
    c.overall-best.ensures c.big32_at.ensures

pub returns-else-at : goal.returns-else-at
returns-else-at c = let s = c.args in number_stands s.shelf.now s.wanted.now s.at s.standing c.if-at.false
