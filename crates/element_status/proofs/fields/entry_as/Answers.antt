use mathlib.Core.Path.{◌∙◌}
use Rattle.bits.specs.Numbers.{bytes}
use Rattle.bits.proofs.Masks.{known_four}
use Rattle.element.specs.StatusLayout.{cuts}
use Rattle.element_status.proofs.ByteLaws.{entry_made}
use borrow.Author.Rules.{rules}
use Rattle.element_status.proofs.fields.entry_as.Goals as goal

pub returns : goal.returns
returns c = let s = c.args in
    let e = s.e in
    let n = c.number-n.ensures in
    let p1 = c.shifts_first.ensures in
    let m1 = c.shown_first.ensures in
    let p2 = c.shifts_next.ensures in
    let m2 = c.shown_next.ensures in
    let p3 = c.shifts_last.ensures in
    let m3 = c.shown_last.ensures in
    entry_made s.kind e _ _ _ (known_four e (search rules) (search rules) (search rules) (search rules))
    (c.four_cut-a.ensures ∙ (λ i. cuts (n i) (bytes 4 (p1 i)) (bytes 4 (m1 i))))
    (c.four_cut-b.ensures ∙ (λ i. cuts (n i) (bytes 4 (p2 i)) (bytes 4 (m2 i))))
    (c.four_cut-c.ensures ∙ (λ i. cuts (n i) (bytes 4 (p3 i)) (bytes 4 (m3 i))))
