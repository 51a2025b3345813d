use mathlib.Core.Path.{◌∙◌}
use Rattle.bits.specs.Places.{four_at}
use Rattle.bits.specs.Numbers.{bytes}
use Rattle.element_status.specs.Words.{four_put}
use Rattle.element_status.proofs.ByteLaws.{number_made}
use Rattle.element_status.proofs.fields.number_as.Goals as goal

pub returns : goal.returns
returns c = let s = c.args in
    let x = s.x in
    let p3 = c.shifts_last.ensures in
    let m3 = c.shown_last.ensures in
    let p2 = c.shifts_next.ensures in
    let m2 = c.shown_next.ensures in
    let p1 = c.shifts_first.ensures in
    let m1 = c.shown_first.ensures in
    number_made s.kind x
    (c.four_put-n.ensures ∙ (λ i. four_put (four_at x 12) (bytes 4 (p3 i)) (bytes 4 (m3 i)) 0))
    (c.four_put-n-2.ensures ∙ (λ i. four_put (four_at x 8) (bytes 4 (p2 i)) (bytes 4 (m2 i)) c.four_put-n.result))
    (c.four_put.ensures ∙ (λ i. four_put (four_at x 4) (bytes 4 (p1 i)) (bytes 4 (m1 i)) c.four_put-n-2.result))
