use Rattle.bits.proofs.FoursPut.{fours_next}
use Rattle.configuration_page.proofs.Loops.{header_made}
use native.Mathlib.Omega.{arith}
use Rattle.configuration_page.specs.Page.{header_place, type_header}
use Rattle.configuration_page.proofs.writing.put_headers.Goals as goal

pub loop-t-preserved : goal.loop-t-preserved
loop-t-preserved c = let s = c.args in
    let l = c.loop-t in
    let f = s.front.now in
    let e = header_made f l.t c.code_of.ensures
    c.elements_of.ensures c.text_length.ensures in
    let r = fours_next header_place (type_header f) s.out.now l.t l.invariant.1 c.header_place.ensures e
    c.put_four.ensures in
    (omega arith, r)
