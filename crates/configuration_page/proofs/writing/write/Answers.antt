use Rattle.std.specs.Prelude.{Ok}
use Rattle.configuration_page.proofs.PartsPut.{length-page}
use Rattle.configuration_page.specs.Page.{configuration_page}
use Rattle.refusals.proofs.Left.{write_short, write_put}
use mathlib.Core.Path.{refl, sym, ◌∙◌}
use Rattle.configuration_page.proofs.writing.write.Goals as goal

pub returns-in_default : goal.returns-in_default
returns-in_default c = let s = c.args in
    let f = s.front.now in
    let l = c.length-bytes.ensures ∙ sym (length-page f) in
    write_short (Ok tt) (configuration_page f) s.out.now refl refl l c.fit-fit.ensures c.in_default.is

pub returns : goal.returns
returns c = let s = c.args in
    let f = s.front.now in
    let l = c.length-bytes.ensures ∙ sym (length-page f) in
    write_put (Ok tt) (configuration_page f) s.out.now refl refl l c.fit-fit.ensures
    c.in-Ok.is c.put.ensures
