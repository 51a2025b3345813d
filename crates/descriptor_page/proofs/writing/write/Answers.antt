use Rattle.std.specs.Prelude.{Ok}
use mathlib.Core.Path.{refl, sym, ◌∙◌}
use Rattle.refusals.proofs.Left.{write_short, write_put}
use Rattle.names.specs.Name.{name_in}
use Rattle.descriptor_page.specs.Page.{descriptor_page}
use Rattle.descriptor_page.proofs.PagePlaced.{length-page}
use Rattle.descriptor_page.proofs.writing.write.Goals as goal

pub returns-in_default : goal.returns-in_default
returns-in_default c = let s = c.args in
    let f = name_in s.names.now s.first in
    let conf = s.configuration.now in
    let l = c.requires.bytes_value ∙ sym (length-page conf f s.n) in
    write_short (Ok tt) (descriptor_page conf f s.n) s.out.now refl refl l c.fit-fit.ensures c.in_default.is

pub returns : goal.returns
returns c = let s = c.args in
    let f = name_in s.names.now s.first in
    let conf = s.configuration.now in
    let l = c.requires.bytes_value ∙ sym (length-page conf f s.n) in
    write_put (Ok tt) (descriptor_page conf f s.n) s.out.now refl refl l c.fit-fit.ensures
    c.in-Ok.is c.put.ensures
