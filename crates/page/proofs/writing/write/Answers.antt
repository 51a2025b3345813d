use Rattle.std.proofs.Common.{◌≡◌, ◌≤◌, length, refl, sym, ◌∙◌, ap, arith}
use Rattle.refusals.proofs.Left.{write_room, write_put}
use Rattle.refusals.proofs.Stages.{slots_told}
use Rattle.page.specs.Slots.{slot_place}
use Rattle.page.proofs.writing.write.Goals as goal

pub returns : goal.returns
returns g c = λ a page n h p.
    let e = slots_told a n h c.in-Ok.is in
    let k : c.slot_place.result ≡ length page = c.slot_place.ensures ∙ ap slot_place e.1 ∙ sym p.0 in
    let r = write_room a page c.args.out.now refl e.0 k c.fit-fit.ensures c.in-Ok-fit.is in
    let s : slot_place n ≤ length c.args.out.now = omega (arith, r, k, p.0) in
    let put = p.1 s _ _ refl (rw e.1 at c.put.ensures) in
    write_put a page c.args.out.now refl e.0 k c.fit-fit.ensures c.in-Ok-fit.is put
