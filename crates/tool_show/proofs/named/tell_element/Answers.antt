use Rattle.std.proofs.Common.{arith, sym, ◌∙◌}
use Rattle.shelf_formed.proofs.ElementPut.{opened_there}
use Rattle.tool_show.proofs.named.tell_element.Goals as goal

pub run_of-requires : goal.run_of-requires
run_of-requires g c =
    let z = opened_there c.args.shelf.now (sym c.open_shelf-opened.ensures ∙ c.in-Some.is) in
    omega (arith, z.1, c.if-j-sizes.true)
