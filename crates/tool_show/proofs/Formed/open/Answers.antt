use Rattle.std.proofs.Common.{arith, sym, ◌∙◌}
use Rattle.shelf_formed.proofs.ElementPut.{length-formed}
use Rattle.shelf_formed.proofs.Opening.{formed_sizes}
use Rattle.tool_show.proofs.Rooms.{types_few, elements_few}
use Rattle.tool_show.proofs.Formed.open.Goals as goal

pub invariant_of-result : goal.invariant_of-result
invariant_of-result c =
    let x = c.args.block.now in
    let z = formed_sizes x (sym c.open_shelf.ensures ∙ c.in_ok-sizes.was) in
    record {
      formed = z.0;
      types_value = z.1;
      elements_value = z.2;
      types_few = omega (arith, z.1, types_few x z.0);
      elements_few = omega (arith, z.2, elements_few x z.0);
      length_value = omega (arith, z.1, z.2, length-formed x z.0);
    }
