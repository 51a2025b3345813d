use Rattle.std.proofs.Common.{arith}
use Rattle.tool_show.proofs.Rooms.{some_type}
use Rattle.tool_show.proofs.first_type.Goals as goal

pub show_type-requires : goal.show_type-requires
show_type-requires g c =
    let f = c.in-Some.shelf in
    omega (arith, f.types_value, some_type f.block.now f.formed)
