use Rattle.std.proofs.Common.{arith}
use Rattle.tool_show.proofs.Rooms.{overall_below}
use Rattle.tool_show.proofs.Formed.say_overall_name.Goals as goal

pub overflow_add-i : goal.overflow_add-i
overflow_add-i g c =
    let f = c.args.self in
    omega (arith, c.elements_before.ensures, overall_below f.block.now f.formed c.args.t (omega arith))

pub name_at-requires : goal.name_at-requires
name_at-requires g c =
    let f = c.args.self in
    omega (arith, c.name_place.ensures, c.elements_before.ensures, overall_below f.block.now f.formed c.args.t (omega arith))
