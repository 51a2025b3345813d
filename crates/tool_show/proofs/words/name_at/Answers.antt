use Rattle.std.proofs.Common.{arith}
use Rattle.names.proofs.NameBack.{name_bound}
use Rattle.tool_show.proofs.words.name_at.Goals as goal

pub part-requires : goal.part-requires
part-requires c = omega (arith, c.length_at.ensures, name_bound c.args.s.now c.args.at, c.requires)
