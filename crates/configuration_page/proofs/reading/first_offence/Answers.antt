use native.Mathlib.Omega.{arith}
use Rattle.configuration_page.specs.Page.{header_place}
use Rattle.configuration_page.proofs.FirstOffence.{found_in}
use Rattle.configuration_page.proofs.reading.first_offence.Goals as goal

pub returns-in-Some : goal.returns-in-Some
returns-in-Some c = found_in c.args.page.now (header_place 0) c.args.n c.in-Some.ensures (omega arith)

pub returns-in-Some-headers_offence : goal.returns-in-Some-headers_offence
returns-in-Some-headers_offence c = found_in c.args.page.now (header_place c.types_on-types.result) c.args.n c.in-Some-headers_offence.ensures (omega (arith, c.types_on-types.ensures))
