use native.Mathlib.Omega.{arith}
use Rattle.configuration_page.proofs.Refusals.{no_headers}
use Rattle.configuration_page.proofs.reading.test_length.Goals as goal

pub returns-in_default : goal.returns-in_default
returns-in_default c = let p = c.args.page.now in
    no_headers p c.test_room-fixed.ensures (omega arith) c.in_default.is

pub returns-in_default-headers : goal.returns-in_default-headers
returns-in_default-headers c = let p = c.args.page.now in
    let e = c.header_place.ensures in
    let t = c.types_on.ensures in
    no_headers p c.test_room-headers.ensures (omega (arith, e, t)) c.in_default-headers.is
