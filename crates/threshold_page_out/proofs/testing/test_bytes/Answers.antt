use native.Mathlib.Omega.{arith}
use Rattle.threshold_page_out.proofs.Tests.{byte_refused, limits_last}
use Rattle.threshold_page_out.proofs.testing.test_bytes.Goals as goal

pub test_byte-byte-requires : goal.test_byte-byte-requires
test_byte-byte-requires c = omega (arith, c.requires.has_page.1)

pub returns-in_default : goal.returns-in_default
returns-in_default c = let s = c.args in
    byte_refused s.shelf.now s.page.now s.n c.test_byte-byte.ensures c.in_default.is

pub returns : goal.returns
returns c = let s = c.args in
    limits_last s.shelf.now s.page.now s.n c.test_byte-byte.ensures c.in-Ok.is
    c.test_limits.ensures c.of_page.ensures
