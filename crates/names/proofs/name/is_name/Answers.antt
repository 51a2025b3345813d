use Rattle.std.proofs.Common.{rules, ◌≡◌, true, ◌↔◌, IsTrue, EachIndex, get_or}
use native.Mathlib.Omega.{arith}
use Rattle.bits.specs.Bits.{printable}
use Rattle.names.proofs.NameTests.{too_long, all_printable}
use Rattle.names.proofs.name.is_name.Goals as goal

pub returns-then-text : goal.returns-then-text
returns-then-text c = let x = c.args.text.now in
    let h : IsTrue c.all.result ↔ EachIndex x (λ k. printable (get_or x k 0) ≡ true) = search rules in
    all_printable x (omega (arith, c.if-text.true)) h

pub returns-else-text : goal.returns-else-text
returns-else-text c = too_long c.args.text.now (omega (arith, c.if-text.false))
