use Rattle.std.proofs.Common.{arith}
use borrow.Author.Tests.{ne_eqb}
use Rattle.element.specs.Types.{kind_named}
use Rattle.element.proofs.types.Kind.from_code.Goals as goal

pub returns-in-3 : goal.returns-in-3
unfolding kind_named
returns-in-3 c = rw c.in-3.is

pub returns-in-4 : goal.returns-in-4
unfolding kind_named
returns-in-4 c = rw c.in-4.is

pub returns-in-18 : goal.returns-in-18
unfolding kind_named
returns-in-18 c = rw c.in-18.is

pub returns-in-19 : goal.returns-in-19
unfolding kind_named
returns-in-19 c = rw c.in-19.is

pub returns-in_default : goal.returns-in_default
unfolding kind_named
returns-in_default c =
    let n = c.args.code in
    rw (ne_eqb n 3 (λ e. omega arith), ne_eqb n 4 (λ e. omega arith), ne_eqb n 18 (λ e. omega arith), ne_eqb n 19 (λ e. omega arith))
