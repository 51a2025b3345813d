use mathlib.Core.Path.{◌≡◌, sym, ap, ◌∙◌}
use Prim.Native.Nat.{ℕ}
use native.Mathlib.Omega.{arith}
use lib.ListN.{length}
use Rattle.std.proofs.Common.{Some}
use Rattle.std.specs.Ordering.{partial_lt, partial_ordering_then, nat_cmp}
use Rattle.std.proofs.lemmas.Bool.Decides.{nat_tests}
use Rattle.bits.specs.Numbers.{big}
use Rattle.bits.proofs.Rows.{as_four}
use Rattle.build_order.specs.Order.{sooner}
use borrow.Author.Rules.{rules}
use Rattle.build_order.proofs.sooner.Goals as goal

-- as the library compares two pairs of numbers
in_pairs : (m x n y : ℕ) → partial_lt (λ (a b : ℕ × ℕ). partial_ordering_then (Some (nat_cmp a.0 b.0)) (Some (nat_cmp a.1 b.1))) (m, x) (n, y) ≡ sooner m x n y
in_pairs m x n y = grind (arith, nat_tests)

pub returns : goal.returns
returns c = let s = c.args in
    let l : length s.p ≡ 4 = search rules in
    let k : length s.q ≡ 4 = search rules in
    let p = c.number.ensures ∙ ap big (sym (as_four s.p l)) in
    let q = c.number-2.ensures ∙ ap big (sym (as_four s.q k)) in
    c.lt.ensures ∙ in_pairs s.m c.number.result s.n c.number-2.result ∙ rw (p, q)
