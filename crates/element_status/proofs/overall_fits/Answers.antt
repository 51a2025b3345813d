use native.Mathlib.Omega.{arith}
use mathlib.Core.Path.{◌∙◌}
use mathlib.Core.Bool.{◌&&◌}
use Prim.Native.Nat.{ℕ, ◌<◌}
use lib.ListN.{get_or}
use mir.Val.{Fits}
use mir.Syntax.{w8}
use Rattle.element_status.proofs.ByteLaws.{words_alone}
use borrow.Author.Rules.{rules}
use Rattle.element_status.proofs.overall_fits.Goals as goal

pub returns : goal.returns
returns c = let x = c.args.x in
    let h : (i : ℕ) → i < 16 → get_or x i 0 < 256 = λ i l. (let k : Fits w8 (get_or x i 0) = search rules in omega arith) in
    let e = c.are_within.ensures in
    let a = c.code_allowed.ensures in
    (λ i. e i && a i) ∙ words_alone x h
