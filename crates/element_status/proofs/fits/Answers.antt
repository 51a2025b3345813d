use native.Mathlib.Omega.{arith}
use mathlib.Core.Path.{◌∙◌}
use mathlib.Core.Bool.{◌&&◌}
use Prim.Native.Nat.{ℕ, ◌<◌}
use lib.ListN.{get_or}
use mir.Val.{Fits}
use mir.Syntax.{w8}
use Rattle.element_status.specs.Words.{words_within}
use Rattle.element_status.proofs.ByteLaws.{words_fit}
use borrow.Author.Rules.{rules}
use Rattle.element_status.proofs.fits.Goals as goal

pub returns : goal.returns
returns c = let s = c.args in
    let x = s.x in
    let h : (i : ℕ) → i < 16 → get_or x i 0 < 256 = λ i l. (let k : Fits w8 (get_or x i 0) = search rules in omega arith) in
    let p = c.shown_first.ensures in
    let q = c.shown_next.ensures in
    let r = c.shown_last.ensures in
    let e = c.are_within.ensures ∙ (λ i. words_within x 0x0f010101 (p i) (q i) (r i)) in
    let a = c.code_allowed.ensures in
    (λ i. e i && a i) ∙ words_fit x h s.kind
