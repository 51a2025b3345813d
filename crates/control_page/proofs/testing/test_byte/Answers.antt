use Rattle.std.proofs.Common.{rules, refl, sym, ap, ◌∙◌, [], ◌∷◌, Fits, w8}
use borrow.Author.Tests.{eq-eqb, ne_eqb}
use Rattle.bits.specs.Bits.{only}
use Rattle.bits.proofs.Halves.{mask}
use Rattle.bits.proofs.Logic.{pick_yes, pick_no}
use Rattle.control_page.proofs.testing.test_byte.Goals as goal

pub returns-then-byte_at-ne0 : goal.returns-then-byte_at-ne0
returns-then-byte_at-ne0 c =
    let h : Fits w8 c.byte_at.result = search rules in
    let e = ap (only (3 ∷ 2 ∷ 1 ∷ 0 ∷ [])) (sym c.byte_at.ensures) ∙ sym (mask 0xf0 (3 ∷ 2 ∷ 1 ∷ 0 ∷ []) refl c.byte_at.result h) in
    c.not_allowed.ensures ∙ sym (pick_no _ _ _ (e ∙ ne_eqb _ 0 c.if-byte_at-ne0.true))

pub returns : goal.returns
returns c =
    let h : Fits w8 c.byte_at.result = search rules in
    let e = ap (only (3 ∷ 2 ∷ 1 ∷ 0 ∷ [])) (sym c.byte_at.ensures) ∙ sym (mask 0xf0 (3 ∷ 2 ∷ 1 ∷ 0 ∷ []) refl c.byte_at.result h) in
    sym (pick_yes _ _ _ (e ∙ eq-eqb _ 0 c.if-byte_at-ne0.false))
