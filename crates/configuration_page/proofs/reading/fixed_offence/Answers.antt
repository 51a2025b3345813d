use mathlib.Core.Path.{sym, ap, ◌∙◌}
use mathlib.Core.Bool.{◌&&◌}
use Prim.Native.Nat.{ℕ}
use lib.Dec.{leb}
use borrow.Author.Tests.{eq-eqb, ne_eqb}
use Rattle.shelf.specs.Limits.{most_types}
use Rattle.configuration_page.proofs.FirstOffence.{fixed_1, fixed_8, fixed_9, fixed_10, fixed_11, fixed_none}
use Rattle.configuration_page.proofs.reading.fixed_offence.Goals as goal

pub returns-then-byte_at-ne0 : goal.returns-then-byte_at-ne0
returns-then-byte_at-ne0 c = let p = c.args.page.now in fixed_1 p (ne_eqb _ 0 (λ e. c.if-byte_at-ne0.true (c.byte_at.ensures ∙ e)))

pub returns-then-byte_at-ne-PROCESS : goal.returns-then-byte_at-ne-PROCESS
returns-then-byte_at-ne-PROCESS c = let p = c.args.page.now in
    fixed_8 p (eq-eqb _ 0 (sym c.byte_at.ensures ∙ c.if-byte_at-ne0.false))
    (ne_eqb _ 17 (λ e. c.if-byte_at-ne-PROCESS.true (c.byte_at-2.ensures ∙ e)))

pub returns-then-byte_at-ne0-2 : goal.returns-then-byte_at-ne0-2
returns-then-byte_at-ne0-2 c = let p = c.args.page.now in
    fixed_9 p (eq-eqb _ 0 (sym c.byte_at.ensures ∙ c.if-byte_at-ne0.false))
    (eq-eqb _ 17 (sym c.byte_at-2.ensures ∙ c.if-byte_at-ne-PROCESS.false))
    (ne_eqb _ 0 (λ e. c.if-byte_at-ne0-2.true (c.byte_at-3.ensures ∙ e)))

pub returns-then-not-types : goal.returns-then-not-types
returns-then-not-types c = let p = c.args.page.now in
    fixed_10 p
    (eq-eqb _ 0 (sym c.byte_at.ensures ∙ c.if-byte_at-ne0.false))
    (eq-eqb _ 17 (sym c.byte_at-2.ensures ∙ c.if-byte_at-ne-PROCESS.false))
    (eq-eqb _ 0 (sym c.byte_at-3.ensures ∙ c.if-byte_at-ne0-2.false))
    (ap (λ (n : ℕ). leb 1 n && leb n most_types) (sym c.types_on-types.ensures) ∙ c.if-not-types.true)

pub returns-then-byte_at-ne-DESCRIPTOR : goal.returns-then-byte_at-ne-DESCRIPTOR
returns-then-byte_at-ne-DESCRIPTOR c = let p = c.args.page.now in
    fixed_11 p
    (eq-eqb _ 0 (sym c.byte_at.ensures ∙ c.if-byte_at-ne0.false))
    (eq-eqb _ 17 (sym c.byte_at-2.ensures ∙ c.if-byte_at-ne-PROCESS.false))
    (eq-eqb _ 0 (sym c.byte_at-3.ensures ∙ c.if-byte_at-ne0-2.false))
    (ap (λ (n : ℕ). leb 1 n && leb n most_types) (sym c.types_on-types.ensures) ∙ c.if-not-types.false)
    (ne_eqb _ 36 (λ e. c.if-byte_at-ne-DESCRIPTOR.true (c.byte_at-4.ensures ∙ e)))

pub returns : goal.returns
returns c = let p = c.args.page.now in
    fixed_none p
    (eq-eqb _ 0 (sym c.byte_at.ensures ∙ c.if-byte_at-ne0.false))
    (eq-eqb _ 17 (sym c.byte_at-2.ensures ∙ c.if-byte_at-ne-PROCESS.false))
    (eq-eqb _ 0 (sym c.byte_at-3.ensures ∙ c.if-byte_at-ne0-2.false))
    (ap (λ (n : ℕ). leb 1 n && leb n most_types) (sym c.types_on-types.ensures) ∙ c.if-not-types.false)
    (eq-eqb _ 36 (sym c.byte_at-4.ensures ∙ c.if-byte_at-ne-DESCRIPTOR.false))
