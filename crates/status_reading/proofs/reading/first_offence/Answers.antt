use mathlib.Core.Path.{◌≡◌, refl, sym, ap, ◌∙◌}
use native.Mathlib.Omega.{arith}
use borrow.Author.Rules.{rules}
use mathlib.Core.Bool.{not}
use mathlib.Core.List.{[], ◌∷◌}
use mir.Val.{Fits}
use mir.Syntax.{w8}
use borrow.Author.Tests.{eq-eqb, ne_eqb, le-ltb}
use Rattle.bits.specs.Choice.{refused_in}
use Rattle.bits.specs.Bits.{only}
use Rattle.bits.proofs.Logic.{fails, below_next}
use Rattle.bits.proofs.Halves.{mask}
use Rattle.page.proofs.SlotWalk.{run_stands, slot_walked, walk_on}
use Rattle.status_reading.proofs.FirstOffence.{slot_offending}
use Rattle.status_reading.proofs.Loops.{slot_offends, first_byte_refused, slot_refused, none_refused}
use Rattle.status_reading.proofs.reading.first_offence.Goals as goal

pub returns-then-byte_at-ne0 : goal.returns-then-byte_at-ne0
returns-then-byte_at-ne0 c = let s = c.args in let h : Fits w8 c.byte_at.result = search rules in first_byte_refused s.configuration.now s.page.now s.n (ap (only (2 ∷ 1 ∷ [])) (sym c.byte_at.ensures) ∙ sym (mask 0xf9 (2 ∷ 1 ∷ []) refl c.byte_at.result h) ∙ ne_eqb _ 0 c.if-byte_at-ne0.true)

pub loop-i-init : goal.loop-i-init
loop-i-init c = (omega arith, c.first_run-run.ensures, refl)

pub run_to-run-requires : goal.run_to-run-requires
run_to-run-requires c = record { has_front = c.requires.has_front; i_bound = omega (arith, c.requires.n_bound, c.loop-i-test.true); run_value = c.loop-i.invariant.1 }

pub slot_in-at-requires : goal.slot_in-at-requires
slot_in-at-requires c = let all = run_stands c.args.configuration.now c.requires.has_front.0 c.loop-i.i (omega (arith, c.requires.n_bound, c.loop-i-test.true)) c.run_to-run.ensures in record { i_lt_end = all.0; types_bound = all.1 }

pub overflow_cast-result : goal.overflow_cast-result
overflow_cast-result c = omega arith

pub overflow_add-result : goal.overflow_add-result
overflow_add-result c = omega (arith, c.slot_place.ensures)

pub returns-then-k-lt4 : goal.returns-then-k-lt4
returns-then-k-lt4 c = let s = c.args in
    let h : Fits w8 c.byte_at.result = search rules in
    slot_refused s.configuration.now s.page.now s.n
    (ap (only (2 ∷ 1 ∷ [])) (sym c.byte_at.ensures) ∙ sym (mask 0xf9 (2 ∷ 1 ∷ []) refl c.byte_at.result h) ∙ eq-eqb _ 0 c.if-byte_at-ne0.false)
    c.loop-i.i c.loop-i-test.true
    c.loop-i.invariant.2
    (slot_offends s.configuration.now s.page.now c.loop-i.i (slot_walked s.configuration.now c.loop-i.i c.run_to-run.ensures c.slot_in-at.ensures) c.slot_offending-k.ensures)
    c.if-k-lt4.true c.slot_place.ensures

pub loop-i-preserved : goal.loop-i-preserved
loop-i-preserved c = let q = c.args in
    let s = q.configuration.now in
    let p = q.page.now in
    let l = c.loop-i in
    let r = c.run_to-run.ensures in
    let slot = slot_walked s l.i r c.slot_in-at.ensures in
    let none = rw (slot_offends s p l.i slot c.slot_offending-k.ensures) at c.if-k-lt4.false in
    (omega arith, walk_on s l.i r, below_next (fails (refused_in (slot_offending s p))) l.i l.invariant.2 (ap not (le-ltb (slot_offending s p l.i) 4 none)))

pub returns : goal.returns
returns c = let s = c.args in
    let b = c.byte_at in
    let h : Fits w8 b.result = search rules in
    let l = c.loop-i in
    let e : l.i ≡ s.n = omega arith in
    none_refused s.configuration.now s.page.now s.n
    (ap (only (2 ∷ 1 ∷ [])) (sym b.ensures) ∙ sym (mask 0xf9 (2 ∷ 1 ∷ []) refl b.result h) ∙ eq-eqb _ 0 c.if-byte_at-ne0.false)
    (rw e at l.invariant.2) c.slot_place-2.ensures
