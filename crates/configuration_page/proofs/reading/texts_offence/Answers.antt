use mathlib.Core.Path.{◌≡◌, sym, ap, ◌∙◌}
use mathlib.Core.Bool.{not}
use native.Mathlib.Omega.{arith}
use Rattle.bits.proofs.Logic.{fails, below_next}
use Rattle.configuration_page.specs.Read.{text_offends, offends}
use Rattle.configuration_page.proofs.Refusals.{text_at}
use Rattle.bits.proofs.Found.{found_at, found_none}
use Rattle.configuration_page.proofs.FirstOffence.{none_yet}
use Rattle.configuration_page.proofs.reading.texts_offence.Goals as goal

pub loop-k-init : goal.loop-k-init
loop-k-init c = (omega arith, omega arith, none_yet c.args.page.now c.args.from c.requires.none_before)

pub returns-then-text_offends : goal.returns-then-text_offends
returns-then-text_offends c = let l = c.loop-k in
    found_at (offends c.args.page.now) c.args.n l.k c.loop-k-test.true l.invariant.2
    (text_at c.args.page.now l.k (omega arith) ∙ ap text_offends (sym c.byte_at.ensures) ∙ sym c.text_offends.ensures ∙ c.if-text_offends.true)

pub loop-k-preserved : goal.loop-k-preserved
loop-k-preserved c = let l = c.loop-k in
    let m = c.loop-k-test.true in (
      omega arith,
      omega arith,
      below_next (fails (offends c.args.page.now)) l.k l.invariant.2 (ap not (text_at c.args.page.now l.k (omega arith) ∙ ap text_offends (sym c.byte_at.ensures) ∙ sym c.text_offends.ensures ∙ c.if-text_offends.false)),
    )

pub returns : goal.returns
returns c = let l = c.loop-k in let e : l.k ≡ c.args.n = omega arith in found_none (offends c.args.page.now) c.args.n (rw e at l.invariant.2)
