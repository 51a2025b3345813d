use Rattle.std.proofs.Common.{refl, sym, ap, ◌≡◌, ◌∙◌, arith}
use Rattle.page.specs.Walk.{first_refusal}
use Rattle.page.proofs.SlotWalk.{walk_on, run_stands, slot_walked}
use Rattle.page.proofs.SlotsTested.{passed_next, refused_there}
use Rattle.page.proofs.walk.test_slots.Goals as goal

pub loop-i-init : goal.loop-i-init
loop-i-init g c = record { walked = c.first_run-run.ensures; passed = λ f h. refl }

pub run_to-run-requires-clause-run_value : goal.run_to-run-requires-clause-run_value
run_to-run-requires-clause-run_value g c = c.loop-i.invariant.walked

pub slot_in-requires : goal.slot_in-requires
slot_in-requires g c =
    let all = run_stands c.args.configuration.now c.requires.has_front.0 c.loop-i.i (omega (arith, c.requires.n_bound, c.loop-i-test.true)) c.run_to-run.ensures in
    record { i_lt_end = all.0; types_bound = all.1 }

pub test-tested-requires : goal.test-tested-requires
test-tested-requires g c =
    let at = slot_walked c.args.configuration.now c.loop-i.i c.run_to-run.ensures c.slot_in.ensures in
    rw at (c.requires.takes c.loop-i.i c.loop-i-test.true)

pub returns-in_default : goal.returns-in_default
returns-in_default g c = λ f h.
    let s = c.args.configuration.now in
    let l = c.loop-i in
    let at = slot_walked s l.i c.run_to-run.ensures c.slot_in.ensures in
    let e = h l.i c.loop-i-test.true _ (rw at at c.test-tested.ensures) in
    c.in_default.is ∙ sym (refused_there f c.args.n l.i c.loop-i-test.true (l.invariant.passed f h) (sym e ∙ c.in_default.is))

pub loop-i-preserved : goal.loop-i-preserved
loop-i-preserved g c =
    let s = c.args.configuration.now in
    let l = c.loop-i in
    let r = c.run_to-run.ensures in
    let at = slot_walked s l.i r c.slot_in.ensures in
    record {
      walked = walk_on s l.i r;
      passed = λ f h. passed_next f l.i (l.invariant.passed f h) (sym (h l.i c.loop-i-test.true _ (rw at at c.test-tested.ensures)) ∙ c.in-Ok.is);
    }

pub returns : goal.returns
returns g c = λ f h.
    let e : c.loop-i.i ≡ c.args.n = omega arith in
    sym (sym (ap (first_refusal f) e) ∙ c.loop-i.invariant.passed f h)
