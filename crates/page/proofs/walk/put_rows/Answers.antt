use Rattle.std.proofs.Common.{refl, ap, ◌≡◌, ◌∙◌, arith}
use Rattle.bits.proofs.FoursPut.{fours_next}
use Rattle.page.specs.Slots.{slot_place, slots_put}
use Rattle.page.proofs.SlotWalk.{walk_on, run_stands, slot_walked}
use Rattle.page.proofs.walk.put_rows.Goals as goal

pub loop-i-init : goal.loop-i-init
loop-i-init g c = record { walked = c.first_run-run.ensures; put = λ f h. refl }

pub run_to-run-requires-clause-run_value : goal.run_to-run-requires-clause-run_value
run_to-run-requires-clause-run_value g c = c.loop-i.invariant.walked

pub slot_in-requires : goal.slot_in-requires
slot_in-requires g c =
    let all = run_stands c.args.configuration.now c.requires.has_front.0 c.loop-i.i (omega (arith, c.requires.n_bound, c.loop-i-test.true)) c.run_to-run.ensures in
    record { i_lt_end = all.0; types_bound = all.1 }

pub row-e-requires : goal.row-e-requires
row-e-requires g c =
    let at = slot_walked c.args.configuration.now c.loop-i.i c.run_to-run.ensures c.slot_in.ensures in
    rw at (c.requires.takes c.loop-i.i c.loop-i-test.true)

pub loop-i-preserved : goal.loop-i-preserved
loop-i-preserved g c =
    let s = c.args.configuration.now in
    let l = c.loop-i in
    let r = c.run_to-run.ensures in
    let at = slot_walked s l.i r c.slot_in.ensures in
    record {
      walked = walk_on s l.i r;
      put = λ f h.
          fours_next slot_place f c.args.out.now l.i (l.invariant.put f h) c.slot_place.ensures
          (h l.i c.loop-i-test.true _ (rw at at c.row-e.ensures)) c.put_four.ensures;
    }

pub returns : goal.returns
returns g c = λ f h.
    let e : c.loop-i.i ≡ c.args.n = omega arith in
    c.loop-i.invariant.put f h ∙ ap (slots_put f c.args.out.now) e
