use Rattle.std.proofs.Common.{refl, sym, ◌≡◌, ◌∙◌, arith}
use Rattle.bits.proofs.Logic.{below_fails, below_next}
use Rattle.shelf.proofs.TypeRuns.{run_on}
use Rattle.shelf.proofs.walk.all_hold.Goals as goal

pub loop-j-init : goal.loop-j-init
loop-j-init g c = record { walked = c.first_run-run.ensures; held = λ f h. refl }

pub run_to-run-requires : goal.run_to-run-requires
run_to-run-requires g c = record { has_element = omega (arith, c.requires.n_in_bounds, c.loop-j-test.true); run_value = c.loop-j.invariant.walked }

pub holds-requires : goal.holds-requires
holds-requires g c = rw c.run_to-run.ensures (c.requires.takes c.loop-j.j c.loop-j-test.true)

pub returns-then-not-holds : goal.returns-then-not-holds
returns-then-not-holds g c = λ f h.
    let j = c.loop-j.j in
    let told = h j c.loop-j-test.true _ (rw c.run_to-run.ensures at c.holds.ensures) in
    sym (below_fails f c.args.n j c.loop-j-test.true (sym told ∙ c.if-not-holds.true))

pub loop-j-preserved : goal.loop-j-preserved
loop-j-preserved g c =
    let l = c.loop-j in
    record {
      walked = run_on c.args.shelf.now l.j c.run_to-run.ensures;
      held = λ f h.
          let told = h l.j c.loop-j-test.true _ (rw c.run_to-run.ensures at c.holds.ensures) in
          below_next f l.j (l.invariant.held f h) (sym told ∙ c.if-not-holds.false);
    }

pub returns : goal.returns
returns g c = λ f h. let e : c.loop-j.j ≡ c.args.n = omega arith in sym (rw e at c.loop-j.invariant.held f h)
