use mathlib.Core.Path.{◌≡◌, refl, ap, ◌∙◌}
use native.Mathlib.Omega.{arith}
use Rattle.shelf_formed.proofs.ElementPut.{room}
use Rattle.shelf_formed.proofs.ElementPut.{shelf_there}
use Rattle.shelf.proofs.TypeRuns.{run_kind, run_on}
use Rattle.shelf_status.specs.ShelfStatus.{page_bits}
use Rattle.shelf_status.proofs.WorstCode.{bits_seen, seen_next}
use Rattle.shelf_status.proofs.PageBits.of.Goals as goal

pub all_elements-n-requires : goal.all_elements-n-requires
all_elements-n-requires c = (shelf_there c.args.shelf.now c.requires).1

pub first_run-run-requires : goal.first_run-run-requires
first_run-run-requires c = (shelf_there c.args.shelf.now c.requires).1

pub loop-j-init : goal.loop-j-init
loop-j-init c = (omega arith, refl, c.first_run-run.ensures)

pub run_to-run-requires : goal.run_to-run-requires
run_to-run-requires c = let l = c.loop-j in record { has_element = room c.args.shelf.now l.j c.requires (omega (arith, c.all_elements-n.ensures, c.loop-j-test.true)); run_value = l.invariant.2 }

pub code_at-requires : goal.code_at-requires
code_at-requires c = room c.args.shelf.now c.loop-j.j c.requires (omega (arith, c.all_elements-n.ensures, c.loop-j-test.true))

pub loop-j-preserved : goal.loop-j-preserved
loop-j-preserved c = let s = c.args.shelf.now in
    let l = c.loop-j in
    let r = c.run_to-run.ensures in
    (omega arith, seen_next s l.j l.invariant.1 (run_kind s l.j r) c.code_at.ensures c.with-seen.ensures, run_on s l.j r)

pub returns : goal.returns
unfolding page_bits
returns c = let s = c.args.shelf.now in
    let l = c.loop-j in
    let e : l.j ≡ c.all_elements-n.result = omega arith in
    l.invariant.1 ∙ ap (bits_seen s) (e ∙ c.all_elements-n.ensures)
