use mathlib.Core.Path.{refl}
use Prim.Native.Nat.{◌<◌}
use native.Mathlib.Omega.{arith}
use Rattle.shelf.proofs.TypeRuns.{run_small}
use Rattle.shelf.specs.Types.{elements_of}
use Rattle.shelf_formed.proofs.ElementPut.{length-formed}
use Rattle.page.proofs.SlotWalk.{places_run, run_there, run_next}
use Rattle.threshold_page_out.proofs.PageActs.{after_is, act_next, same_front, act_room, partly_length, all_acted}
use Rattle.threshold_page_out.proofs.acting.act.Goals as goal

pub all_elements-n-requires : goal.all_elements-n-requires
all_elements-n-requires c = omega (arith, length-formed c.args.shelf.now c.requires.0)

pub first_run-run-requires : goal.first_run-run-requires
first_run-run-requires c = omega (arith, length-formed c.args.shelf.now c.requires.0)

pub loop-j-init : goal.loop-j-init
loop-j-init c = (omega arith, refl, c.first_run-run.ensures)

pub run_to-run-requires : goal.run_to-run-requires
run_to-run-requires c = let s = c.args in
    let l = c.loop-j in
    let h : l.j < elements_of s.shelf.now = omega
    (arith, c.all_elements-n.ensures, c.loop-j-test.true) in record { has_element = (act_room s.shelf.now s.page.now l.j l.invariant.1 c.requires h).0; run_value = run_there s.shelf.now l.shelf (same_front s.shelf.now s.page.now l.j l.invariant.1) l.j h l.invariant.2 }

pub places_in-requires : goal.places_in-requires
places_in-requires c = let l = c.loop-j in run_small l.shelf l.j c.run_to-run.ensures

pub taken_at-t-requires : goal.taken_at-t-requires
taken_at-t-requires c = let s = c.args in
    let l = c.loop-j in
    let e = places_run l.shelf l.j c.run_to-run.ensures c.places_in.ensures in
    let h : l.j < elements_of s.shelf.now = omega
    (arith, c.all_elements-n.ensures, c.loop-j-test.true)
    in
    let r = act_room s.shelf.now s.page.now l.j l.invariant.1 c.requires h in
    record { has_element = r.0; has_slots = rw e r.1 }

pub put_thresholds-requires : goal.put_thresholds-requires
put_thresholds-requires c = let s = c.args in
    let l = c.loop-j in
    let h : l.j < elements_of s.shelf.now = omega
    (arith, c.all_elements-n.ensures, c.loop-j-test.true)
    in
    (act_room s.shelf.now s.page.now l.j l.invariant.1 c.requires h).0

pub loop-j-preserved : goal.loop-j-preserved
loop-j-preserved c = let s = c.args in
    let l = c.loop-j in
    let h : l.j < elements_of s.shelf.now = omega
    (arith, c.all_elements-n.ensures, c.loop-j-test.true)
    in
    let r = c.run_to-run.ensures in (
      omega arith,
      act_next s.shelf.now s.page.now l.j h l.invariant.1 (after_is l.shelf s.page.now l.j (places_run l.shelf l.j r c.places_in.ensures) c.taken_at-t.ensures) c.put_thresholds.ensures,
      run_next s.shelf.now l.shelf (same_front s.shelf.now s.page.now l.j l.invariant.1) l.j h r,
    )

pub shape_of-shelf : goal.shape_of-shelf
shape_of-shelf c = let s = c.args in partly_length s.shelf.now s.page.now c.loop-j.j c.loop-j.invariant.1

pub returns : goal.returns
returns c = let s = c.args in
    let l = c.loop-j in
    all_acted s.shelf.now s.page.now l.j
    (omega (arith, c.all_elements-n.ensures, l.invariant.0, c.loop-j-test.false)) l.invariant.1
