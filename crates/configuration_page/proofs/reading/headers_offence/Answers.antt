use mathlib.Core.Path.{◌≡◌, sym}
use Prim.Native.Nat.{◌<◌}
use native.Mathlib.Omega.{arith}
use Rattle.configuration_page.specs.Page.{header_place}
use Rattle.configuration_page.proofs.Loops.{total_none}
use Rattle.configuration_page.specs.Read.{offends}
use Rattle.bits.proofs.Found.{found_none}
use Rattle.configuration_page.proofs.FirstOffence.{none_yet, header_refused, header_passed}
use Rattle.configuration_page.proofs.reading.headers_offence.Goals as goal

pub loop-t-init : goal.loop-t-init
loop-t-init c = (omega arith, omega arith, sym (total_none _), none_yet c.args.page.now (header_place 0) c.requires.none_before)

pub returns-then-k-lt4 : goal.returns-then-k-lt4
returns-then-k-lt4 c = let l = c.loop-t in
    header_refused c.args.page.now l.t
    (let m : l.t < c.args.n = c.loop-t-test.true in omega arith)
    c.header_on-e.ensures l.invariant.2 c.is_served.ensures
    c.first_of-k.ensures l.invariant.3 c.if-k-lt4.true c.header_place.ensures c.requires.n_value

pub loop-t-preserved : goal.loop-t-preserved
loop-t-preserved c = let l = c.loop-t in
    let m = c.loop-t-test.true in
    let n = header_passed c.args.page.now l.t
    (let m : l.t < c.args.n = c.loop-t-test.true in omega arith) c.header_on-e.ensures
    l.invariant.2 c.is_served.ensures c.first_of-k.ensures l.invariant.3 c.if-k-lt4.false in
    (omega arith, n.0, n.1, n.2)

pub returns : goal.returns
returns c = let l = c.loop-t in
    let m = c.loop-t-test.false in
    let e : l.t ≡ c.args.n = omega arith in
    found_none (offends c.args.page.now) (header_place c.args.n) (rw e at l.invariant.3)
