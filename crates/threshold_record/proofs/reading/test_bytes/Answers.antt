use mathlib.Core.Path.{ap, ◌∙◌}
use Prim.Native.Nat.{ℕ}
use native.Mathlib.Omega.{arith}
use Rattle.refusals.specs.Outcomes.{offence_tested}
use Rattle.page.specs.Slots.{slot_place}
use Rattle.threshold_rows.specs.Rows.{on_page, offence, limits_tested, slots_tested}
use Rattle.threshold_rows.proofs.FirstOffence.{found}
use Rattle.threshold_rows.proofs.ByteTests.{byte_refused, byte_passed}
use Rattle.threshold_record.specs.Read.{bytes_tested}
use Rattle.threshold_record.proofs.reading.test_bytes.Goals as goal

pub returns-in_default : goal.returns-in_default
unfolding bytes_tested
returns-in_default c = let s = c.args in
    let p = s.page.now in
    let f = s.configuration.now in
    byte_refused p (offence f p on_page s.n) (slot_place s.n) (λ e. omega (arith, e)) (limits_tested f p on_page s.n)
    c.test_byte-byte.ensures c.in_default.is
    ∙ ap (λ (k : ℕ). offence_tested k (slot_place s.n) (limits_tested f p on_page s.n)) (found f p s.n)

pub returns : goal.returns
unfolding bytes_tested slots_tested
returns c = let s = c.args in
    let p = s.page.now in
    let f = s.configuration.now in
    byte_passed p (offence f p on_page s.n) (slot_place s.n) (λ e. omega (arith, e)) (limits_tested f p on_page s.n)
    c.test_byte-byte.ensures c.in-Ok.is c.test_page.ensures
    ∙ ap (λ (k : ℕ). offence_tested k (slot_place s.n) (limits_tested f p on_page s.n)) (found f p s.n)
