-- What the search for the first offending byte comes to. Assumes nothing.
use Rattle.std.specs.Prelude.{Some, None, Ok}
use mathlib.Core.Path.{◌≡◌, refl, sym, ap, ◌∙◌}
use mathlib.Core.Bool.{Bool}
use Prim.Native.Nat.{ℕ}
use native.Mathlib.Omega.{arith}
use Rattle.bits.specs.Choice.{first_below}
use Rattle.bits.specs.Found.{found_below}
use Rattle.bits.proofs.Found.{found_first, none_first}
use Rattle.refusals.specs.Outcomes.{not_allowed_at, offence_tested}
use Rattle.refusals.specs.Answers.{PageAnswer}
use Rattle.refusals.proofs.Stages.{offended, none_offended}

module _ (f : ℕ → Bool) (n : ℕ) where
  pub offence_found : {k : ℕ} {b : PageAnswer} → Some k ≡ found_below f n → b ≡ not_allowed_at k → b ≡ offence_tested (first_below f n) n (Ok tt)
  offence_found e q =
      let h = found_first f n e in
      offended (first_below f n) n (Ok tt) (λ z. omega (arith, h.0, h.1)) (q ∙ ap not_allowed_at (sym h.0))

  pub no_offence : {b : PageAnswer} → None ≡ found_below f n → b ≡ Ok tt → b ≡ offence_tested (first_below f n) n (Ok tt)
  no_offence e q = none_offended (first_below f n) n (Ok tt) (none_first f n e) refl q
