use mathlib.Core.Path.{◌∙◌}
use native.Mathlib.Omega.{arith}
use Rattle.std.specs.Prelude.{Ok}
use Rattle.refusals.specs.Outcomes.{unless}
use Rattle.refusals.specs.declared.Refusal.TheVariants.{NotAllowed}
use Rattle.page.proofs.SlotsTested.{all_tested}
use Rattle.status_rewritten.specs.Rewritten.{entry_formed, entries_formed}
use Rattle.status_rewritten.proofs.test_fields.Goals as goal

pub test_slots-requires : goal.test_slots-requires
test_slots-requires c = record { has_front = c.requires.has_front; n_bound = c.requires.n_bound; takes = λ i l. omega (arith, l, c.requires.n_in_bounds) }

pub returns : goal.returns
unfolding entries_formed entry_formed
returns c =
    let k = c.args.configuration.now in
    let r = c.args.fields.now in
    c.test_slots.ensures (λ i. unless (entry_formed k r i) NotAllowed (Ok tt)) (λ i l x h. h.1)
    ∙ all_tested (entry_formed k r) NotAllowed c.args.n
