use Rattle.std.proofs.Common.{arith, Ok, ◌∙◌}
use Rattle.refusals.specs.Outcomes.{unless}
use Rattle.refusals.specs.declared.Refusal.TheVariants.{NoSuchThreshold}
use Rattle.page.proofs.SlotsTested.{all_tested}
use Rattle.threshold_rows.specs.Rows.{row_had, all_had}
use Rattle.threshold_rows.proofs.test_had.Goals as goal

pub test_slots-requires : goal.test_slots-requires
test_slots-requires c = record { has_front = c.requires.0; n_bound = c.requires.1; takes = λ i l. omega (arith, l, c.requires.2) }

pub returns : goal.returns
unfolding all_had row_had
returns c =
    let f = row_had c.args.configuration.now c.args.block.now c.args.start in
    c.test_slots.ensures (λ i. unless (f i) NoSuchThreshold (Ok tt)) (λ i l x h. h.1) ∙ all_tested f NoSuchThreshold c.args.n
