use native.Mathlib.Omega.{arith}
use Rattle.page.proofs.SlotBounds.{slots_bound}
use Rattle.status_rewritten.proofs.Refusals.{other_count, other_bits, fields_last}
use Rattle.status_rewritten.proofs.test_entries.Goals as goal

pub returns-in_default : goal.returns-in_default
returns-in_default c = let s = c.args in
    other_count s.configuration.now s.fields.now s.n c.test_count-counted.ensures c.in_default.is

pub returns-in_default-flags : goal.returns-in_default-flags
returns-in_default-flags c = let s = c.args in
    other_bits s.configuration.now s.fields.now s.n c.test_count-counted.ensures c.in-Ok.is
    c.test_bits-flags.ensures c.in_default-flags.is

pub test_fields-requires : goal.test_fields-requires
test_fields-requires c = let b = slots_bound c.args.configuration.now c.requires.has_front.0 in
    record { has_front = c.requires.has_front; n_bound = omega (arith, c.requires.n_value); n_in_bounds = omega (arith, c.requires.n_value, b) }

pub returns : goal.returns
returns c = let s = c.args in
    fields_last s.configuration.now s.fields.now s.n c.test_count-counted.ensures c.in-Ok.is
    c.test_bits-flags.ensures c.in-Ok-flags.is c.test_fields.ensures
