use mathlib.Core.Path.{sym, ◌∙◌}
use native.Mathlib.Omega.{arith}
use Rattle.names.proofs.NameBack.{name_bound}
use Rattle.descriptor_record.proofs.RewrittenTests.{name_told, size_told, no_size}
use Rattle.descriptor_record.proofs.rewriting.entry_size.Goals as goal

pub is_ended-requires : goal.is_ended-requires
is_ended-requires c = record { i_bound = c.requires; n_value = name_told c.args.fields.now c.args.i c.name_at.ensures c.length_at-n.ensures }

pub overflow_add-result : goal.overflow_add-result
overflow_add-result c = let s = c.args in
    record { fits = omega (arith, c.length_at-n.ensures, name_bound s.fields.now c.name_at.result) }

pub returns-then-is_ended : goal.returns-then-is_ended
returns-then-is_ended c = let s = c.args in
    size_told s.fields.now s.i c.name_at.ensures c.length_at-n.ensures (sym c.is_ended.ensures ∙ c.if-is_ended.true)

pub returns-else-is_ended : goal.returns-else-is_ended
returns-else-is_ended c = let s = c.args in no_size s.fields.now s.i (sym c.is_ended.ensures ∙ c.if-is_ended.false)
