use mathlib.Core.Path.{ap}
use Prim.Native.Nat.{ℕ, ◌+◌}
use Rattle.descriptor_record.proofs.Refusals.{name_put}
use Rattle.descriptor_record.proofs.reading.put_name.Goals as goal

pub returns : goal.returns
returns c = let d = c.declared_at-bytes.ensures in
    record { value = ap (λ (n : ℕ). 4 + n) d; fields_after = name_put c.args.page.now c.args.fields.now c.args.i c.requires.k_value c.requires.k_bound d c.padded-text.ensures c.name_at.ensures c.copy.ensures }
