use Rattle.std.proofs.Common.{rules, ◌≤◌, refl, sym, length}
use Rattle.page.specs.Slots.{slot_place, slots_of}
use Rattle.refusals.proofs.Stages.{slots_told}
use Rattle.threshold_record.proofs.Refusals.{record_front, again_length}
use Rattle.threshold_record.specs.Rewritten.{record_tested, page_again}
use Rattle.threshold_record.proofs.rewriting.write.Goals as goal

pub write-requires : goal.write-requires
write-requires c = λ n u l o e.
    let s = c.args.configuration.now in
    let r = c.args.fields.now in
    let t = slots_told (record_tested s r) (slots_of s) c.slots_tested-counted.ensures u in
    let f = record_front s r refl t.0 in
    let k : slot_place n ≤ length o.now = rw e l in
    search (rules, f, t.1, k)

pub returns : goal.returns
returns c =
    let s = c.args.configuration.now in
    let r = c.args.fields.now in
    c.write.ensures (record_tested s r) (page_again s r) (slots_of s) c.slots_tested-counted.ensures (sym (again_length s r refl refl), λ q o p e z. let h = sym e in search rules)
