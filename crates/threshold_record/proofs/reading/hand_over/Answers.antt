use native.Mathlib.Omega.{arith}
use Rattle.threshold_record.proofs.Refusals.{read_front, page_there, entries_there, record_placed}
use Rattle.threshold_record.proofs.reading.hand_over.Goals as goal

pub count-n-requires : goal.count-n-requires
count-n-requires c = let s = c.args in (read_front s.configuration.now s.page.now c.requires).1

pub copy-requires : goal.copy-requires
copy-requires c = let s = c.args in
    let e = c.count-n.ensures in
    let l = entries_there s.configuration.now s.page.now c.requires e s.fields.now (omega arith) in
    record { n_in_bounds = omega (arith, page_there s.configuration.now s.page.now c.requires e); n_in_bounds_2 = omega (arith, l) }

pub returns : goal.returns
returns c = let s = c.args in
    let e = c.count-n.ensures in
    let l = entries_there s.configuration.now s.page.now c.requires e
    s.fields.now (omega arith) in
    record_placed s.configuration.now s.page.now s.fields.now e l c.put.ensures c.copy.ensures
