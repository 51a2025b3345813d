use native.Mathlib.Omega.{arith}
use Rattle.status_reading.proofs.Refusals.{read_front, page_there, entries_there, record_placed}
use Rattle.status_reading.proofs.reading.hand_over.Goals as goal

pub count-n-requires : goal.count-n-requires
count-n-requires c = let s = c.args in (read_front s.configuration.now s.page.now c.requires).1

pub bits_on-requires : goal.bits_on-requires
bits_on-requires c = let s = c.args in
    omega (arith, page_there s.configuration.now s.page.now c.requires c.count-n.ensures)

pub put_entries-requires : goal.put_entries-requires
put_entries-requires c = let s = c.args in
    let e = c.count-n.ensures in
    let l = entries_there s.configuration.now s.page.now c.requires e s.fields.now (omega arith) in record { has_front = read_front s.configuration.now s.page.now c.requires; n_bound = omega (arith, e); n_in_bounds = page_there s.configuration.now s.page.now c.requires e; n_in_bounds_2 = omega (arith, l) }

pub returns : goal.returns
returns c = let s = c.args in
    let e = c.count-n.ensures in
    let l = entries_there s.configuration.now s.page.now c.requires e
    s.fields.now (omega arith) in
    record_placed s.configuration.now s.page.now s.fields.now e l c.bits_on.ensures
    c.put_head.ensures c.put_entries.ensures
