use native.Mathlib.Omega.{arith}
use mathlib.Core.Path.{refl}
use Rattle.page.proofs.ElementSlots.{front_there, slot_has}
use Rattle.page.proofs.HeaderTests.{head_length}
use Rattle.shelf_formed.proofs.ElementPut.{shelf_there}
use Rattle.status_page.proofs.Refusals.{shelf_placed}
use Rattle.status_page.specs.Page.{slot_row, shown_in}
use Rattle.status_page.proofs.writing.put.Goals as goal

pub put-requires : goal.put-requires
put-requires c = let s = c.args in record { has_types = (front_there s.shelf.now s.out.now c.requires.has_page).1; in_bounds = omega (arith, c.requires.has_page.1) }

pub put_rows-requires-clause-has_front : goal.put_rows-requires-clause-has_front
put_rows-requires-clause-has_front c = shelf_there c.args.shelf.now c.requires.has_page.0

pub put_rows-requires-clause-n_bound : goal.put_rows-requires-clause-n_bound
put_rows-requires-clause-n_bound c = omega (arith, c.requires.n_value)

pub put_rows-requires-clause-n_in_bounds : goal.put_rows-requires-clause-n_in_bounds
put_rows-requires-clause-n_in_bounds c = let s = c.args in
    let l = head_length s.shelf.now s.out.now 0x02 _ s.n c.put.ensures in
    omega (arith, c.requires.has_page.1, c.requires.n_value, l)

pub put_rows-requires-clause-takes : goal.put_rows-requires-clause-takes
put_rows-requires-clause-takes c = λ i l. (slot_has c.args.shelf.now c.requires.has_page.0 i (omega (arith, c.requires.n_value, l)) refl, refl)

pub returns : goal.returns
returns c = let s = c.args in
    let e = c.requires.n_value in
    shelf_placed s.shelf.now e s.out.now
    (omega (arith, e, c.requires.has_page.1))
    c.of.ensures
    c.byte.ensures c.put.ensures
    (c.put_rows.ensures (slot_row s.shelf.now (shown_in s.shelf.now)) (λ i l x h. h.1))
