use native.Mathlib.Omega.{arith}
use mathlib.Core.Path.{refl}
use Rattle.page.proofs.ElementSlots.{front_there, slot_has}
use Rattle.page.proofs.HeaderTests.{head_length}
use Rattle.shelf_formed.proofs.ElementPut.{shelf_there}
use Rattle.threshold_page_in.proofs.Refusals.{shelf_placed}
use Rattle.threshold_page_in.specs.Page.{threshold_row}
use Rattle.threshold_page_in.proofs.writing.put.Goals as goal

pub put-requires : goal.put-requires
put-requires c = let s = c.args in record { has_types = (front_there s.shelf.now s.out.now c.requires.has_page).1; in_bounds = omega (arith, c.requires.has_page.1) }

pub put_rows-requires : goal.put_rows-requires
put_rows-requires c = let s = c.args in
    let l = head_length s.shelf.now s.out.now 0x05 0 s.n c.put.ensures in
    record {
      has_front = shelf_there s.shelf.now c.requires.has_page.0;
      n_bound = omega (arith, c.requires.n_value);
      n_in_bounds = omega (arith, c.requires.has_page.1, c.requires.n_value, l);
      takes = λ i l. (slot_has s.shelf.now c.requires.has_page.0 i (omega (arith, c.requires.n_value, l)) refl, refl);
    }

pub returns : goal.returns
returns c = let s = c.args in
    let e = c.requires.n_value in
    shelf_placed s.shelf.now e s.out.now
    (omega (arith, e, c.requires.has_page.1))
    c.put.ensures
    (c.put_rows.ensures (threshold_row s.shelf.now) (λ i l x h. h.1))
