use Rattle.std.proofs.Common.{refl, sym, ◌<◌, ◌∙◌, arith}
use Rattle.shelf.specs.Types.{elements_of}
use Rattle.shelf_formed.proofs.ElementPut.{length-formed}
use Rattle.page.proofs.ElementSlots.{front_there, element_there}
use Rattle.threshold_page_out.specs.Tests.{element_ordered}
use Rattle.threshold_page_out.proofs.Tests.{order_refused, each_ordered}
use Rattle.threshold_page_out.proofs.testing.test_order.Goals as goal

pub all_elements-n-requires : goal.all_elements-n-requires
all_elements-n-requires c = (front_there c.args.shelf.now c.args.page.now c.requires).1

pub all_hold-ordered-requires : goal.all_hold-ordered-requires
all_hold-ordered-requires c = let s = c.args.shelf.now in
    record {
      n_in_bounds = omega (arith, c.all_elements-n.ensures, length-formed s c.requires.0);
      takes = λ j l.
          let h : j < elements_of s = omega (arith, c.all_elements-n.ensures, l) in
          let r = element_there s c.args.page.now c.requires s refl refl j h in
          (r.0, (r.1, refl));
    }

pub returns-then-not-ordered : goal.returns-then-not-ordered
returns-then-not-ordered c = let s = c.args in
    let told = c.all_hold-ordered.ensures (element_ordered s.shelf.now s.page.now) (λ j l b h. h.1) in
    order_refused s.shelf.now s.page.now c.all_elements-n.result c.all_elements-n.ensures (sym told ∙ c.if-not-ordered.true)

pub returns : goal.returns
returns c = let s = c.args in
    let told = c.all_hold-ordered.ensures (element_ordered s.shelf.now s.page.now) (λ j l b h. h.1) in
    each_ordered s.shelf.now s.page.now c.all_elements-n.result c.all_elements-n.ensures (sym told ∙ c.if-not-ordered.false)
