use Rattle.std.proofs.Common.{refl, sym, ◌∙◌, arith}
use Rattle.bits.proofs.Logic.{pick_yes, pick_no}
use Rattle.build_page.specs.Page.{reachable}
use Rattle.build_page.proofs.testing.test_reach.Goals as goal

pub all_hold-reached-requires : goal.all_hold-reached-requires
all_hold-reached-requires c = record {
  n_in_bounds = c.requires.n_in_bounds;
  takes = λ j l. (omega (arith, c.requires.n_in_bounds, l), (omega (arith, c.requires.n_in_bounds_2, l), refl));
}

pub returns-then-not-reached : goal.returns-then-not-reached
returns-then-not-reached c = let s = c.args in
    sym (pick_no _ _ _ (sym (c.all_hold-reached.ensures (reachable s.shelf.now s.wanted.now) (λ j l b h. h.1)) ∙ c.if-not-reached.true))

pub returns : goal.returns
returns c = let s = c.args in
    sym (pick_yes _ _ _ (sym (c.all_hold-reached.ensures (reachable s.shelf.now s.wanted.now) (λ j l b h. h.1)) ∙ c.if-not-reached.false))
