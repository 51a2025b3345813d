use Rattle.std.proofs.Common.{refl, sym, ◌∙◌, arith}
use Rattle.bits.proofs.Logic.{pick_yes, pick_no}
use Rattle.build_page.specs.Promise.{may_be}
use Rattle.build_page.proofs.Loops.{formed_at}
use Rattle.build_page.proofs.testing.test_records.Goals as goal

pub all_hold-formed-requires : goal.all_hold-formed-requires
all_hold-formed-requires c = record { n_in_bounds = c.requires.n_in_bounds; takes = λ j l. omega (arith, c.requires.n_in_bounds_2, l) }

pub returns-then-not-formed : goal.returns-then-not-formed
returns-then-not-formed c = let s = c.args.shelf.now in
    let w = c.args.wanted.now in
    sym (pick_no _ _ _ (sym (c.all_hold-formed.ensures (may_be s w) (λ j l b h. h.1 ∙ sym (formed_at s w j refl refl refl))) ∙ c.if-not-formed.true))

pub returns : goal.returns
returns c = let s = c.args.shelf.now in
    let w = c.args.wanted.now in
    sym (pick_yes _ _ _ (sym (c.all_hold-formed.ensures (may_be s w) (λ j l b h. h.1 ∙ sym (formed_at s w j refl refl refl))) ∙ c.if-not-formed.false))
