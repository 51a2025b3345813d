use mathlib.Core.Path.{sym, ap, ◌∙◌}
use mathlib.Core.List.{List}
use Prim.Native.Nat.{ℕ}
use Rattle.bits.proofs.Logic.{pick_yes, pick_no}
use Rattle.element.specs.StatusLayout.{fit}
use Rattle.element.specs.Status.{most_shown, most_overall}
use Rattle.status_record.specs.Entries.{entry_at}
use Rattle.status_rewritten.proofs.entry_formed.Goals as goal

pub returns-then-at : goal.returns-then-at
returns-then-at c = let s = c.args in
    let o = s.at.overall in
    let k = s.at.kind in
    let x = entry_at s.fields.now s.i in
    c.overall_fits.ensures
    ∙ ap (λ (v : List ℕ). fit most_overall v 16) c.entry_at-x.ensures
    ∙ ap (λ (v : List ℕ). fit v x 16) (sym (pick_yes o most_overall (most_shown k) c.if-at.true))

pub returns-else-at : goal.returns-else-at
returns-else-at c = let s = c.args in
    let o = s.at.overall in
    let k = s.at.kind in
    let x = entry_at s.fields.now s.i in
    c.fits.ensures
    ∙ ap (λ (v : List ℕ). fit (most_shown k) v 16) c.entry_at-x.ensures
    ∙ ap (λ (v : List ℕ). fit v x 16) (sym (pick_no o most_overall (most_shown k) c.if-at.false))
