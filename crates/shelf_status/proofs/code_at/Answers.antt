use mathlib.Core.Path.{ap, ◌∙◌}
use mathlib.Core.List.{List}
use Prim.Native.Nat.{ℕ, ◌%◌}
use lib.ListN.{get_or}
use Rattle.element.specs.Settings.{settings_of}
use Rattle.element.proofs.TypeStatus.{code_shown}
use Rattle.shelf.specs.Elements.{settings_at, thresholds_at, reading_at, nominal_at}
use Rattle.shelf_status.specs.ShelfStatus.{verdict_at, code_at, shown_at}
use Rattle.shelf_status.proofs.code_at.Goals as goal

pub returns : goal.returns
unfolding code_at verdict_at shown_at
returns c = let a = c.args in
    let s = a.shelf.now in
    let k = a.kind in
    let j = a.j in
    ap (λ (e : List ℕ). get_or e 0 0 % 16) c.status_at-e.ensures
    ∙ code_shown k (settings_of k (settings_at s j)) (reading_at s j) (nominal_at s j) (thresholds_at s j)
