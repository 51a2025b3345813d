use mathlib.Core.Path.{◌∙◌}
use Rattle.element.specs.Settings.{settings_of}
use Rattle.element.specs.Status.{status_bytes, shown_by}
use Rattle.shelf_status.specs.ShelfStatus.{shown_at}
use Rattle.shelf_status.proofs.status_at.Goals as goal

pub returns : goal.returns
unfolding shown_at
returns c = let k = c.args.kind in
    let e = c.settings_at-stored.ensures in
    let r = c.reading_at-reading.ensures in
    let n = c.nominal_at-nominal.ensures in
    let t = c.thresholds_at.ensures in
    c.status.ensures ∙ (λ i. status_bytes k (shown_by k (settings_of k (e i)) (r i) (n i) (t i)))
