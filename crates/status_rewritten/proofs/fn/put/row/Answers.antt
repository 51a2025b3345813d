use mathlib.Core.Path.{ap, ◌∙◌}
use Rattle.status_page.specs.Page.{slot_bytes}
use Rattle.status_rewritten.proofs.fn.put.row.Goals as goal

pub returns : goal.returns
returns c = c.slot_bytes.ensures ∙ ap (slot_bytes c.args.at) c.entry_at.ensures
