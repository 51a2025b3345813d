use Rattle.std.proofs.Common.{sym, ◌∙◌}
use Rattle.shelf_formed.proofs.ElementPut.{opened_there}
use Rattle.tool_shelf.proofs.settings.put.Goals as goal

pub put_records-requires-clause-n_in_shelf : goal.put_records-requires-clause-n_in_shelf
put_records-requires-clause-n_in_shelf c = (opened_there c.args.shelf.now (sym c.open_shelf-opened.ensures ∙ c.in-Some.is)).1
