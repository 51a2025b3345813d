use Rattle.threshold_page_in.proofs.Loops.{row_is}
use Rattle.threshold_page_in.proofs.writing.fn.put.row.Goals as goal

pub returns : goal.returns
returns c = row_is c.captures.shelf.now c.args.i c.requires.at_value c.threshold_row.ensures
