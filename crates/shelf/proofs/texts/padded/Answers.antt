use mathlib.Core.Path.{◌∙◌}
use Rattle.bits.specs.Rows.{bytes_at}
use Rattle.bits.proofs.Rows.{length-bytes_at}
use Rattle.bits.proofs.RowsPut.{put_zeros}
use Rattle.shelf.specs.Limits.{most_text}
use Rattle.shelf.proofs.texts.padded.Goals as goal

pub returns : goal.returns
returns c = let p = c.args.from.now in
    let n = c.args.n in
    c.copy.ensures ∙ put_zeros (bytes_at p c.args.start n) n most_text (length-bytes_at p c.args.start n) c.requires.n_le_most_text
