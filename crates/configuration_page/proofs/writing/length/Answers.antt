use mathlib.Core.Path.{◌≡◌, sym, ◌∙◌}
use native.Mathlib.Omega.{arith}
use Rattle.shelf_formed.proofs.FormedShelf.{few_types}
use Rattle.configuration_page.specs.Page.{configuration_length}
use Rattle.bits.proofs.RowStarts.{start_first, start_next}
use Rattle.configuration_page.proofs.writing.length.Goals as goal

pub loop-t-init : goal.loop-t-init
loop-t-init c = (omega arith, omega arith, c.header_place-bytes.ensures ∙ rw c.count-n.ensures (sym (start_first _ _)))

pub text_length-requires : goal.text_length-requires
text_length-requires c = omega (arith, few_types c.args.front.now c.requires.0)

pub loop-t-preserved : goal.loop-t-preserved
loop-t-preserved c = let l = c.loop-t in (omega arith, omega arith, start_next _ _ l.t l.invariant.2 c.text_length.ensures)

pub returns : goal.returns
unfolding configuration_length
returns c = let e : c.loop-t.t ≡ c.count-n.result = omega arith in rw (e, c.count-n.ensures) at c.loop-t.invariant.2
