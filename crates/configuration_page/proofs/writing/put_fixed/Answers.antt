use Rattle.configuration_page.proofs.PartsPut.{fixed_placed}
use Rattle.configuration_page.proofs.writing.put_fixed.Goals as goal

pub returns : goal.returns
returns c = fixed_placed c.args.front.now c.args.n c.args.out.now c.requires.header_place_in_bounds
    c.byte_at.ensures
    c.four_of-said.ensures
    c.put_four.ensures
    c.four_at.ensures
    c.put_four-2.ensures
    c.put_four-3.ensures c.copy.ensures
