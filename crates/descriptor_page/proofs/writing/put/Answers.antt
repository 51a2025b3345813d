use native.Mathlib.Omega.{arith}
use Rattle.names.specs.Name.{name_in}
use Rattle.descriptor_page.proofs.PagePlaced.{page_behind, page_placed}
use Rattle.descriptor_page.proofs.writing.put.Goals as goal

pub put_of-requires : goal.put_of-requires
put_of-requires c = let l = page_behind (name_in c.args.names.now c.args.first) c.args.n in
    record { has_types = c.requires.has_types; in_bounds = omega (arith, c.requires.bytes_value, c.requires.bytes_in_bounds, l); le_bytes = omega (arith, c.requires.bytes_value, l) }

pub returns : goal.returns
returns c = let f = name_in c.args.names.now c.args.first in
    page_placed c.args.configuration.now f c.args.n c.args.out.now c.requires.bytes_value c.requires.bytes_in_bounds
    c.put_of.ensures c.put_descriptors.ensures
