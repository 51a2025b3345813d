use native.Mathlib.Omega.{arith}
use Rattle.shelf_formed.proofs.FormedShelf.{few_types}
use Rattle.configuration_page.proofs.PartsPut.{headers_first, page_placed}
use Rattle.configuration_page.proofs.writing.put.Goals as goal

pub overflow_sub-bytes : goal.overflow_sub-bytes
overflow_sub-bytes c = omega (arith, headers_first c.args.front.now c.requires.bytes_value)

pub put_fixed-requires : goal.put_fixed-requires
put_fixed-requires c = let s = c.args in
    record { has_types = c.requires.has_front.1; header_place_in_bounds = omega (arith, c.requires.bytes_in_bounds, headers_first s.front.now c.requires.bytes_value) }

pub put_headers-requires : goal.put_headers-requires
put_headers-requires c = let s = c.args in
    let n = c.count-n.ensures in
    let h = headers_first s.front.now c.requires.bytes_value in
    record { has_types = c.requires.has_front.1; n_le_most_types = omega (arith, n, few_types s.front.now c.requires.has_front.0); n_in_bounds = omega (arith, n, h, c.requires.bytes_in_bounds) }

pub returns : goal.returns
returns c = let s = c.args in
    page_placed s.front.now s.out.now c.requires.bytes_value c.requires.bytes_in_bounds
    c.count-n.ensures
    c.put_fixed.ensures
    c.put_headers.ensures c.put_texts.ensures
