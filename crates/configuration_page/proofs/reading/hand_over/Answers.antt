use native.Mathlib.Omega.{arith}
use Rattle.configuration_page.proofs.AcceptedPage.{headers_in}
use Rattle.configuration_page.proofs.PartsPut.{record_placed}
use Rattle.configuration_page.proofs.reading.hand_over.Goals as goal

pub byte_at-requires : goal.byte_at-requires
byte_at-requires c = omega (arith, headers_in c.args.page.now c.requires.page_value)

pub four_at-requires : goal.four_at-requires
four_at-requires c = omega (arith, headers_in c.args.page.now c.requires.page_value)

pub copy-requires : goal.copy-requires
copy-requires c = let h = headers_in c.args.page.now c.requires.page_value in record { n_in_bounds = omega arith; n_in_bounds_2 = omega arith }

pub returns : goal.returns
returns c = record_placed c.args.page.now c.args.configuration.now (omega (arith, c.requires.configuration_len))
    c.byte_at.ensures
    c.four_at.ensures
    c.put_four.ensures
    c.copy.ensures
    c.put_four-2.ensures c.put_types.ensures
