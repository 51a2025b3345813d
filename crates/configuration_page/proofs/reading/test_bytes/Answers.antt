use mathlib.Core.Path.{refl}
use native.Mathlib.Omega.{arith}
use Rattle.configuration_page.proofs.Refusals.{length-small, headers_there, bytes_found, bytes_passed}
use Rattle.configuration_page.proofs.reading.test_bytes.Goals as goal

pub overflow_cast-page : goal.overflow_cast-page
overflow_cast-page c = length-small c.args.page.now c.type_inv.page c.requires.page_value

pub first_offence-requires : goal.first_offence-requires
first_offence-requires c = record { page_bound = headers_there c.args.page.now c.requires.page_len; n_in_bounds = omega arith }

pub returns-in-Some : goal.returns-in-Some
returns-in-Some c = bytes_found c.args.page.now c.in-Some.ensures c.not_allowed.ensures

pub returns-in-None : goal.returns-in-None
returns-in-None c = bytes_passed c.args.page.now c.in-None.ensures refl
