use mathlib.Core.Path.{refl, sym}
use Rattle.refusals.proofs.Searches.{offence_found, no_offence}
use Rattle.descriptor_record.specs.Read.{place_on, offends}
use Rattle.descriptor_record.proofs.Refusals.{bytes_tested_lem}
use Rattle.descriptor_record.proofs.reading.test_bytes.Goals as goal

pub returns-in-Some : goal.returns-in-Some
returns-in-Some c = let p = c.args.page.now in
    let n = c.args.n in
    let l = c.requires.page_len in
    bytes_tested_lem p n l (sym l) refl (offence_found (offends p n) (place_on p n) c.in-Some.ensures c.not_allowed.ensures)

pub returns-in-None : goal.returns-in-None
returns-in-None c = let p = c.args.page.now in
    let n = c.args.n in
    let l = c.requires.page_len in
    bytes_tested_lem p n l (sym l) refl (no_offence (offends p n) (place_on p n) c.in-None.ensures refl)
