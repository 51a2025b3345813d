use mathlib.Core.Path.{sym, ◌∙◌}
use native.Mathlib.Omega.{arith}
use Rattle.shelf_formed.proofs.Opening.{formed_sizes}
use Rattle.names.proofs.NameSearch.{not_a_shelf, too_long, search_done}
use Rattle.names.proofs.finding.find.Goals as goal

pub returns-in_default : goal.returns-in_default
returns-in_default c = let s = c.args in
    not_a_shelf s.shelf.now s.text.now (sym c.open_shelf-opened.ensures ∙ c.in_default.is)

pub returns-then-text : goal.returns-then-text
returns-then-text c = let s = c.args in
    let z = formed_sizes s.shelf.now (sym c.open_shelf-opened.ensures ∙ c.in-Some.is) in
    too_long s.shelf.now s.text.now z.0 (omega arith)

pub first_named-requires : goal.first_named-requires
first_named-requires c = let s = c.args in
    let z = formed_sizes s.shelf.now (sym c.open_shelf-opened.ensures ∙ c.in-Some.is) in
    record { shelf_value = z.0; types_value = z.1; elements_value = z.2; text_len_bound = omega arith }

pub returns : goal.returns
returns c = let s = c.args in
    let z =
    formed_sizes s.shelf.now (sym c.open_shelf-opened.ensures ∙ c.in-Some.is) in
    search_done s.shelf.now s.text.now z.0 c.first_named.ensures z.2 c.found_at.ensures
