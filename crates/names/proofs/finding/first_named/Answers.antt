use mathlib.Core.Path.{refl, sym}
use native.Mathlib.Omega.{arith}
use Rattle.shelf.proofs.ElementsBefore.{before_none}
use Rattle.names.proofs.NameSearch.{type_room, type_ended, few_searched, names_room, found_here, not_here, found_none}
use Rattle.names.proofs.finding.first_named.Goals as goal

pub search-init : goal.search-init
search-init c = (omega arith, sym (before_none _), refl)

pub elements_of-requires : goal.elements_of-requires
elements_of-requires c = type_room c.args.shelf.now c.args.text.now c.requires.shelf_value c.requires.types_value c.search.t c.search-test.true

pub overflow_add-end : goal.overflow_add-end
overflow_add-end c = let o = c.search in
    omega (arith, few_searched c.args.shelf.now c.args.text.now c.requires.shelf_value c.requires.types_value o.t c.search-test.true o.invariant.1 c.elements_of.ensures)

pub overflow_add-j : goal.overflow_add-j
overflow_add-j c = let o = c.search in
    omega (arith, few_searched c.args.shelf.now c.args.text.now c.requires.shelf_value c.requires.types_value o.t c.search-test.true o.invariant.1 c.elements_of.ensures)

pub overflow_add-j-in-loop-j : goal.overflow_add-j-in-loop-j
overflow_add-j-in-loop-j c = let o = c.search in
    omega (arith, few_searched c.args.shelf.now c.args.text.now c.requires.shelf_value c.requires.types_value o.t c.search-test.true o.invariant.1 c.elements_of.ensures)

pub equals-requires : goal.equals-requires
equals-requires c = let o = c.search in
    let l =
    names_room c.args.shelf.now c.args.text.now c.requires.shelf_value c.requires.types_value o.t c.search-test.true o.invariant.1 c.elements_of.ensures c.requires.elements_value in
    record { most_text_in_bounds = omega (arith, l, c.name_place.ensures, c.loop-j-test.true); text_len_bound = c.requires.text_len_bound }

pub overflow_add-j-in-loop-j-2 : goal.overflow_add-j-in-loop-j-2
overflow_add-j-in-loop-j-2 c = let o = c.search in
    omega (arith, few_searched c.args.shelf.now c.args.text.now c.requires.shelf_value c.requires.types_value o.t c.search-test.true o.invariant.1 c.elements_of.ensures)

pub loop-j-preserved : goal.loop-j-preserved
loop-j-preserved c = let o = c.search in
    let i = c.loop-j in
    (omega arith, omega (arith, c.loop-j-test.true), not_here c.args.shelf.now c.args.text.now c.requires.shelf_value c.requires.types_value o.t c.search-test.true o.invariant.1 c.elements_of.ensures i.j i.invariant.0 c.loop-j-test.true c.requires.elements_value c.name_place.ensures c.equals.ensures i.invariant.2 c.if-equals.false)

pub search-preserved : goal.search-preserved
search-preserved c = let o = c.search in
    let i = c.loop-j in
    let e = type_ended c.args.shelf.now c.args.text.now c.requires.shelf_value c.requires.types_value o.t c.search-test.true o.invariant.1 c.elements_of.ensures in
    (omega arith, omega (arith, e, i.invariant.1, c.loop-j-test.false), i.invariant.2)

pub returns-after-search : goal.returns-after-search
returns-after-search c = let o = c.search in
    found_none c.args.shelf.now c.args.text.now c.requires.shelf_value (omega (arith, c.requires.types_value, o.invariant.0, c.search-test.false)) o.invariant.1 o.invariant.2

pub returns-then-equals : goal.returns-then-equals
returns-then-equals c = let o = c.search in
    let i = c.loop-j in
    found_here c.args.shelf.now c.args.text.now c.requires.shelf_value c.requires.types_value o.t c.search-test.true o.invariant.1 c.elements_of.ensures i.j i.invariant.0 c.loop-j-test.true c.requires.elements_value c.name_place.ensures c.equals.ensures i.invariant.2 c.if-equals.true
