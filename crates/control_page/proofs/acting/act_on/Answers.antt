use mathlib.Core.Path.{sym, ◌∙◌}
use Rattle.control_page.proofs.PageActs.{by_own, by_overall, by_none}
use Rattle.control_page.proofs.acting.act_on.Goals as goal

pub act_by-requires : goal.act_by-requires
act_by-requires c = record { has_element = c.requires.has_element; e_value = sym c.is_selected.ensures ∙ c.if-is_selected.true }

pub returns-then-is_selected : goal.returns-then-is_selected
returns-then-is_selected c = let s = c.args in
    by_own s.shelf.now s.j s.page.now c.requires.at_value c.four_at-own.ensures
    (sym c.is_selected.ensures ∙ c.if-is_selected.true)
    c.act_by.ensures

pub act_by-requires-then-is_selected-2 : goal.act_by-requires-then-is_selected-2
act_by-requires-then-is_selected-2 c = record { has_element = c.requires.has_element; e_value = sym c.is_selected-2.ensures ∙ c.if-is_selected-2.true }

pub returns-then-is_selected-2 : goal.returns-then-is_selected-2
returns-then-is_selected-2 c = let s = c.args in
    by_overall s.shelf.now s.j s.page.now c.requires.at_value
    c.four_at-own.ensures
    c.four_at-overall.ensures
    (sym c.is_selected.ensures ∙ c.if-is_selected.false)
    c.act_by-then-is_selected-2.ensures

pub returns-else-is_selected-2 : goal.returns-else-is_selected-2
returns-else-is_selected-2 c = let s = c.args in
    by_none s.shelf.now s.j s.page.now c.requires.at_value c.four_at-own.ensures
    c.four_at-overall.ensures (sym c.is_selected.ensures ∙ c.if-is_selected.false)
    (sym c.is_selected-2.ensures ∙ c.if-is_selected-2.false)
