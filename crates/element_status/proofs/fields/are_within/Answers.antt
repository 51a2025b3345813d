use Rattle.element_status.specs.Words.{words_within}
use mathlib.Core.Bool.{◌&&◌}
use Rattle.element_status.proofs.fields.are_within.Goals as goal

pub returns : goal.returns
unfolding words_within
returns c = let p = c.are_within.ensures in
    let q = c.are_within-2.ensures in
    let r = c.are_within-3.ensures in
    let s = c.are_within-4.ensures in
    λ i. ((p i && q i) && r i) && s i
