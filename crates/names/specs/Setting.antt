-- A name set: which calls are refused, and the shelf afterwards. Assumes nothing.
use Rattle.std.specs.Prelude.{List, ℕ, ltb, Ok, Err}
use Rattle.bits.specs.Rows.{put_bytes}
use Rattle.refusals.specs.declared.Refusal.TheVariants.{NoSuchElement, NotAllowed}
use Rattle.refusals.specs.Outcomes.{unless, next}
use Rattle.shelf.specs.Limits.{name_place}
use Rattle.shelf.specs.Types.{types_of, elements_of}
use Rattle.page.specs.Slots.{start_of}
use Rattle.page.specs.Places.{own_slot}
use Rattle.page.specs.Header.{shelf_tested}
use Rattle.names.specs.Name.{is_name, padded}
use Rattle.refusals.specs.Answers.{Answer}

-- 15: a number past the last of n; 6: a text that is no name
unfoldable pub number_tested : ℕ → ℕ → List ℕ → Answer
number_tested j n x = unless (ltb j n) NoSuchElement (unless (is_name x) NotAllowed (Ok tt))

-- the shelf with the name x in slot i
unfoldable pub name_set : List ℕ → ℕ → List ℕ → List ℕ
name_set s i x = put_bytes s (name_place (elements_of s) i) (padded x)

-- a shelf is changed if the tests accept it
abbrev pub set_if : Answer → List ℕ → List ℕ → List ℕ
set_if (Ok _) after s = after
set_if (Err r) after s = s

-- of element j: 1, 15, 6
unfoldable pub element_tested : List ℕ → ℕ → List ℕ → Answer
element_tested s j x = next (shelf_tested s) (number_tested j (elements_of s) x)

abbrev pub element_named : List ℕ → ℕ → List ℕ → List ℕ
element_named s j x = set_if (element_tested s j x) (name_set s (own_slot s j) x) s

-- of the overall element of type t: the same
unfoldable pub overall_tested : List ℕ → ℕ → List ℕ → Answer
overall_tested s t x = next (shelf_tested s) (number_tested t (types_of s) x)

abbrev pub overall_named : List ℕ → ℕ → List ℕ → List ℕ
overall_named s t x = set_if (overall_tested s t x) (name_set s (start_of s t) x) s
