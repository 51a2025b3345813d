-- The Element Descriptor page written again from a record r. Assumes nothing.
use Rattle.std.specs.Prelude.{Bool, ◌||◌, List, ℕ, ◌+◌, ◌*◌, eqb, ltb, get_or, Ok}
use Rattle.bits.specs.Choice.{all_below}
use Rattle.refusals.specs.declared.Refusal.TheVariants.{NotAllowed}
use Rattle.refusals.specs.Outcomes.{unless, next}
use Rattle.record_head.specs.Head.{count_tested}
use Rattle.shelf.specs.Limits.{most_text}
use Rattle.page.specs.Slots.{slots_of}
use Rattle.page.specs.Header.{configuration_tested}
use Rattle.names.specs.Name.{name_length, name_in}
use Rattle.descriptor_page.specs.Page.{width, start_of, descriptor_page}
use Rattle.refusals.specs.Answers.{Answer}

-- entry i stands behind the head
abbrev pub entry_place : ℕ → ℕ
entry_place i = 4 + most_text * i

-- behind the end of the name at k are zeros
abbrev pub end_byte : List ℕ → ℕ → ℕ → Bool
end_byte r k i = ltb i (name_length r k) || eqb (get_or r (k + i) 0) 0

unfoldable pub entry_formed : List ℕ → ℕ → Bool
entry_formed r i = all_below (end_byte r (entry_place i)) most_text

unfoldable pub entries_formed : List ℕ → ℕ → Bool
entries_formed r n = all_below (entry_formed r) n

-- how long the descriptor of entry i is, and the page of n entries
abbrev pub entry_size : List ℕ → ℕ → ℕ
entry_size r i = width (name_in r (entry_place 0)) i

abbrev pub bytes_again : List ℕ → ℕ → ℕ
bytes_again r n = start_of (name_in r (entry_place 0)) n

-- 9: another number of entries than n; 6: an entry that is no name with zeros behind it
unfoldable pub entries_tested : List ℕ → ℕ → Answer
entries_tested r n = next (count_tested r n) (unless (entries_formed r n) NotAllowed (Ok tt))

-- 1: no configuration; 9, 6: the entries
unfoldable pub record_tested : List ℕ → List ℕ → Answer
record_tested c r = next (configuration_tested c) (entries_tested r (slots_of c))

-- the page of the names in it
unfoldable pub page_again : List ℕ → List ℕ → List ℕ
page_again c r = descriptor_page c (name_in r (entry_place 0)) (slots_of c)
