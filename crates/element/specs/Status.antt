-- Status elements, and the entries of a record that say the same: sixteen bytes, of which four are alike for all types (code, PRDFAIL,
-- DISABLED, SWAP) and twelve are laid out by the type. Assumes nothing.
use Rattle.std.specs.Prelude.{Bool, List, [], ◌∷◌, ◌++◌, ℕ, ◌+◌, ◌*◌, ◌/◌, ◌%◌, eqb, get_or, replicate}
use Rattle.bits.specs.Choice.{pick, first_of_four}
use Rattle.bits.specs.Bits.{num}
use Rattle.element.specs.declared.types.Kind.{Kind}
use Rattle.element.specs.declared.settings.Settings.{Settings}
use Rattle.element.specs.declared.verdict.Verdict.{Verdict}
use Rattle.element.specs.StatusLayout.{StatusLayout, padded, twelve, three, most_of}
use Rattle.element.specs.Rules.{code_allowed}
use Rattle.element.specs.Types.{rules_of, verdict_of}

-- byte 0: bit 6 PRDFAIL, 5 DISABLED, 4 SWAP, bits 3 to 0 the status code
abbrev pub head_of : ℕ → List ℕ
head_of a = a % 16 ∷ a / 64 % 2 ∷ a / 32 % 2 ∷ a / 16 % 2 ∷ []

abbrev pub first_byte : List ℕ → ℕ
first_byte x = ((get_or x 1 0 % 2 * 64 + get_or x 2 0 % 2 * 32) + get_or x 3 0 % 2 * 16) + get_or x 0 0 % 16

-- under a layout: the entry that four bytes say, and the four bytes that say an entry
abbrev pub entry_in : StatusLayout → List ℕ → List ℕ
entry_in l e = head_of (get_or e 0 0) ++ twelve l (get_or e 1 0) (get_or e 2 0) (get_or e 3 0)

abbrev pub bytes_in : StatusLayout → List ℕ → List ℕ
bytes_in l x = first_byte x ∷ three l x 4

-- the entry of an element with these settings and this verdict, whose type shows the fields f
abbrev pub entry_with : Settings → Verdict → List ℕ → List ℕ
entry_with s v f = (v.code ∷ num s.prdfail ∷ num s.disabled ∷ num s.swap ∷ []) ++ padded 12 f

-- the four bytes of such an element, where the fields f follow from settings, verdict and reading
abbrev pub status_with : StatusLayout → (Settings → Verdict → ℕ → List ℕ) → Settings → Verdict → ℕ → List ℕ
status_with l f s v r = bytes_in l (entry_with s v (f s v r))

-- the same of a type
unfoldable pub entry_of : Kind → List ℕ → List ℕ
entry_of k e = entry_in (rules_of k).status e

unfoldable pub status_bytes : Kind → List ℕ → List ℕ
status_bytes k x = bytes_in (rules_of k).status x

unfoldable pub entry_by : Kind → Settings → Verdict → ℕ → List ℕ
entry_by k s v r = entry_with s v ((rules_of k).fields s v r)

-- what an element with these settings, reading, nominal and thresholds shows
unfoldable pub shown_by : Kind → Settings → ℕ → ℕ → List ℕ → List ℕ
shown_by k s r n t = entry_by k s (verdict_of k s r n t) r

-- the first byte of a status element that is refused, 4 if none is
unfoldable pub status_offending : Kind → List ℕ → ℕ
status_offending k e = first_of_four ((rules_of k).status_allows e)

-- the most that each byte of an entry may be: codes to 8, flags, and what the type lays out
unfoldable pub most_shown : Kind → List ℕ
most_shown k = (8 ∷ 1 ∷ 1 ∷ 1 ∷ []) ++ most_of (rules_of k).status

-- in overall elements all but the code is zero
abbrev pub overall_allows : List ℕ → ℕ → Bool
overall_allows e j = pick (eqb j 0) (code_allowed (get_or e 0 0)) (eqb (get_or e j 0) 0)

unfoldable pub overall_offending : List ℕ → ℕ
overall_offending e = first_of_four (overall_allows e)

abbrev pub code_alone : ℕ → List ℕ
code_alone n = n ∷ replicate 15 0

abbrev pub most_overall : List ℕ
most_overall = code_alone 8
