-- What the loops carry from type to type, and the rows that they put. Assumes nothing.
use mathlib.Core.Path.{◌≡◌, refl}
use mathlib.Core.List.{List, [], ◌∷◌}
use Prim.Native.Nat.{ℕ, ◌+◌}
use Rattle.bits.specs.Rows.{bytes_at}
use Rattle.bits.proofs.Sums.{sum_next}
use Rattle.shelf.specs.Limits.{text_place}
use Rattle.shelf.specs.Types.{type_code, type_count, text_length}
use Rattle.configuration_page.specs.Page.{type_header, text_of}
use Rattle.configuration_page.specs.Read.{header_byte, total_before}

pub total_none : (p : List ℕ) → total_before p 0 ≡ 0
unfolding total_before
total_none p = refl

pub total_next : (p : List ℕ) (t : ℕ) {a n : ℕ} → a ≡ total_before p t → n ≡ header_byte p 1 t → a + n ≡ total_before p (t + 1)
unfolding total_before
total_next p t e q = sum_next (header_byte p 1) t e q

pub header_made : (s : List ℕ) (t : ℕ) {a b n : ℕ} → a ≡ type_code s t → b ≡ type_count s t → n ≡ text_length s t → a ∷ b ∷ 0 ∷ n ∷ [] ≡ type_header s t
header_made s t ea eb en = rw (ea, eb, en)

pub text_made : (s : List ℕ) (t : ℕ) {k n : ℕ} → k ≡ text_place t → n ≡ text_length s t → bytes_at s k n ≡ text_of s t
unfolding text_of
text_made s t ek en = rw (ek, en)
