-- Where a configuration page has what its front says. Assumes nothing.
use mathlib.Core.Path.{◌≡◌, sym, ap, ◌∙◌}
use mathlib.Core.List.{List, [], ◌++◌, append-nil}
use Prim.Native.Nat.{ℕ, ◌+◌, ◌-◌, ◌<◌, ◌≤◌}
use native.Mathlib.Omega.{arith}
use lib.ListN.{get_or}
use Rattle.bits.specs.Choice.{sum_below}
use Rattle.bits.specs.Rows.{joined}
use Rattle.bits.proofs.Parts.{get_front, get_behind}
use Rattle.bits.proofs.Rows.{row_get, bytes_get}
use Rattle.bits.proofs.RowStarts.{start_same}
use Rattle.bits.proofs.Sums.{sum_same}
use Rattle.shelf.specs.Limits.{text_place}
use Rattle.shelf.specs.Types.{types_of, type_count, text_length}
use Rattle.configuration_page.specs.Page.{header_place, type_header, text_of, text_start, configuration_length, fixed_part, configuration_page}
use Rattle.configuration_page.specs.Read.{types_on, header_byte, total_before, text_place_on}
use Rattle.configuration_page.proofs.PartsPut.{length-fixed, header_rows, text_rows, headers_end, texts_begin}

module _ (s : List ℕ) where
  rest : ℕ
  rest = configuration_length s - 4

  headers : List ℕ
  headers = joined (type_header s) (types_of s)

  texts : List ℕ
  texts = joined (text_of s) (types_of s)

  -- before the headers
  pub page_fixed : (k : ℕ) → k < 48 → get_or (configuration_page s) k 0 ≡ get_or (fixed_part s (configuration_length s - 4)) k 0
  unfolding configuration_page rest headers texts
  page_fixed k h =
      get_front (fixed_part s rest ++ headers) texts (header_place (types_of s)) k (headers_end s rest) (omega arith)
      ∙ get_front (fixed_part s rest) headers 48 k (length-fixed s rest) h

  pub page_types : types_on (configuration_page s) ≡ types_of s
  unfolding fixed_part
  page_types = page_fixed 10 (omega arith)

  pub page_header : (t j : ℕ) → t < types_of s → j < 4 → header_byte (configuration_page s) j t ≡ get_or (type_header s t) j 0
  unfolding configuration_page rest texts
  page_header t j h l = row_get header_place (λ t. 4) (type_header s) (header_rows s) (fixed_part s rest) (length-fixed s rest) (types_of s) texts t j h l

  pub page_counts : (t : ℕ) → t ≤ types_of s → total_before (configuration_page s) t ≡ sum_below (type_count s) t
  unfolding total_before
  page_counts t h = sum_same (header_byte (configuration_page s) 1) (type_count s) t (λ i l. page_header i 1 (omega arith) (omega arith))

  -- the texts start where they were put
  pub page_starts : (t : ℕ) → t ≤ types_of s → text_place_on (configuration_page s) t ≡ text_start s t
  page_starts t h =
      rw page_types
      (start_same (header_place (types_of s)) (header_byte (configuration_page s) 3) (text_length s) t (λ i l. page_header i 3 (omega arith) (omega arith)))

  -- behind the headers stand the texts, and among them byte i of the text of type t
  pub page_texts : (k : ℕ) → get_or (configuration_page s) (header_place (types_of s) + k) 0 ≡ get_or (joined (text_of s) (types_of s)) k 0
  unfolding configuration_page rest headers texts
  page_texts k = get_behind (fixed_part s rest ++ headers) texts (header_place (types_of s)) k (headers_end s rest)

  pub page_text : (t i : ℕ) → t < types_of s → i < text_length s t
      → get_or (configuration_page s) (text_place_on (configuration_page s) t + i) 0 ≡ get_or s (text_place t + i) 0
  unfolding configuration_page text_of rest headers
  page_text t i h l =
      ap (λ (k : ℕ). get_or (configuration_page s) (k + i) 0) (page_starts t (omega arith))
      ∙ ap (λ (r : List ℕ). get_or r (text_start s t + i) 0) (sym (append-nil (configuration_page s)))
      ∙ row_get (text_start s) (text_length s) (text_of s) (text_rows s) (fixed_part s rest ++ headers) (texts_begin s rest) (types_of s) [] t i h l
      ∙ ap (λ (r : List ℕ). get_or r i 0) (sym (append-nil (text_of s t)))
      ∙ bytes_get s (text_place t) (text_length s t) i [] l
