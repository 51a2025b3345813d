-- Where the configuration that a page tells has what the page says. Assumes nothing.
use mathlib.Core.Path.{◌≡◌, refl, sym, ap, ◌∙◌}
use mathlib.Core.List.{List, [], ◌∷◌, ◌++◌, append-nil}
use Prim.Native.Nat.{ℕ, ◌+◌, ◌*◌, ◌<◌}
use native.Mathlib.Nat.{add-zero}
use native.Mathlib.Omega.{arith}
use lib.ListN.{get_or}
use Rattle.bits.specs.Places.{four_at}
use Rattle.bits.specs.Rows.{joined, bytes_at}
use Rattle.bits.proofs.Parts.{get_front, get_behind}
use Rattle.bits.proofs.Rows.{joined_get, row_get, bytes_get}
use Rattle.shelf.specs.Limits.{most_types, most_text, type_size, type_place, text_place}
use Rattle.shelf.specs.Types.{types_of, type_code}
use Rattle.configuration_page.specs.Read.{types_on}
use Rattle.configuration_page.specs.Configuration.{told_byte, text_byte, one_told, head_told, text_told, type_told, configuration_of}
use Rattle.configuration_page.proofs.PartsPut.{type_rows, identification_end, types_begin}

module _ (p : List ℕ) where
  named : List ℕ
  named = four_at p 4 ++ bytes_at p 12 36

  types : List ℕ
  types = types_on p ∷ 0 ∷ 0 ∷ 0 ∷ []

  pub handed_generation : four_at (configuration_of p) 0 ≡ four_at p 4
  unfolding configuration_of
  handed_generation = refl

  pub handed_identification : (i : ℕ) → i < 36 → get_or (configuration_of p) (4 + i) 0 ≡ get_or p (12 + i) 0
  unfolding configuration_of named types
  handed_identification i h =
      get_front (named ++ types) (joined (type_told p) most_types) 44 (4 + i) (types_begin p) (omega arith)
      ∙ get_front named types 40 (4 + i) (identification_end p) (omega arith)
      ∙ get_behind (four_at p 4) (bytes_at p 12 36) 4 i refl
      ∙ ap (λ (r : List ℕ). get_or r i 0) (sym (append-nil (bytes_at p 12 36)))
      ∙ bytes_get p 12 36 i [] h

  handed_head : (i : ℕ) → i < 4 → get_or (configuration_of p) (40 + i) 0 ≡ get_or (types_on p ∷ 0 ∷ 0 ∷ 0 ∷ []) i 0
  unfolding configuration_of named types
  handed_head i h =
      get_front (named ++ types) (joined (type_told p) most_types) 44 (40 + i) (types_begin p) (omega arith)
      ∙ get_behind named types 40 i (identification_end p)

  pub handed_types : types_of (configuration_of p) ≡ types_on p
  handed_types = handed_head 0 (omega arith)

  pub handed_zeros : (get_or (configuration_of p) 41 0 ≡ 0) × (get_or (configuration_of p) 42 0 ≡ 0) × (get_or (configuration_of p) 43 0 ≡ 0)
  handed_zeros = (handed_head 1 (omega arith), handed_head 2 (omega arith), handed_head 3 (omega arith))

  module _ (t : ℕ) (h : t < most_types) where
    pub handed_type : (j : ℕ) → j < type_size → get_or (configuration_of p) (type_place t + j) 0 ≡ get_or (type_told p t) j 0
    unfolding configuration_of named types
    handed_type j l =
        ap (λ (r : List ℕ). get_or r (type_place t + j) 0) (sym (append-nil (configuration_of p)))
        ∙ row_get type_place (λ t. type_size) (type_told p) (type_rows p) (named ++ types) (types_begin p) most_types [] t j h l

    pub handed_code : type_code (configuration_of p) t ≡ told_byte p 0 t
    unfolding type_told head_told
    handed_code = ap (λ (k : ℕ). get_or (configuration_of p) k 0) (sym (add-zero (type_place t))) ∙ handed_type 0 (omega arith)

    pub handed_count : get_or (configuration_of p) (type_place t + 1) 0 ≡ told_byte p 1 t
    unfolding type_told head_told
    handed_count = handed_type 1 (omega arith)

    pub handed_length : get_or (configuration_of p) (type_place t + 2) 0 ≡ told_byte p 3 t
    unfolding type_told head_told
    handed_length = handed_type 2 (omega arith)

    pub handed_spare : get_or (configuration_of p) (type_place t + 3) 0 ≡ 0
    unfolding type_told head_told
    handed_spare = handed_type 3 (omega arith)

    pub handed_text : (i : ℕ) → i < most_text → get_or (configuration_of p) (text_place t + i) 0 ≡ text_byte p t i
    unfolding type_told head_told text_told
    handed_text i l =
        let e : text_place t + i ≡ type_place t + (4 + i) = omega arith in
        let f : i ≡ 1 * i + 0 = omega arith in
        let row = joined (one_told p t) most_text in
        ap (λ (k : ℕ). get_or (configuration_of p) k 0) e
        ∙ handed_type (4 + i) (omega arith)
        ∙ get_behind (told_byte p 0 t ∷ told_byte p 1 t ∷ told_byte p 3 t ∷ 0 ∷ []) row 4 i refl
        ∙ ap (λ (r : List ℕ). get_or r i 0) (sym (append-nil row))
        ∙ ap (λ (k : ℕ). get_or (row ++ []) k 0) f
        ∙ joined_get (one_told p t) 1 (λ i. refl) most_text [] i 0 l (omega arith)
