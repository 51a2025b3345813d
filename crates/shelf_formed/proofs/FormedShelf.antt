-- What a well-formed shelf has, part by part: its front, and each element. Assumes nothing.
use mathlib.Core.Path.{◌≡◌, sym, ◌∙◌}
use mathlib.Core.Bool.{true, ◌&&◌}
use mathlib.Core.List.{List}
use Prim.Native.Nat.{ℕ, ◌+◌, ◌<◌, ◌≤◌}
use native.Mathlib.Omega.{arith}
use lib.Dec.{eqb, leb}
use lib.ListN.{length, get_or}
use borrow.Author.Tests.{leb-true, eqb-true, lt-ltb, le-ltb}
use Rattle.bits.specs.Bits.{printable}
use Rattle.bits.specs.Choice.{all_below}
use Rattle.bits.proofs.Logic.{and_left, and_right, and_five, below_at, pick_yes, pick_no}
use Rattle.element.specs.Types.{served, reading_allowed, nominal_allowed}
use Rattle.element.specs.Settings.{settings_formed}
use Rattle.element.specs.Types.{had, ordered}
use Rattle.shelf.specs.Limits.{most_types, most_elements, most_in_type, most_text, type_size, type_place, text_place, block_length}
use Rattle.shelf.specs.Types.{types_of, type_code, type_count, text_length, elements_of, kind_at}
use Rattle.shelf.specs.Elements.{settings_at, thresholds_at, reading_at, nominal_at}
use Rattle.shelf_formed.specs.Formed.{head_formed, text_byte_formed, text_formed, type_formed, type_byte_empty, type_empty, slot_formed, types_formed, spare_clear, element_formed, elements_formed, front_formed, well_formed}

module _ (s : List ℕ) (w : front_formed s ≡ true) where
  pub head_formed_lem : head_formed s ≡ true
  unfolding front_formed
  head_formed_lem = and_left (head_formed s) (types_formed s (types_of s)) (and_left (head_formed s && types_formed s (types_of s)) (leb (elements_of s) most_elements) w)

  types : types_formed s (types_of s) ≡ true
  unfolding front_formed
  types = and_right (head_formed s) (types_formed s (types_of s)) (and_left (head_formed s && types_formed s (types_of s)) (leb (elements_of s) most_elements) w)

  pub few_elements : elements_of s ≤ most_elements
  unfolding front_formed
  few_elements = leb-true (elements_of s) most_elements (and_right (head_formed s && types_formed s (types_of s)) (leb (elements_of s) most_elements) w)

  pub in_head : (leb 1 (types_of s) ≡ true) × (leb (types_of s) most_types ≡ true) × (eqb (get_or s 41 0) 0 ≡ true) × (eqb (get_or s 42 0) 0 ≡ true) × (eqb (get_or s 43 0) 0 ≡ true)
  unfolding head_formed
  in_head = and_five (leb 1 (types_of s)) (leb (types_of s) most_types) (eqb (get_or s 41 0) 0) (eqb (get_or s 42 0) 0) (eqb (get_or s 43 0) 0) head_formed_lem

  pub few_types : types_of s ≤ most_types
  few_types = leb-true (types_of s) most_types in_head.1

  slot : (t : ℕ) → t < most_types → slot_formed s (types_of s) t ≡ true
  unfolding types_formed
  slot t h = below_at (slot_formed s (types_of s)) most_types types t h

  module _ (t : ℕ) (h : t < types_of s) where
    named : type_formed s t ≡ true
    unfolding slot_formed
    named = sym (pick_yes _ _ _ (lt-ltb t (types_of s) h)) ∙ slot t (omega (arith, few_types))

    pub in_type_lem : (served (type_code s t) ≡ true)
        × (leb (type_count s t) most_in_type ≡ true)
        × (leb (text_length s t) most_text ≡ true)
        × (eqb (get_or s (type_place t + 3) 0) 0 ≡ true)
        × (text_formed s t ≡ true)
    unfolding type_formed
    in_type_lem = and_five (served (type_code s t)) (leb (type_count s t) most_in_type) (leb (text_length s t) most_text) (eqb (get_or s (type_place t + 3) 0) 0) (text_formed s t) named

    pub short_text : text_length s t ≤ most_text
    short_text = leb-true (text_length s t) most_text in_type_lem.2

    text_byte_lem : (i : ℕ) → i < most_text → text_byte_formed s t i ≡ true
    unfolding text_formed
    text_byte_lem i l = below_at (text_byte_formed s t) most_text in_type_lem.4 i l

    pub text_printable : (i : ℕ) → i < text_length s t → printable (get_or s (text_place t + i) 0) ≡ true
    text_printable i l = sym (pick_yes _ _ _ (lt-ltb i (text_length s t) l)) ∙ text_byte_lem i (omega (arith, short_text))

    pub text_padded : (i : ℕ) → text_length s t ≤ i → i < most_text → get_or s (text_place t + i) 0 ≡ 0
    text_padded i l m = eqb-true (get_or s (text_place t + i) 0) 0 (sym (pick_no _ _ _ (le-ltb i (text_length s t) l)) ∙ text_byte_lem i m)

  -- past the last type
  pub type_clear : (t i : ℕ) → types_of s ≤ t → t < most_types → i < type_size → get_or s (type_place t + i) 0 ≡ 0
  unfolding slot_formed type_empty
  type_clear t i h l m =
      eqb-true (get_or s (type_place t + i) 0) 0
      (below_at (type_byte_empty s t) type_size (sym (pick_no _ _ _ (le-ltb t (types_of s) h)) ∙ slot t l) i m)

-- what a well-formed shelf has of element j
pub in_element : (s : List ℕ) → well_formed s ≡ true → (j : ℕ) → j < elements_of s
    → (settings_formed (kind_at s j) (settings_at s j) ≡ true)
    × (had (kind_at s j) (thresholds_at s j) ≡ true)
    × (ordered (kind_at s j) (thresholds_at s j) ≡ true)
    × (reading_allowed (kind_at s j) (reading_at s j) ≡ true)
    × (nominal_allowed (kind_at s j) (nominal_at s j) ≡ true)
unfolding well_formed elements_formed element_formed
in_element s w j l =
    let k = kind_at s j in
    let a = settings_formed k (settings_at s j) in
    let b = had k (thresholds_at s j) in
    let c = ordered k (thresholds_at s j) in
    let d = reading_allowed k (reading_at s j) in
    let e = nominal_allowed k (nominal_at s j) in
    let all = and_right (front_formed s && eqb (length s) (block_length (types_of s) (elements_of s))) (all_below (element_formed s) (elements_of s)) w in
    and_five a b c d e (and_left ((((a && b) && c) && d) && e) (spare_clear s j) (below_at (element_formed s) (elements_of s) all j l))
