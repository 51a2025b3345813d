-- The front of a shelf block, which is its configuration, tells what the shelf tells of its types. Assumes nothing.
use mathlib.Core.Path.{◌≡◌, sym, ap, ap₂, ◌∙◌}
use mathlib.Core.Bool.{Bool, true, ◌&&◌}
use mathlib.Core.List.{List}
use Prim.Native.Nat.{ℕ, ◌+◌, ◌<◌, ◌≤◌}
use native.Mathlib.Omega.{arith}
use lib.Dec.{eqb, leb, ltb}
use lib.ListN.{length, get_or, take}
use lib.Seq.{get_or-take, length-take-le}
use borrow.Author.Tests.{eq-eqb}
use Rattle.bits.specs.Choice.{pick, all_below}
use Rattle.bits.specs.Bits.{printable}
use Rattle.bits.proofs.Logic.{and_both, all_same, first_same}
use Rattle.bits.proofs.Sums.{sum_same}
use Rattle.element.specs.Types.{served, kind_of}
use Rattle.shelf.specs.Limits.{most_types, most_elements, most_in_type, most_text, type_size, type_place, text_place, element_place}
use Rattle.shelf.specs.Types.{types_of, type_code, type_count, text_length, before, elements_of, within, type_of, kind_at}
use Rattle.shelf_formed.specs.Formed.{head_formed, text_byte_formed, text_formed, type_formed, type_byte_empty, type_empty, slot_formed, types_formed, front_formed, well_formed, configuration_formed}
use Rattle.shelf_formed.proofs.ElementPut.{length-formed}
use Rattle.shelf_formed.proofs.ElementTypes.{front_formed_lem, type_below}

abbrev pub front : List ℕ → List ℕ
front s = take (element_place 0) s

module _ (s : List ℕ) where
  pub front_get : (k : ℕ) → k < element_place 0 → get_or (front s) k 0 ≡ get_or s k 0
  front_get k h = get_or-take (element_place 0) s k 0 h

  pub types_same : types_of (front s) ≡ types_of s
  types_same = front_get 40 (omega arith)

  module _ (t : ℕ) (h : t < most_types) where
    pub code_same : type_code (front s) t ≡ type_code s t
    code_same = front_get (type_place t) (omega arith)

    pub count_same : type_count (front s) t ≡ type_count s t
    count_same = front_get (type_place t + 1) (omega arith)

    pub text_same : text_length (front s) t ≡ text_length s t
    text_same = front_get (type_place t + 2) (omega arith)

    text_byte_same : (i : ℕ) → i < most_text → text_byte_formed (front s) t i ≡ text_byte_formed s t i
    text_byte_same i l =
        ap₂ (λ (m b : ℕ). pick (ltb i m) (printable b) (eqb b 0)) text_same (front_get (text_place t + i) (omega arith))

    type_byte_same : (i : ℕ) → i < type_size → type_byte_empty (front s) t i ≡ type_byte_empty s t i
    type_byte_same i l = ap (λ (b : ℕ). eqb b 0) (front_get (type_place t + i) (omega arith))

    type_same : type_formed (front s) t ≡ type_formed s t
    unfolding type_formed text_formed
    type_same =
        ap₂ ◌&&◌
        (ap₂ ◌&&◌
        (ap₂ ◌&&◌ (ap₂ ◌&&◌ (ap served code_same) (ap (λ (n : ℕ). leb n most_in_type) count_same)) (ap (λ (n : ℕ). leb n most_text) text_same))
        (ap (λ (b : ℕ). eqb b 0) (front_get (type_place t + 3) (omega arith))))
        (all_same (text_byte_formed (front s) t) (text_byte_formed s t) most_text text_byte_same)

    empty_same : type_empty (front s) t ≡ type_empty s t
    unfolding type_empty
    empty_same = all_same (type_byte_empty (front s) t) (type_byte_empty s t) type_size type_byte_same

    slot_same : (n : ℕ) → slot_formed (front s) n t ≡ slot_formed s n t
    unfolding slot_formed
    slot_same n = ap₂ (λ (a b : Bool). pick (ltb t n) a b) type_same empty_same

  pub before_same : (t : ℕ) → t ≤ most_types → before (front s) t ≡ before s t
  unfolding before
  before_same t h = sum_same (type_count (front s)) (type_count s) t (λ i l. count_same i (omega arith))

  pub elements_same : elements_of (front s) ≡ elements_of s
  unfolding elements_of
  elements_same = before_same most_types (omega arith)

  type_of_same : (j : ℕ) → type_of (front s) j ≡ type_of s j
  unfolding type_of
  type_of_same j =
      first_same (within (front s) j) (within s j) most_types (λ t l. ap (λ (n : ℕ). ltb j n) (before_same (t + 1) (omega arith)))

  kind_same : (j : ℕ) → j < elements_of s → kind_at (front s) j ≡ kind_at s j
  unfolding kind_at
  kind_same j h =
      ap (λ (t : ℕ). kind_of (type_code (front s) t)) (type_of_same j) ∙ ap kind_of (code_same (type_of s j) (type_below s j h))

  head_same : head_formed (front s) ≡ head_formed s
  unfolding head_formed
  head_same = rw (front_get 40 (omega arith), front_get 41 (omega arith), front_get 42 (omega arith), front_get 43 (omega arith))

  types_formed_same : types_formed (front s) (types_of (front s)) ≡ types_formed s (types_of s)
  unfolding types_formed
  types_formed_same =
      ap (λ (n : ℕ). all_below (slot_formed (front s) n) most_types) types_same
      ∙ all_same (slot_formed (front s) (types_of s)) (slot_formed s (types_of s)) most_types (λ t l. slot_same t l (types_of s))

  front_same : front_formed (front s) ≡ front_formed s
  unfolding front_formed
  front_same = ap₂ ◌&&◌ (ap₂ ◌&&◌ head_same types_formed_same) (ap (λ (n : ℕ). leb n most_elements) elements_same)

  -- the front of a well-formed shelf is a configuration
  pub configuration_of_lem : well_formed s ≡ true → configuration_formed (front s) ≡ true
  unfolding configuration_formed
  configuration_of_lem w =
      and_both (front_same ∙ front_formed_lem s w)
      (eq-eqb (length (front s)) (element_place 0) (length-take-le (element_place 0) s (omega (arith, length-formed s w))))

-- shelves with the same front have the same of all that it tells
module _ (s x : List ℕ) (e : front x ≡ front s) where
  pub alike : {A : Type 0} (f : List ℕ → A) → f (front x) ≡ f x → f (front s) ≡ f s → f x ≡ f s
  alike f p q = sym p ∙ ap f e ∙ q

  pub types_alike : types_of x ≡ types_of s
  types_alike = alike types_of (types_same x) (types_same s)

  pub elements_alike : elements_of x ≡ elements_of s
  elements_alike = alike elements_of (elements_same x) (elements_same s)

  pub before_alike : (t : ℕ) → t ≤ most_types → before x t ≡ before s t
  before_alike t h = alike (λ (c : List ℕ). before c t) (before_same x t h) (before_same s t h)

  pub type_alike : (j : ℕ) → type_of x j ≡ type_of s j
  type_alike j = alike (λ (c : List ℕ). type_of c j) (type_of_same x j) (type_of_same s j)

  pub kind_alike : (j : ℕ) → j < elements_of s → kind_at x j ≡ kind_at s j
  kind_alike j h = alike (λ (c : List ℕ). kind_at c j) (kind_same x j (rw elements_alike h)) (kind_same s j h)

  pub front_alike : front_formed x ≡ front_formed s
  front_alike = alike front_formed (front_same x) (front_same s)
