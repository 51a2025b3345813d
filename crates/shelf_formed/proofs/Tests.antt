-- The tests of a text, a type and an element, from what the calls say. Assumes nothing.
use mathlib.Core.Path.{◌≡◌, refl, sym, ap, ◌∙◌}
use mathlib.Core.Bool.{Bool, true, false, ◌&&◌, and-true, and-false}
use mathlib.Core.List.{List}
use Prim.Native.Nat.{ℕ, ◌+◌, ◌<◌, ◌≤◌}
use lib.Dec.{eqb, leb}
use lib.ListN.{get_or}
use borrow.Author.Tests.{lt-ltb, le-ltb, lt-leb, le-leb}
use Rattle.bits.specs.Choice.{all_below}
use Rattle.bits.specs.Bits.{printable}
use Rattle.bits.specs.Places.{four_at}
use Rattle.bits.specs.Numbers.{big}
use Rattle.bits.proofs.Widths.{zeros_said}
use Rattle.bits.proofs.Logic.{below_cut}
use Rattle.shelf.specs.Limits.{most_in_type, most_text, type_place, text_place, element_place}
use Rattle.element.specs.declared.types.Kind.{Kind}
use Rattle.element.specs.Types.{served}
use Rattle.element.specs.Settings.{fields_formed}
use Rattle.shelf.specs.Types.{type_code, type_count, text_length, kind_at}
use Rattle.shelf.specs.Elements.{settings_at, thresholds_at, reading_at, nominal_at, spare_at}
use Rattle.shelf_formed.specs.Formed.{text_byte_formed, text_formed, type_formed, spare_clear, element_formed}

third_holds : (a b c : Bool) → (a && b) && c ≡ ((a && true) && b) && c
third_holds true b c = refl
third_holds false b c = refl

third_fails : (a b c : Bool) → ((a && false) && b) && c ≡ false
third_fails true b c = refl
third_fails false b c = refl

pub text_read : (s : List ℕ) (t : ℕ) {k : ℕ} {e : List ℕ} → k ≡ type_place t → e ≡ four_at s k → get_or e 2 0 ≡ text_length s t
text_read s t p h = rw (h, p)

module _ (s : List ℕ) (t : ℕ) {n : ℕ} (q : n ≡ text_length s t) where
  pub byte_printable : (i : ℕ) {k b : ℕ} → i < n → k ≡ text_place t → b ≡ get_or s (k + i) 0 → printable b ≡ text_byte_formed s t i
  byte_printable i l u v = rw (lt-ltb i (text_length s t) (rw q at l), v, u)

  pub byte_ended : (i : ℕ) {k b : ℕ} → n ≤ i → k ≡ text_place t → b ≡ get_or s (k + i) 0 → eqb b 0 ≡ text_byte_formed s t i
  byte_ended i l u v = rw (le-ltb i (text_length s t) (rw q at l), v, u)

  pub unprintable : {r : Bool} → n ≤ most_text → r ≡ all_below (text_byte_formed s t) n → r ≡ false → false ≡ text_formed s t
  unfolding text_formed
  unprintable l h u = sym (below_cut (text_byte_formed s t) n most_text l (sym h ∙ u))

  pub text_too_long : most_text < n → false ≡ type_formed s t
  unfolding type_formed
  text_too_long l = rw (lt-leb (text_length s t) most_text (rw q at l)) (sym (third_fails (served (type_code s t) && leb (type_count s t) most_in_type) (eqb (get_or s (type_place t + 3) 0) 0) (text_formed s t)))

  -- the four bytes before a text, and the text
  pub type_judged : {k : ℕ} {e : List ℕ} {a f : Bool} → n ≤ most_text → k ≡ type_place t → e ≡ four_at s k → a ≡ served (get_or e 0 0) → f ≡ text_formed s t
      → ((a && leb (get_or e 1 0) most_in_type) && eqb (get_or e 3 0) 0) && f ≡ type_formed s t
  unfolding type_formed
  type_judged l p h u v = rw (le-leb (text_length s t) most_text (rw q at l), u, v, h, p) (third_holds (served (type_code s t) && leb (type_count s t) most_in_type) (eqb (get_or s (type_place t + 3) 0) 0) (text_formed s t))

pub not_spare : (s : List ℕ) (j : ℕ) {a : Bool} → a ≡ spare_clear s j → a ≡ false → false ≡ element_formed s j
unfolding element_formed
not_spare s j ha h =
    let f = fields_formed (kind_at s j) (settings_at s j) (thresholds_at s j) (reading_at s j) (nominal_at s j) in
    sym (ap (λ (b : Bool). f && b) (sym ha ∙ h) ∙ and-false f)

pub judged : (s : List ℕ) (j : ℕ) {k : Kind} {e t : List ℕ} {r n : ℕ} {a b : Bool}
    → k ≡ kind_at s j → a ≡ spare_clear s j → a ≡ true → e ≡ settings_at s j → t ≡ thresholds_at s j → r ≡ reading_at s j → n ≡ nominal_at s j
    → b ≡ fields_formed k e t r n → b ≡ element_formed s j
unfolding element_formed
judged s j hk ha h he ht hr hn hb =
    rw (← ha, h, hb, hk, he, ht, hr, hn) (sym (and-true (fields_formed (kind_at s j) (settings_at s j) (thresholds_at s j) (reading_at s j) (nominal_at s j))))

-- four bytes that say 0 are zero
pub spare_said : (s : List ℕ) (j : ℕ) {k n : ℕ} → k ≡ element_place j → n ≡ big (four_at s (k + 12)) → eqb n 0 ≡ spare_clear s j
unfolding spare_clear spare_at
spare_said s j p q =
    let k = element_place j + 12 in
    rw (q, p) (zeros_said (four_at s k))
