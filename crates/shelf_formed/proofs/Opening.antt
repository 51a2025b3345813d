-- Opening a shelf or a configuration, stage by stage: the first test that fails refuses it. Assumes nothing.
use Rattle.std.specs.Prelude.{Some, None, Option}
use mathlib.Core.Path.{◌≡◌, refl, sym, ap, ◌∙◌}
use mathlib.Core.Bool.{Bool, true, false, ◌&&◌}
use mathlib.Core.List.{List}
use Prim.Native.Nat.{ℕ, ◌<◌}
use native.Mathlib.Omega.{arith}
use lib.Dec.{leb, eqb}
use lib.ListN.{length}
use borrow.Author.Tests.{leb-false, eq-eqb, ne_eqb, eqb-true}
use Rattle.bits.specs.Choice.{pick}
use Rattle.shelf_formed.specs.declared.Sizes.{Sizes}
use Rattle.shelf.specs.Limits.{most_elements, element_place, block_length}
use Rattle.shelf.specs.Types.{types_of, elements_of}
use Rattle.shelf_formed.specs.Formed.{head_formed, types_formed, elements_formed, front_formed, well_formed, configuration_formed, opened_if, sizes_if, fronted, front_opened, as_long, block_opened, elements_opened, opened, configuration_opened}

no_right : (a b : Bool) → b ≡ false → a && b ≡ false
no_right true b e = e
no_right false b e = refl

with_right : (a b : Bool) → b ≡ true → a ≡ a && b
with_right true b e = sym e
with_right false b e = refl

-- what an answer says of the test behind it
if_yes : (t : Bool) {y z : Sizes} → opened_if t z ≡ Some y → (t ≡ true) × (y ≡ z)
if_yes true q = (refl, cc)
if_yes false q = let e : ◌≡◌ {A = ℕ} 0 1 = cc in absurd (omega arith)

if_no : (t : Bool) (z : Sizes) → opened_if t z ≡ None → t ≡ false
if_no true z q = let e : ◌≡◌ {A = ℕ} 0 1 = cc in absurd (omega arith)
if_no false z q = refl

module _ (s : List ℕ) where
  said_yes : (t : Bool) {z : Sizes} → sizes_if t s ≡ Some z → (t ≡ true) × (z.types ≡ types_of s) × (z.elements ≡ elements_of s)
  said_yes t q = let e = if_yes t q in (e.0, ap (λ (x : Sizes). x.types) e.1, ap (λ (x : Sizes). x.elements) e.1)

  yes : (t : Bool) {z : Sizes} → z.types ≡ types_of s → z.elements ≡ elements_of s → t ≡ true → Some z ≡ sizes_if t s
  yes t {z} p q e =
      let r : z ≡ record { types = types_of s; elements = elements_of s } = λ i. record { types = p i; elements = q i } in
      rw (e, r)

  no : (t : Bool) → t ≡ false → None ≡ sizes_if t s
  no t e = rw e

  pub formed_sizes : {z : Sizes} → opened s ≡ Some z → (well_formed s ≡ true) × (z.types ≡ types_of s) × (z.elements ≡ elements_of s)
  unfolding opened
  formed_sizes e = said_yes (well_formed s) e

  pub not_formed : opened s ≡ None → well_formed s ≡ false
  unfolding opened
  not_formed e = if_no (well_formed s) _ e

  pub configuration_sizes : {z : Sizes} → configuration_opened s ≡ Some z
      → (configuration_formed s ≡ true) × (z.types ≡ types_of s) × (z.elements ≡ elements_of s)
  unfolding configuration_opened
  configuration_sizes e = said_yes (configuration_formed s) e

  pub not_configuration : configuration_opened s ≡ None → configuration_formed s ≡ false
  unfolding configuration_opened
  not_configuration e = if_no (configuration_formed s) _ e

  pub front_is : {a b : Bool} {n m : ℕ} {x : Bool} → a ≡ head_formed s → n ≡ types_of s → b ≡ types_formed s n → m ≡ elements_of s
      → (a && b) && leb m most_elements ≡ x → front_formed s ≡ x
  unfolding front_formed
  front_is p q r u e = rw (p, r, q, u) at e

  pub front_yes : {z : Sizes} → z.types ≡ types_of s → z.elements ≡ elements_of s → front_formed s ≡ true → Some z ≡ fronted s
  unfolding fronted
  front_yes p q e = yes (front_formed s) p q e

  pub front_no : front_formed s ≡ false → None ≡ fronted s
  unfolding fronted
  front_no e = no (front_formed s) e

  -- a block that ends before its first element could start
  too_short : length s < element_place 0 → None ≡ opened s
  unfolding opened well_formed
  too_short h =
      no (well_formed s)
      (rw (no_right (front_formed s) (eqb (length s) (block_length (types_of s) (elements_of s))) (ne_eqb (length s) (block_length (types_of s) (elements_of s)) (λ e. omega arith))))

  -- the front, and behind it the elements
  module _ {x : Option Sizes} (f : x ≡ front_opened s) where
    pub no_front : x ≡ None → None ≡ opened s
    no_front u = go (leb (element_place 0) (length s)) refl (sym f ∙ u)
      where
        go : (t : Bool) → leb (element_place 0) (length s) ≡ t → pick t (fronted s) None ≡ None → None ≡ opened s
        go true l q = unfold fronted opened well_formed in no (well_formed s) (rw (if_no (front_formed s) _ q))
        go false l q = too_short (leb-false (element_place 0) (length s) l)

    module _ {z : Sizes} (u : x ≡ Some z) where
      at_front : (front_formed s ≡ true) × (z ≡ record { types = types_of s; elements = elements_of s })
      at_front = go (leb (element_place 0) (length s)) (sym f ∙ u)
        where
          go : (t : Bool) → pick t (fronted s) None ≡ Some z → (front_formed s ≡ true) × (z ≡ record { types = types_of s; elements = elements_of s })
          go true q = unfold fronted in if_yes (front_formed s) q
          go false q = let e : ◌≡◌ {A = ℕ} 0 1 = cc in absurd (omega arith)

      pub elements_last : {r : Option Sizes} → r ≡ elements_opened s z → r ≡ opened s
      unfolding opened well_formed
      elements_last e = e ∙ ap (elements_opened s) at_front.1 ∙ sym (rw at_front.0)

  pub is_configuration : length s ≡ element_place 0 → fronted s ≡ configuration_opened s
  unfolding fronted configuration_opened configuration_formed
  is_configuration l =
      ap (λ b. sizes_if b s) (with_right (front_formed s) (eqb (length s) (element_place 0)) (eq-eqb (length s) (element_place 0) l))

  pub no_configuration : (length s ≡ element_place 0 → ⊥) → None ≡ configuration_opened s
  unfolding configuration_opened configuration_formed
  no_configuration l = no (configuration_formed s) (no_right (front_formed s) (eqb (length s) (element_place 0)) (ne_eqb (length s) (element_place 0) l))

-- the bytes that a shelf of these sizes needs, and behind that each element
module _ (s : List ℕ) (z : Sizes) {x : Option Sizes} (f : x ≡ block_opened s z) where
  pub no_length : x ≡ None → None ≡ elements_opened s z
  no_length u = rw (if_no (as_long s z) z (sym f ∙ u))

  module _ {y : Sizes} (u : x ≡ Some y) where
    long : as_long s z ≡ true
    long = (if_yes (as_long s z) (sym f ∙ u)).0

    pub has_elements : length s ≡ block_length z.types z.elements
    has_elements = eqb-true (length s) (block_length z.types z.elements) long

    pub each_formed : elements_formed s z.elements ≡ true → Some z ≡ elements_opened s z
    each_formed e = rw (long, e) refl

    pub not_each : elements_formed s z.elements ≡ false → None ≡ elements_opened s z
    not_each e = rw (long, e)
