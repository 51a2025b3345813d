-- The search for a name through the types and their elements, from what the calls say. Assumes nothing.
use Rattle.std.specs.Prelude.{Ok, Err, None}
use mathlib.Core.Path.{◌≡◌, sym, ap, ◌∙◌}
use mathlib.Core.Bool.{Bool, true, false, not}
use mathlib.Core.List.{List}
use Prim.Native.Nat.{ℕ, ◌+◌, ◌<◌, ◌≤◌}
use native.Mathlib.Omega.{arith}
use lib.ListN.{length}
use borrow.Author.Tests.{le-ltb}
use Rattle.bits.specs.Choice.{all_below, first_below}
use Rattle.bits.proofs.Logic.{by_case, pick_yes, pick_no, fails, below_all, below_next, first_at, first_none}
use Rattle.bits.proofs.Sums.{sum_past}
use Rattle.refusals.specs.declared.Refusal.TheVariants.{ShelfNotWellFormed}
use Rattle.shelf.specs.Limits.{most_types, most_elements, most_text, name_place, HasType}
use Rattle.shelf.specs.Types.{types_of, type_count, before, elements_of}
use Rattle.shelf.proofs.ElementsBefore.{before_up, ended}
use Rattle.shelf_formed.specs.Formed.{well_formed, opened}
use Rattle.shelf_formed.proofs.Opening.{not_formed}
use Rattle.shelf_formed.proofs.ElementPut.{length-formed}
use Rattle.shelf_formed.proofs.ElementTypes.{front_formed_lem, typed}
use Rattle.shelf_formed.proofs.FormedShelf.{few_types, few_elements, type_clear}
use Rattle.page.specs.Places.{own_slot}
use Rattle.names.specs.Name.{name_at, name_in, equal}
use Rattle.names.specs.Names.{name_of}
use Rattle.names.specs.Found.{named, first_named, found_at, found, FindAnswer}
use Rattle.names.proofs.NameBack.{name_bound, length_name}
use Rattle.names.proofs.Equal.{equal_same}

-- the types that are there have all elements
all_there : (s : List ℕ) → well_formed s ≡ true → before s (types_of s) ≡ elements_of s
unfolding elements_of before
all_there s w =
    let f = front_formed_lem s w in
    sym (sum_past (type_count s) (types_of s) most_types (few_types s f) (λ t l m. type_clear s f t 1 l m (omega arith)))

-- type t of m, whose n elements stand from i on
module _ (s x : List ℕ) (w : well_formed s ≡ true) {m : ℕ} (c : m ≡ types_of s) (t : ℕ) (l : t < m) where
  pub type_room : HasType s t
  type_room = omega (arith, length-formed s w, few_types s (front_formed_lem s w))

  module _ {i n : ℕ} (p : i ≡ before s t) (q : n ≡ type_count s t) where
    pub type_ended : i + n ≡ before s (t + 1)
    type_ended = ended s t p q

    few : (t < most_types) × (i + n ≤ elements_of s)
    unfolding elements_of
    few =
        let u = few_types s (front_formed_lem s w) in
        (omega arith, rw type_ended (before_up s (t + 1) most_types (omega arith)))

    pub few_searched : (t < most_types) × (i + n ≤ most_elements)
    few_searched = (few.0, omega (arith, few.1, few_elements s (front_formed_lem s w)))

    -- each of them has a name, the last the one at i + n + t
    pub names_room : {e : ℕ} → e ≡ elements_of s → name_place e (i + n + t) + most_text ≤ length s
    names_room u = omega (arith, length-formed s w, few.1)

    -- element j, which is one of them; y tells whether its name is x
    module _ (j : ℕ) (a : before s t ≤ j) (b : j < i + n) {e k : ℕ} (u : e ≡ elements_of s) (v : k ≡ name_place e (j + t + 1)) {y : Bool} (h : y ≡ equal (name_at s k) x) where
      as_named : y ≡ named s x j
      unfolding named name_of name_in
      as_named =
          let z : own_slot s j ≡ j + t + 1 = ap (λ (o : ℕ). j + o + 1) (typed s t j few.0 a (rw type_ended at b)) in
          h ∙ rw (v, u, z)

      pub found_here : all_below (fails (named s x)) j ≡ true → y ≡ true → j ≡ first_named s x
      unfolding first_named
      found_here f o = sym (first_at (named s x) (elements_of s) j (omega (arith, few.1)) f (sym as_named ∙ o))

      pub not_here : all_below (fails (named s x)) j ≡ true → y ≡ false → all_below (fails (named s x)) (j + 1) ≡ true
      not_here f o = below_next (fails (named s x)) j f (ap not (sym as_named ∙ o))

-- behind all types
pub found_none : (s x : List ℕ) → well_formed s ≡ true → {t j : ℕ} → t ≡ types_of s → j ≡ before s t → all_below (fails (named s x)) j ≡ true → j ≡ first_named s x
unfolding first_named
found_none s x w {t} {j} e h f =
    let u : j ≡ elements_of s = h ∙ ap (before s) e ∙ all_there s w in
    u ∙ sym (first_none (named s x) (elements_of s) (rw u at f))

-- the answer
module _ (s x : List ℕ) where
  pub not_a_shelf : opened s ≡ None → Err ShelfNotWellFormed ≡ found s x
  unfolding found
  not_a_shelf e = sym (pick_no _ _ _ (not_formed s e))

  pub search_done : well_formed s ≡ true → {j n : ℕ} {r : FindAnswer} → j ≡ first_named s x → n ≡ elements_of s → r ≡ found_at j n → r ≡ found s x
  unfolding found
  search_done w p q h = h ∙ rw (p, q) (sym (pick_yes _ _ _ w))

  -- no name is longer than 32
  unnamed : most_text < length x → (j : ℕ) → named s x j ≡ false
  unfolding named name_of name_in
  unnamed l j =
      let k = name_place (elements_of s) (own_slot s j) in
      by_case (equal (name_at s k) x) (λ t. absurd (omega (arith, l, ap length (equal_same (name_at s k) x t), length_name s k, name_bound s k))) (λ t. t)

  pub too_long : well_formed s ≡ true → most_text < length x → (Ok None) ≡ found s x
  unfolding found first_named
  too_long w l =
      let e : first_below (named s x) (elements_of s) ≡ elements_of s =
      first_none (named s x) (elements_of s) (below_all (fails (named s x)) (elements_of s) (λ j m. ap not (unnamed l j))) in
      sym (pick_yes _ _ _ w ∙ rw e (pick_no _ _ _ (le-ltb (elements_of s) (elements_of s) (omega arith))))
