-- The slots of a well-formed shelf: each is in a type that is there, and the shelf's front has the same. Assumes nothing.
use mathlib.Core.Path.{◌≡◌, sym, ap, ap₂, ◌∙◌}
use mathlib.Core.Bool.{true, false}
use mathlib.Core.List.{List}
use Prim.Native.Nat.{ℕ, ◌+◌, ◌<◌, ◌≤◌, ◌-◌}
use native.Mathlib.Omega.{arith}
use lib.Dec.{eqb, ltb}
use borrow.Author.Tests.{eq-eqb, eqb-true}
use Rattle.bits.proofs.Logic.{never, by_case, pick_no, first_same}
use Rattle.bits.proofs.Ends.{part_there}
use Rattle.element.specs.Types.{kind_of}
use Rattle.shelf.specs.Limits.{most_types}
use Rattle.shelf.specs.Types.{type_code, before, elements_of, type_of, kind_at}
use Rattle.shelf_formed.specs.Formed.{front_formed}
use Rattle.shelf.proofs.ElementsBefore.{before_next, before_up}
use Rattle.shelf_formed.proofs.FrontOfShelf.{front, front_get, types_same, code_same, count_same, before_same, elements_same}
use Rattle.page.specs.Slots.{slots_of, start_of, in_type, slot_type, is_overall, slot_at}
use Rattle.page.specs.Header.{header}
use Rattle.page.proofs.SlotsBefore.{start_none}
use Rattle.page.proofs.SlotTypes.{start_below, type_ends, types_below}
use Rattle.shelf_formed.proofs.FormedShelf.{few_types}
use Rattle.shelf_formed.proofs.ElementTypes.{typed}

module _ (s : List ℕ) where
  start_same : (t : ℕ) → t ≤ most_types → start_of (front s) t ≡ start_of s t
  unfolding start_of
  start_same t h = ap (λ (n : ℕ). n + t) (before_same s t h)

  type_same : (i : ℕ) → slot_type (front s) i ≡ slot_type s i
  unfolding slot_type
  type_same i =
      first_same (in_type (front s) i) (in_type s i) most_types (λ t l. ap (λ (n : ℕ). ltb i n) (start_same (t + 1) (omega arith)))

  pub slots_same : slots_of (front s) ≡ slots_of s
  unfolding slots_of
  slots_same = ap₂ ◌+◌ (types_same s) (elements_same s)

  pub header_same : (code own n : ℕ) → header (front s) code own n ≡ header s code own n
  unfolding header
  header_same code own n = rw (front_get s 0 (omega arith), front_get s 1 (omega arith), front_get s 2 (omega arith), front_get s 3 (omega arith))

  module _ (w : front_formed s ≡ true) (i : ℕ) (h : i < slots_of s) where
    pub in_last : i < start_of s most_types
    unfolding slots_of start_of elements_of
    in_last = omega (arith, few_types s w, h)

    -- the slot is in a type
    pub slot_below : slot_type s i < most_types
    unfolding slot_type
    slot_below = part_there (start_of s) i most_types (omega (arith, start_none s)) in_last

    pub slot_end : i < start_of s (slot_type s i + 1)
    slot_end = type_ends s i slot_below

    -- and so are the elements of that type, and those that the slot is for
    type_there : before s (slot_type s i + 1) ≤ elements_of s
    unfolding elements_of
    type_there = before_up s (slot_type s i + 1) most_types (omega (arith, slot_below))

    pub end_there : (slot_at s i).end ≤ elements_of s
    unfolding slot_at is_overall start_of
    end_there =
        let t = slot_type s i in
        let n = before s t + t in
        by_case (eqb i n) (λ b. rw b (omega (arith, eqb-true i n b, before_next s t, type_there))) (λ b. rw b (omega (arith, slot_end, type_there)))

    -- the front has the same slot
    pub slot_same : slot_at (front s) i ≡ slot_at s i
    unfolding slot_at is_overall
    slot_same =
        let t = slot_type s i in
        rw (type_same i, start_same t (omega (arith, slot_below)), code_same s t slot_below, count_same s t slot_below)

    -- an individual slot's element is there, and of the slot's type
    module _ (o : (slot_at s i).overall ≡ false) where
      pub after_start : start_of s (slot_type s i) < i
      unfolding slot_at is_overall
      after_start =
          let e : i ≡ start_of s (slot_type s i) → ⊥ = λ q. never (sym (eq-eqb i (start_of s (slot_type s i)) q) ∙ o) in
          omega (arith, start_below s i, e)

      pub first_is : (slot_at s i).first ≡ i - slot_type s i - 1
      unfolding slot_at
      first_is = pick_no _ _ _ o

      pub first_within : (slot_at s i).first < (slot_at s i).end
      unfolding slot_at
      first_within =
          let t = slot_type s i in
          let e : (slot_at s i).end ≡ i - t = pick_no _ _ _ o in
          omega (arith, first_is, e, after_start, types_below s t)

      pub first_typed : type_of s (slot_at s i).first ≡ slot_type s i
      unfolding start_of
      first_typed =
          let t = slot_type s i in
          rw first_is
          (typed s t (i - t - 1) slot_below (omega (arith, after_start)) (omega (arith, after_start, slot_end)))

      pub first_there : (slot_at s i).first < elements_of s
      unfolding start_of
      first_there = rw first_is (omega (arith, after_start, slot_end, type_there))

      pub kind_first : kind_at s (slot_at s i).first ≡ (slot_at s i).kind
      unfolding kind_at slot_at
      kind_first = ap (λ (t : ℕ). kind_of (type_code s t)) first_typed
