-- The run of an element: its type with the elements of that type; and the run of the next, from it. Assumes nothing.
use mathlib.Core.Path.{◌≡◌, refl, sym, ap, ◌∙◌}
use mathlib.Core.Bool.{true, not}
use mathlib.Core.List.{List}
use Prim.Native.Nat.{ℕ, zero, suc, ◌+◌, ◌<◌, ◌≤◌}
use native.Mathlib.Numerals.{add-one}
use native.Mathlib.Omega.{arith}
use borrow.Author.Tests.{lt-ltb, le-ltb, ltb-true, ltb-false}
use lib.Dec.{ltb}
use Rattle.bits.specs.Choice.{all_below}
use Rattle.bits.proofs.Logic.{by_case, below_all, below_next, first_at, first_none, first_bound, first_fails}
use Rattle.shelf.specs.declared.types.Run.{Run}
use Rattle.shelf.specs.Limits.{most_types}
use Rattle.shelf.specs.Types.{type_count, before, within, ended_by, type_of, kind_at, run_with, run_of, run_at, carried}
use Rattle.shelf.proofs.ElementsBefore.{before_none, before_next}

module _ (s : List ℕ) (j : ℕ) where
  -- a search that stops at type t, or at the last
  pub type_here : (t : ℕ) → t < most_types → all_below (ended_by s j) t ≡ true → j < before s (t + 1) → type_of s j ≡ t
  unfolding type_of
  type_here t l a h = first_at (within s j) most_types t l a (lt-ltb j (before s (t + 1)) h)

  pub type_none : all_below (ended_by s j) most_types ≡ true → type_of s j ≡ most_types
  unfolding type_of
  type_none a = first_none (within s j) most_types a

  pub ended_next : (t : ℕ) → all_below (ended_by s j) t ≡ true → before s (t + 1) ≤ j → all_below (ended_by s j) (t + 1) ≡ true
  ended_next t a h = below_next (ended_by s j) t a (ap not (le-ltb j (before s (t + 1)) h))

  pub run_is : {t a e : ℕ} {r : Run} → type_of s j ≡ t → a ≡ before s t → e ≡ before s (t + 1) → r ≡ run_with s t a e → r ≡ run_at s j
  run_is q u v h = h ∙ rw (u, v, q)

  -- the type that a walk has may be the one
  type_stays : (t : ℕ) → t ≤ most_types → all_below (ended_by s j) t ≡ true → j < before s (t + 1) → type_of s j ≡ t
  type_stays t b a h =
      by_case (ltb t most_types)
      (λ e. type_here t (ltb-true t most_types e) a h)
      (λ e.
      let l = ltb-false t most_types e in
      let q : t ≡ most_types = omega (arith, l, b) in
      type_none (rw q at a) ∙ sym q)

module _ (s : List ℕ) where
  type_bound : (k : ℕ) → type_of s k ≤ most_types
  unfolding type_of
  type_bound k = first_bound (within s k) most_types

  -- all types before that of an element have ended before the next element
  ended_before : (j : ℕ) → all_below (ended_by s (suc j)) (type_of s j) ≡ true
  unfolding type_of
  ended_before j =
      below_all (ended_by s (suc j)) (type_of s j)
      (λ t l.
      let h = ltb-false j (before s (t + 1)) (first_fails (within s j) most_types t l) in
      ap not (le-ltb (suc j) (before s (t + 1)) (omega (arith, h))))

  pub run_first : {r : Run} {n : ℕ} → n ≡ type_count s 0 → r ≡ run_with s 0 0 n → r ≡ carried s 0
  run_first {r} {n} q h =
      let e : n ≡ before s 1 = omega (arith, q, before_none s, before_next s 0) in
      h ∙ rw (e, before_none s)

  pub run_behind : (j : ℕ) {r : Run} → r ≡ carried s j → (r.number ≤ most_types) × (r.before ≡ before s r.number) × (all_below (ended_by s j) r.number ≡ true)
  run_behind zero q = rw q (omega arith, refl, refl)
  run_behind (suc j) q = rw q (type_bound j, refl, ended_before j)

  run_whole : (j : ℕ) {r : Run} → r ≡ carried s j → r ≡ run_of s r.number
  run_whole zero q = rw q refl
  run_whole (suc j) q = rw q refl

  pub run_stays : (j : ℕ) {r : Run} → r ≡ carried s j → j < r.end → r ≡ run_at s j
  run_stays j {r} q h =
      let b = run_behind j q in
      let w = run_whole j q in
      let e : r.end ≡ before s (r.number + 1) = ap (λ (x : Run). x.end) w in
      w ∙ ap (run_of s) (sym (type_stays s j r.number b.0 b.2 (rw e at h)))

-- the run of element j: its kind, and that it is the one to go on from
module _ (s : List ℕ) (j : ℕ) {r : Run} (q : r ≡ run_at s j) where
  pub run_kind : r.kind ≡ kind_at s j
  unfolding kind_at
  run_kind = ap (λ (x : Run). x.kind) q

  pub run_small : r.number ≤ most_types
  run_small = rw q (type_bound s j)

  pub run_on : r ≡ carried s (j + 1)
  run_on = q ∙ sym (ap (carried s) (add-one j))
