-- The walk over the slots of a page says what the search does. Assumes nothing.
use mathlib.Core.Path.{◌≡◌, sym, ap, ap₂, ◌∙◌}
use mathlib.Core.Bool.{Bool, true, false}
use mathlib.Core.List.{List}
use Prim.Native.Nat.{ℕ, zero, suc, ◌+◌, ◌-◌, ◌<◌, ◌≤◌}
use native.Mathlib.Numerals.{add-one}
use native.Mathlib.Omega.{arith}
use lib.Dec.{eqb, ltb}
use borrow.Author.Tests.{ltb-true, ltb-false, eq-eqb, ne_eqb, eqb-true, eqb-false}
use Rattle.bits.specs.Choice.{pick}
use Rattle.bits.specs.Bits.{num}
use Rattle.bits.proofs.Logic.{by_case}
use Rattle.bits.proofs.Halves.{num_small}
use Rattle.element.specs.declared.types.Kind.{Kind}
use Rattle.element.specs.Types.{kind_of}
use Rattle.shelf.specs.declared.types.Run.{Run}
use Rattle.shelf.specs.Limits.{most_types, HasTypes, HasType}
use Rattle.shelf.specs.Types.{type_code, type_count, before, elements_of, type_of, kind_at, run_at, carried}
use Rattle.shelf.proofs.TypeRuns.{run_on}
use Rattle.shelf_formed.specs.Formed.{front_formed}
use Rattle.shelf_formed.proofs.FrontOfShelf.{front, front_get, alike, before_alike, type_alike, kind_alike}
use Rattle.shelf_formed.proofs.ElementTypes.{type_below}
use Rattle.page.specs.declared.slots.Slot.{Slot}
use Rattle.page.specs.declared.slots.SlotRun.{SlotRun}
use Rattle.page.specs.declared.places.Places.{Places}
use Rattle.page.specs.Slots.{slots_of, start_of, slot_type, is_overall, slot_at, slot_run_of, slot_run, slot_carried, slot_in}
use Rattle.page.specs.Places.{places_of, places_in}
use Rattle.page.proofs.SlotsBefore.{start_none, start_next}
use Rattle.page.proofs.SlotTypes.{start_below, type_ends, slotted, types_below}
use Rattle.page.proofs.SlotsOfFront.{in_last, slot_below, slot_end}

module _ (c : List ℕ) (w : front_formed c ≡ true) where
  -- still before the end of the type
  pub slot_stays : (i : ℕ) {r : SlotRun} → i < slots_of c → r ≡ slot_carried c i → i < r.end
      → record { kind = r.kind; overall = false; types = r.types; end = r.end } ≡ slot_run c i
  unfolding is_overall
  slot_stays zero l q h = let z : 0 < 0 = rw q at h in absurd (omega arith)
  slot_stays (suc k) l q h =
      let t = slot_type c k in
      let b = start_below c k in
      let e : slot_type c (suc k) ≡ t = slotted c t (suc k) (slot_below c w k (omega arith)) (omega arith) (rw q at h) in
      rw q (ap₂ (slot_run_of c) (sym e) (sym (inside e b)))
    where
      inside : slot_type c (suc k) ≡ slot_type c k → start_of c (slot_type c k) ≤ k → is_overall c (suc k) ≡ false
      inside e b = rw e (ne_eqb (suc k) (start_of c (slot_type c k)) (λ x. omega (arith, x, b)))

  -- the next type starts with slot i
  pub slot_steps : (i : ℕ) {r : SlotRun} → i < slots_of c → r ≡ slot_carried c i → r.end ≤ i
      → (r.types < most_types) × (i ≡ start_of c r.types) × (slot_type c i ≡ r.types)
  slot_steps zero l q h =
      rw q (omega arith, sym (start_none c), slotted c 0 0 (omega arith) (omega (arith, start_none c)) (omega (arith, start_next c 0)))
  slot_steps (suc k) l q h =
      let t = slot_type c k in
      let b = slot_below c w k (omega arith) in
      let m : start_of c (t + 1) ≤ suc k = rw q at h in
      let e : suc k ≡ start_of c (t + 1) = omega (arith, m, type_ends c k b) in
      let n : t + 1 < most_types = not_last k t l b e in
      rw q (n, e, slotted c (t + 1) (suc k) n m (omega (arith, e, start_next c (t + 1))))
    where
      not_last : (k t : ℕ) → suc k < slots_of c → t < most_types → suc k ≡ start_of c (t + 1) → t + 1 < most_types
      not_last k t l b e =
          by_case (ltb (t + 1) most_types) (ltb-true (t + 1) most_types)
          (λ x.
          let g = ltb-false (t + 1) most_types x in
          let y : t + 1 ≡ most_types = omega (arith, g, b) in
          absurd (omega (arith, in_last c w (suc k) l, e, ap (start_of c) y)))

  module _ (i : ℕ) (l : i < slots_of c) {r : SlotRun} (q : r ≡ slot_carried c i) (h : r.end ≤ i) where
    pub next_there : HasTypes c → HasType c r.types
    next_there m = omega (arith, (slot_steps i l q h).0, m)

    pub next_run : {b n : ℕ} {k : Kind} → b ≡ type_code c r.types → k ≡ kind_of b → n ≡ type_count c r.types
        → record { kind = k; overall = true; types = r.types + 1; end = i + n + 1 } ≡ slot_run c i
    unfolding is_overall
    next_run {b} {n} {k} u v x =
        let s = slot_steps i l q h in
        let e : i + n + 1 ≡ start_of c (r.types + 1) = omega (arith, s.1, x, start_next c r.types) in
        rw (s.2, v, u, eq-eqb i (start_of c r.types) s.1, e)

  -- what the slot is for
  module _ (i : ℕ) (l : i < slots_of c) {r : SlotRun} (q : r ≡ slot_run c i) where
    pub run_stands : (i < r.end) × (r.types ≤ i + num r.overall)
    unfolding is_overall
    run_stands = rw q (slot_end c w i l, stands)
      where
        stands : slot_type c i + 1 ≤ i + num (is_overall c i)
        stands =
            let t = slot_type c i in
            by_case (eqb i (start_of c t)) (λ b. rw b (omega (arith, start_below c i, types_below c t)))
            (λ b. let n = eqb-false i (start_of c t) b in rw b (omega (arith, start_below c i, types_below c t, n)))

module _ (c : List ℕ) (i : ℕ) {r : SlotRun} (q : r ≡ slot_run c i) where
  pub run_kind : r.kind ≡ (slot_at c i).kind
  unfolding slot_at
  run_kind = ap (λ (x : SlotRun). x.kind) q

  pub run_overall : r.overall ≡ (slot_at c i).overall
  unfolding slot_at
  run_overall = ap (λ (x : SlotRun). x.overall) q

  slot_run_lem : slot_in r i ≡ slot_at c i
  unfolding slot_in slot_at is_overall
  slot_run_lem =
      let t = slot_type c i in
      let k = kind_of (type_code c t) in
      ap (λ (x : SlotRun). slot_in x i) q
      ∙ by_case (eqb i (start_of c t))
      (λ b.
      let e = eqb-true i (start_of c t) b in
      let f : i + 1 - (t + 1) ≡ i - t = omega arith in
      let n : start_of c (t + 1) - (t + 1) ≡ i - t + type_count c t = omega (arith, e, start_next c t, types_below c t) in
      rw b (λ x. record { kind = k; overall = true; first = f x; end = n x }))
      (λ b.
      let f : i + 1 - (t + 1) - 1 ≡ i - t - 1 = omega arith in
      let n : i + 1 - (t + 1) ≡ i - t = omega arith in
      rw b (λ x. record { kind = k; overall = false; first = f x; end = n x }))

  pub slot_walked : {at : Slot} → at ≡ slot_in r i → at ≡ slot_at c i
  slot_walked h = h ∙ slot_run_lem

  -- the run to go on from
  pub walk_on : r ≡ slot_carried c (i + 1)
  walk_on = q ∙ sym (ap (slot_carried c) (add-one i))

-- what a slot is for, as the code puts it together
in_slot : (r : SlotRun) (i : ℕ) {a b : Bool} → a ≡ b
    → ◌≡◌ {A = Slot}
    (record { kind = r.kind; overall = a; first = pick a (i + 1 - r.types) (i + 1 - r.types - 1); end = pick a (r.end - r.types) (i + 1 - r.types) })
    (record { kind = r.kind; overall = b; first = pick b (i + 1 - r.types) (i + 1 - r.types - 1); end = pick b (r.end - r.types) (i + 1 - r.types) })
in_slot r i e = rw e

module _ (r : SlotRun) (i : ℕ) (h : r.types ≤ i + num r.overall) where
  pub types_fit : r.types ≤ i + 1
  types_fit = omega (arith, h, num_small r.overall)

  pub element_fits : r.overall ≡ false → 1 ≤ i + 1 - r.types
  element_fits b = let m : r.types ≤ i + 0 = rw b at h in omega arith

pub overall_in_lem : (r : SlotRun) (i : ℕ) → r.overall ≡ true
    → record { kind = r.kind; overall = true; first = i + 1 - r.types; end = r.end - r.types } ≡ slot_in r i
unfolding slot_in
overall_in_lem r i e = in_slot r i (sym e)

pub element_in : (r : SlotRun) (i : ℕ) → r.overall ≡ false
    → record { kind = r.kind; overall = false; first = i + 1 - r.types - 1; end = i + 1 - r.types } ≡ slot_in r i
unfolding slot_in
element_in r i e = in_slot r i (sym e)

-- the places of an element
pub places_run : (c : List ℕ) (j : ℕ) {r : Run} {x : Places} → r ≡ run_at c j → x ≡ places_in r j → x ≡ places_of c j
unfolding places_in places_of kind_at start_of
places_run c j q h = h ∙ rw q

-- shelves with the same front have the same walk
run_alike : (s x : List ℕ) → front x ≡ front s → (j : ℕ) → j < elements_of s → run_at x j ≡ run_at s j
unfolding kind_at
run_alike s x e j l =
    let m = type_below s j l in
    let t : type_of x j ≡ type_of s j = type_alike s x e j in
    let k : kind_at x j ≡ kind_at s j = kind_alike s x e j l in
    let a : before x (type_of x j) ≡ before s (type_of s j) = rw t (before_alike s x e (type_of s j) (omega arith)) in
    let b : before x (type_of x j + 1) ≡ before s (type_of s j + 1) = rw t (before_alike s x e (type_of s j + 1) (omega arith)) in
    λ i. record { kind = k i; number = t i; before = a i; end = b i }

carried_alike : (s x : List ℕ) → front x ≡ front s → (j : ℕ) → j < elements_of s → carried x j ≡ carried s j
carried_alike s x e zero l =
    let k : type_code x 0 ≡ type_code s 0 =
    alike s x e (λ (c : List ℕ). type_code c 0) (front_get x 44 (omega arith)) (front_get s 44 (omega arith)) in
    let a = before_alike s x e 0 (omega arith) in
    let b = before_alike s x e 1 (omega arith) in
    λ i. record { kind = kind_of (k i); number = 0; before = a i; end = b i }
carried_alike s x e (suc j) l = run_alike s x e j (omega arith)

-- a walk over one goes on over the other
module _ (s x : List ℕ) (e : front x ≡ front s) (j : ℕ) (l : j < elements_of s) where
  pub run_there : {r : Run} → r ≡ carried s j → r ≡ carried x j
  run_there q = q ∙ sym (carried_alike s x e j l)

  pub run_next : {r : Run} → r ≡ run_at x j → r ≡ carried s (j + 1)
  run_next q = run_on s j (q ∙ run_alike s x e j l)
