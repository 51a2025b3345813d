-- What one turn of each loop of the search does, and what it comes to. Assumes nothing.
use mathlib.Core.Path.{◌≡◌, refl, sym, ap, ◌∙◌}
use mathlib.Core.Bool.{Bool, true, false, not}
use mathlib.Core.List.{List}
use Prim.Native.Nat.{ℕ, suc, ◌+◌, ◌-◌, ◌/◌, ◌<◌, ◌≤◌}
use native.Mathlib.Numerals.{add-one}
use native.Mathlib.Omega.{arith}
use lib.ListN.{get_or}
use mir.Val.{bool_byte}
use borrow.Author.Tests.{lt-ltb, le-ltb, ltb-true}
use Rattle.bits.specs.Choice.{all_below, first_below, sum_below}
use Rattle.bits.specs.Bits.{num}
use Rattle.bits.proofs.Halves.{num_small}
use Rattle.bits.proofs.Logic.{by_case, pick_yes, pick_no, fails, first_none, first_at, first_passes}
use Rattle.element_control.specs.Control.{control_of}
use Rattle.bits.specs.Numbers.{big}
use Rattle.build_order.specs.Order.{sooner}
use Rattle.build_order.specs.Search.{Search, cost, better, best_tried, best_of, best}
use Rattle.build_order.proofs.BestRow.{best_again, best_none}
use Rattle.build_element.specs.Wishes.{silent, alike, brings}
use Rattle.build_element.specs.Parts.{selects, tried, tries}
use Rattle.build_element.proofs.RequestBytes.{select_counts}
use Rattle.build_element.proofs.FirstElement.{Row, alike_same}
use Rattle.build_element.proofs.BestPart.{search_facts}
use Rattle.shelf.specs.Elements.{settings_at}
use Rattle.shelf.specs.SettingsList.{settings_in}
use Rattle.page.specs.declared.slots.Slot.{Slot}
use Rattle.build_overall.specs.declared.Candidate.{Candidate}
use Rattle.build_overall.specs.Choice.{stored_from, wanted_from, search_at, cost_of, ranked, tried_one, best_after, best_among, repeated, overall_of}

bool_num : (b : Bool) → bool_byte b ≡ num b
bool_num true = refl
bool_num false = refl

pub bool_small : (b : Bool) → bool_byte b ≤ 1
bool_small b = rw (bool_num b) (num_small b)

-- the search for an equal record
module _ (w : List ℕ) (a j : ℕ) where
  abbrev pub like : ℕ → Bool
  like i = alike (settings_in w (a + i)) (settings_in w j)

  pub none_like : all_below (fails like) (a - a) ≡ true
  none_like = let z : a - a ≡ 0 = omega arith in rw z

  module _ (i : ℕ) (l : a ≤ i) {p q : List ℕ} {d : Bool} (hq : q ≡ settings_in w j) (hp : p ≡ settings_in w i) (hd : d ≡ alike p q) (none : all_below (fails like) (i - a) ≡ true) where
    like_is : like (i - a) ≡ d
    like_is = let z : a + (i - a) ≡ i = omega arith in rw (z, hd, hp, hq)

    pub found_like : i < j → d ≡ true → true ≡ repeated w a j
    unfolding repeated
    found_like b t =
        let z = first_at like (j - a) (i - a) (omega arith) none (like_is ∙ t) in
        let u : i - a < j - a = omega arith in
        sym (rw z (lt-ltb (i - a) (j - a) u))

    pub not_like : d ≡ false → all_below (fails like) (i + 1 - a) ≡ true
    not_like t = let z : i + 1 - a ≡ suc (i - a) = omega arith in rw (z, none, like_is, t)

  pub all_unlike : (n : ℕ) → n ≡ j - a → all_below (fails like) n ≡ true → false ≡ repeated w a j
  unfolding repeated
  all_unlike n z h = let g = first_none like n h in sym (rw (← z, g) (le-ltb n n (omega arith)))

module _ (s w : List ℕ) (at : Slot) where
  abbrev q : Search
  q = search_at s w at

  -- what is counted of the first n elements under the overall element o
  module _ (o : List ℕ) where
    abbrev does : ℕ → Bool
    does = q.serves o

    abbrev pub counted : ℕ → ℕ
    counted n = selects o + sum_below (λ i. num (not (does i))) n

    pub counted_none : get_or o 0 0 < 256 → (get_or o 0 0 / 128 ≤ 1) × (get_or o 0 0 / 128 ≡ counted (at.first - at.first))
    counted_none h = let z : at.first - at.first ≡ 0 = omega arith in (omega arith, rw z (omega (arith, select_counts o h)))

    pub counted_next : {p y : List ℕ} {d : Bool} {n : ℕ} (j : ℕ) → at.first ≤ j → p ≡ settings_at s j → y ≡ settings_in w j → d ≡ brings at.kind (control_of at.kind o) p y
        → n ≡ counted (j - at.first) → n + bool_byte (not d) ≡ counted (j + 1 - at.first)
    counted_next {p} {y} {d} {n} j l hp hy hd hn =
        let i = j - at.first in
        let z : at.first + i ≡ j = omega arith in
        let u : j + 1 - at.first ≡ suc i = omega arith in
        let g : does i ≡ d = rw (z, hd, hp, hy) in
        rw (u, g, bool_num (not d), hn) (omega arith)

    pub counted_all : {n : ℕ} (i : ℕ) → i ≡ q.many → n ≡ counted i → n ≡ cost_of s w at o
    unfolding cost_of cost
    counted_all i z g = g ∙ ap counted z

  -- the better of the best so far and o
  module _ (b : Candidate) (o : List ℕ) {n : ℕ} {d : Bool} (h : n ≡ cost_of s w at o) (g : d ≡ sooner n (big o) b.selects (big b.overall)) where
    told : {t : Bool} → d ≡ t → sooner (cost_of s w at o) (big o) b.selects (big b.overall) ≡ t
    told e = rw (← h) (sym g ∙ e)

    pub one_better : d ≡ true → record { overall = o; selects = n } ≡ tried_one s w at b o
    unfolding tried_one
    one_better t = ap (λ (y : ℕ). record { overall = o; selects = y }) h ∙ sym (pick_yes _ _ _ (told t))

    pub none_better : d ≡ false → b ≡ tried_one s w at b o
    unfolding tried_one
    none_better t = sym (pick_no _ _ _ (told t))

  ranked_better : (a o : List ℕ) → tried_one s w at (ranked s w at a) o ≡ ranked s w at (better q a o)
  unfolding tried_one better cost_of
  ranked_better a o = by_case (sooner (cost q o) (big o) (cost q a) (big a)) (λ t. rw t) (λ t. rw t)

  -- over what is tried for one record
  module _ (y a : List ℕ) where
    abbrev pub upto : ℕ → Candidate
    upto v = ranked s w at (best_tried q y a v)

    pub upto_next : {b r : Candidate} {z : List ℕ} (v : ℕ) → b ≡ upto v → z ≡ tried at.kind y v → r ≡ tried_one s w at b z → r ≡ upto (v + 1)
    upto_next v h g e = rw (add-one v) (rw (h, g) at e ∙ ranked_better (best_tried q y a v) (tried at.kind y v))

    pub upto_all : {b : Candidate} {n : ℕ} (v : ℕ) → n ≡ tries at.kind y → v ≡ n → b ≡ upto v → b ≡ ranked s w at (best_after s w at y a)
    unfolding best_after
    upto_all v h g e = e ∙ ap upto (g ∙ h)

  -- over the records
  pub best_ranked : {b : Candidate} (i : ℕ) → b ≡ best_among s w at i → b ≡ ranked s w at b.overall
  unfolding best_among
  best_ranked i h = rw h

  module _ (j : ℕ) (l : at.first ≤ j) where
    abbrev n : ℕ
    n = j - at.first

    wanted_is : q.wanted n ≡ settings_in w j
    wanted_is = let z : at.first + n ≡ j = omega arith in ap (settings_in w) z

    pub record_again : {b : Candidate} {d : Bool} → b ≡ best_among s w at n → d ≡ repeated w at.first j → d ≡ true → b ≡ best_among s w at (suc n)
    unfolding best_among repeated
    record_again h g t =
        let f = like w at.first j in
        let i = first_below f n in
        let u = ltb-true i n (sym g ∙ t) in
        let e : q.wanted i ≡ q.wanted n = alike_same (q.wanted i) (settings_in w j) refl refl (first_passes f n u) ∙ sym wanted_is in
        h ∙ ap (ranked s w at) (sym (best_again q n i u e))

    pub record_new : {b r : Candidate} {y : List ℕ} → b ≡ best_among s w at n → y ≡ settings_in w j → r ≡ ranked s w at (best_after s w at y b.overall) → r ≡ best_among s w at (suc n)
    unfolding best_among best_after
    record_new h g e = e ∙ rw h (ap (λ (y : List ℕ). ranked s w at (best_tried q y (best_of q n) (tries at.kind y))) (g ∙ sym wanted_is))

  pub none_chosen : {n : ℕ} → n ≡ cost_of s w at silent → n ≤ 1 → silent ≡ overall_of s w at
  unfolding overall_of cost_of best
  none_chosen h l = sym (best_none q (Row at.kind) (search_facts at.kind (stored_from s at.first) (wanted_from w at.first) q.many) (rw (← h) l) q.many)

  pub first_best : {n : ℕ} → n ≡ cost_of s w at silent → record { overall = silent; selects = n } ≡ best_among s w at (at.first - at.first)
  unfolding best_among
  first_best h = let z : at.first - at.first ≡ 0 = omega arith in rw (z, h)

  pub next_best : {b : Candidate} (j : ℕ) → at.first ≤ j → b ≡ best_among s w at (suc (j - at.first)) → b ≡ best_among s w at (j + 1 - at.first)
  next_best j l h = let z : j + 1 - at.first ≡ suc (j - at.first) = omega arith in rw z h

  pub all_best : {b : Candidate} (i : ℕ) → i ≡ q.many → b ≡ best_among s w at i → b.overall ≡ overall_of s w at
  unfolding best_among overall_of best
  all_best i z h = ap (λ (b : Candidate). b.overall) h ∙ ap (best_of q) z
