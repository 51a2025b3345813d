-- The row that a search finds, over any search: no row comes before it, and some need not be tried. Assumes nothing.
use mathlib.Core.Path.{◌≡◌, refl, sym, ap, ◌∙◌}
use mathlib.Core.Bool.{Bool, true, false, not, ◌&&◌}
use mathlib.Core.List.{List, ◌++◌}
use mathlib.Core.Logic.{◌⊎◌, inl, inr, ⊎_elim}
use Prim.Native.Nat.{ℕ, zero, suc, ◌+◌, ◌<◌, ◌≤◌}
use native.Mathlib.Nat.{add-zero, not-suc-le-zero, le_of_suc-le-suc, eq-or-lt_of_le}
use native.Mathlib.Omega.{arith}
use lib.Dec.{eqb, ltb}
use lib.ListN.{length}
use borrow.Author.Tests.{eqb-true, ltb-true, ltb-false, le-ltb, eq-eqb, ne_eqb}
use Rattle.bits.specs.Choice.{first_below, sum_below}
use Rattle.bits.specs.Bits.{num}
use Rattle.bits.specs.Numbers.{big, Bytes}
use Rattle.bits.proofs.Logic.{never, by_case, pick_yes, pick_no, and_left, and_right, first_passes, first_fails}
use Rattle.bits.proofs.Halves.{num_small}
use Rattle.build_order.specs.Order.{NotAfter, sooner}
use Rattle.build_order.specs.Search.{Search, cost, better, best_tried, best_of, best}
use Rattle.build_order.proofs.Dictionary.{order_refl, order_front, by_number}

-- how many elements a row leaves: no more than one that serves no other, at most all, and all where it serves none
not_served : (f g : ℕ → Bool) (n : ℕ) → ((i : ℕ) → i < n → g i ≡ true → f i ≡ true) → sum_below (λ i. num (not (f i))) n ≤ sum_below (λ i. num (not (g i))) n
not_served f g zero h = omega arith
not_served f g (suc n) h = omega (arith, not_served f g n (λ i l. h i (omega arith)), last (f n) (g n) (h n (omega arith)))
  where
    last : (a b : Bool) → (b ≡ true → a ≡ true) → num (not a) ≤ num (not b)
    last a true t = rw (t refl) (omega arith)
    last a false t = num_small (not a)

most_served : (f : ℕ → Bool) (n : ℕ) → sum_below (λ i. num (not (f i))) n ≤ n
most_served f zero = omega arith
most_served f (suc n) = omega (arith, most_served f n, num_small (not (f n)))

none_served : (f : ℕ → Bool) (n : ℕ) → ((i : ℕ) → i < n → f i ≡ false) → sum_below (λ i. num (not (f i))) n ≡ n
none_served f zero h = refl
none_served f (suc n) h = rw (h n (omega arith)) (omega (arith, none_served f n (λ i l. h i (omega arith))))

module _ (q : Search) where
  -- a is not after b: it costs less, or as much and is not the larger number
  abbrev pub Ranks : List ℕ → List ℕ → Type 0
  Ranks a b = (cost q a < cost q b) ⊎ ((cost q a ≡ cost q b) × (big a ≤ big b))

  ranks_refl : (a : List ℕ) → Ranks a a
  ranks_refl a = inr (refl, omega arith)

  ranks_trans : (a b c : List ℕ) → Ranks a b → Ranks b c → Ranks a c
  ranks_trans a b c (inl h) (inl l) = inl (omega arith)
  ranks_trans a b c (inl h) (inr l) = inl (omega (arith, h, l.0))
  ranks_trans a b c (inr h) (inl l) = inl (omega (arith, l, h.0))
  ranks_trans a b c (inr h) (inr l) = inr (h.0 ∙ l.0, omega (arith, h.1, l.1))

  ranks_le : (a b : List ℕ) → cost q a ≤ cost q b → big a ≤ big b → Ranks a b
  ranks_le a b h l = ⊎_elim (λ (e : cost q a ≡ cost q b). inr (e, l)) (λ (e : cost q a < cost q b). inl e) (eq-or-lt_of_le h)

  -- the test of the two
  abbrev test : List ℕ → List ℕ → Bool
  test b a = sooner (cost q b) (big b) (cost q a) (big a)

  soon : (a b : List ℕ) → test b a ≡ true → Ranks b a
  soon a b t =
      by_case (ltb (cost q b) (cost q a)) (λ l. inl (ltb-true _ _ l))
      (λ l.
      let u : eqb (cost q b) (cost q a) && ltb (big b) (big a) ≡ true = rw l at t in
      let n = ltb-true (big b) (big a) (and_right (eqb (cost q b) (cost q a)) _ u) in
      inr (eqb-true (cost q b) (cost q a) (and_left _ _ u), omega arith))

  late : (a b : List ℕ) → test b a ≡ false → Ranks a b
  late a b t =
      by_case (ltb (cost q b) (cost q a)) (λ l. never (sym (early l) ∙ t))
      (λ l.
      let n = ltb-false (cost q b) (cost q a) l in
      ⊎_elim (λ (c : cost q a ≡ cost q b). inr (c, behind l c)) (λ (c : cost q a < cost q b). inl c) (eq-or-lt_of_le n))
    where
      early : ltb (cost q b) (cost q a) ≡ true → test b a ≡ true
      early l = rw l

      behind : ltb (cost q b) (cost q a) ≡ false → cost q a ≡ cost q b → big a ≤ big b
      behind l c =
          let e : eqb (cost q b) (cost q a) ≡ true = eq-eqb _ _ (sym c) in
          let u : ltb (big b) (big a) ≡ false = rw (l, e) at t in
          ltb-false (big b) (big a) u

  not_sooner : (a b : List ℕ) → Ranks a b → test b a ≡ false
  not_sooner a b (inl h) =
      let l : ltb (cost q b) (cost q a) ≡ false = le-ltb (cost q b) (cost q a) (omega (arith, h)) in
      let e : eqb (cost q b) (cost q a) ≡ false = ne_eqb (cost q b) (cost q a) (λ z. absurd (omega (arith, h, z))) in
      rw (l, e)
  not_sooner a b (inr h) =
      let l : ltb (cost q b) (cost q a) ≡ false = le-ltb (cost q b) (cost q a) (omega (arith, h.0)) in
      let n : ltb (big b) (big a) ≡ false = le-ltb (big b) (big a) h.1 in
      let e : eqb (cost q b) (cost q a) ≡ true = eq-eqb _ _ (sym h.0) in
      rw (l, e, n)

  -- the better of two is one of them, and not after either
  better_is : (a b : List ℕ) → ((better q a b ≡ b) × Ranks b a) ⊎ ((better q a b ≡ a) × Ranks a b)
  unfolding better
  better_is a b = by_case (test b a) (λ t. inl (pick_yes _ _ _ t, soon a b t)) (λ t. inr (pick_no _ _ _ t, late a b t))

  better_left : (a b : List ℕ) → Ranks (better q a b) a
  better_left a b = ⊎_elim (λ h. rw h.0 h.1) (λ h. rw h.0 (ranks_refl a)) (better_is a b)

  better_right : (a b : List ℕ) → Ranks (better q a b) b
  better_right a b = ⊎_elim (λ h. rw h.0 (ranks_refl b)) (λ h. rw h.0 h.1) (better_is a b)

  -- what one ranks before makes no difference to it
  better_same : (a b : List ℕ) → Ranks a b → better q a b ≡ a
  unfolding better
  better_same a b h = pick_no _ _ _ (not_sooner a b h)

  -- over what is tried for one record
  module _ (x a : List ℕ) where
    abbrev upto : ℕ → List ℕ
    upto v = best_tried q x a v

    upto_in : (P : List ℕ → Type 0) → P a → (v : ℕ) → ((u : ℕ) → u < v → P (q.tried x u)) → P (upto v)
    upto_in P h zero f = h
    upto_in P h (suc v) f =
        ⊎_elim (λ g. rw g.0 (f v (omega arith))) (λ g. rw g.0 (upto_in P h v (λ u l. f u (omega arith)))) (better_is (upto v) (q.tried x v))

    upto_start : (v : ℕ) → Ranks (upto v) a
    upto_start zero = ranks_refl a
    upto_start (suc v) = ranks_trans (upto (suc v)) (upto v) a (better_left (upto v) (q.tried x v)) (upto_start v)

    upto_among : (v u : ℕ) → u < v → Ranks (upto v) (q.tried x u)
    upto_among zero u l = absurd (not-suc-le-zero l)
    upto_among (suc v) u l =
        ⊎_elim
        (λ (e : u ≡ v). rw e (better_right (upto v) (q.tried x v)))
        (λ (e : u < v). ranks_trans (upto (suc v)) (upto v) (q.tried x u) (better_left (upto v) (q.tried x v)) (upto_among v u e))
        (eq-or-lt_of_le (le_of_suc-le-suc l))

    -- nothing new
    upto_same : (v : ℕ) → ((u : ℕ) → u < v → Ranks a (q.tried x u)) → upto v ≡ a
    upto_same zero h = refl
    upto_same (suc v) h =
        ap (λ (y : List ℕ). better q y (q.tried x v)) (upto_same v (λ u l. h u (omega arith)))
        ∙ better_same a (q.tried x v) (h v (omega arith))

    -- nor do more tries, where each repeats one of the first v
    pub tried_again : (v d : ℕ) → ((t : ℕ) → t < d → (u : ℕ) × (u < v) × (q.tried x (v + t) ≡ q.tried x u)) → upto (v + d) ≡ upto v
    tried_again v zero h = ap upto (add-zero v)
    tried_again v (suc d) h =
        let e : v + suc d ≡ suc (v + d) = omega arith in
        let z = h d (omega arith) in
        ap upto e
        ∙ ap (λ (y : List ℕ). better q y (q.tried x (v + d))) (tried_again v d (λ t l. h t (omega arith)))
        ∙ ap (better q (upto v)) z.2
        ∙ better_same (upto v) (q.tried x z.0) (upto_among v z.0 z.1)

  -- b is the start, or tried for element i
  abbrev pub TriedFor : ℕ → List ℕ → Type 0
  TriedFor i b = (b ≡ q.start) ⊎ ((v : ℕ) × (v < q.tries (q.wanted i)) × (b ≡ q.tried (q.wanted i) v))

  -- b serves what a does, and neither costs more nor stands later
  abbrev pub AsGood : List ℕ → List ℕ → Type 0
  AsGood b a = ((i : ℕ) → i < q.many → q.serves a i ≡ true → q.serves b i ≡ true) × (q.alone b ≤ q.alone a) × (big b ≤ big a)

  as_good : (b a : List ℕ) → AsGood b a → Ranks b a
  as_good b a h = ranks_le b a fewer h.2
    where
      fewer : cost q b ≤ cost q a
      fewer = unfold cost in omega (arith, h.1, not_served (q.serves b) (q.serves a) q.many h.0)

  -- over all records: the best is not after anything that is tried
  best_start : (n : ℕ) → Ranks (best_of q n) q.start
  best_start zero = ranks_refl q.start
  best_start (suc n) =
      ranks_trans (best_of q (suc n)) (best_of q n) q.start (upto_start (q.wanted n) (best_of q n) (q.tries (q.wanted n))) (best_start n)

  best_tried_lem : (n i v : ℕ) → i < n → v < q.tries (q.wanted i) → Ranks (best_of q n) (q.tried (q.wanted i) v)
  best_tried_lem zero i v l b = absurd (not-suc-le-zero l)
  best_tried_lem (suc n) i v l b =
      ⊎_elim
      (λ (e : i ≡ n). rw e (upto_among (q.wanted n) (best_of q n) (q.tries (q.wanted n)) v (rw e at b)))
      (λ (e : i < n).
      ranks_trans (best_of q (suc n)) (best_of q n) (q.tried (q.wanted i) v) (upto_start (q.wanted n) (best_of q n) (q.tries (q.wanted n))) (best_tried_lem n i v e b))
      (eq-or-lt_of_le (le_of_suc-le-suc l))

  pub best_among_lem : (n i : ℕ) → i < n → (b : List ℕ) → TriedFor i b → Ranks (best_of q n) b
  best_among_lem n i l b (inl e) = rw e (best_start n)
  best_among_lem n i l b (inr h) = rw h.2 (best_tried_lem n i h.0 l h.1)

  -- a record that came before brings nothing new
  pub best_again : (n i : ℕ) → i < n → q.wanted i ≡ q.wanted n → best_of q (suc n) ≡ best_of q n
  best_again n i l e =
      upto_same (q.wanted n) (best_of q n) (q.tries (q.wanted n))
      (λ v b. let c : v < q.tries (q.wanted i) = rw e b in rw (← e) (best_tried_lem n i v l c))

  -- the rows of a class, to which all that is tried belongs
  module _ (Row : List ℕ → Type 0) where
    pub record Facts : Type 0 where
      pub starts : Row q.start
      pub tries : (i v : ℕ) → v < q.tries (q.wanted i) → Row (q.tried (q.wanted i) v)
      -- they are bytes, as many in each
      pub long : (a b : List ℕ) → Row a → Row b → length a ≡ length b
      pub bytes : (a : List ℕ) → Row a → Bytes a
      -- the start costs nothing by itself and is the first in the dictionary; what is tried costs something
      pub free : q.alone q.start ≡ 0
      pub first : (a : List ℕ) → Row a → big q.start ≤ big a
      pub counts : (i v : ℕ) → v < q.tries (q.wanted i) → 1 ≤ q.alone (q.tried (q.wanted i) v)
      -- for a row that serves an element, one that is as good is tried for that element
      pub covered : (a : List ℕ) → Row a → (i : ℕ) → i < q.many → q.serves a i ≡ true → (b : List ℕ) × TriedFor i b × AsGood b a

    module _ (f : Facts) where
      pub best_row : (n : ℕ) → Row (best_of q n)
      best_row zero = f.starts
      best_row (suc n) = upto_in (q.wanted n) (best_of q n) Row (best_row n) (q.tries (q.wanted n)) (f.tries n)

      -- nothing is better where the start costs one at most
      tried_counts : (i v : ℕ) → v < q.tries (q.wanted i) → 1 ≤ cost q (q.tried (q.wanted i) v)
      unfolding cost
      tried_counts i v l = omega (arith, f.counts i v l)

      pub best_none : cost q q.start ≤ 1 → (n : ℕ) → best_of q n ≡ q.start
      best_none h zero = refl
      best_none h (suc n) =
          ap (λ (y : List ℕ). best_tried q (q.wanted n) y (q.tries (q.wanted n))) (best_none h n)
          ∙ upto_same (q.wanted n) q.start (q.tries (q.wanted n))
          (λ v l. ranks_le q.start (q.tried (q.wanted n) v) (omega (arith, tried_counts n v l)) (f.first _ (f.tries n v l)))

      -- no row comes before the best: one that serves no element does not come before the start
      best_ranks : (a : List ℕ) → Row a → Ranks (best q) a
      unfolding best
      best_ranks a r = by_case (ltb (first_below (q.serves a) q.many) q.many) (λ t. some (ltb-true _ _ t)) (λ t. none (ltb-false _ _ t))
        where
          some : first_below (q.serves a) q.many < q.many → Ranks (best_of q q.many) a
          some l =
              let i = first_below (q.serves a) q.many in
              let c = f.covered a r i l (first_passes (q.serves a) q.many l) in
              ranks_trans (best_of q q.many) c.0 a (best_among_lem q.many i l c.0 c.1) (as_good c.0 a c.2)

          fewer : q.many ≤ first_below (q.serves a) q.many → cost q q.start ≤ cost q a
          fewer l =
              let m = most_served (q.serves q.start) q.many in
              let n = none_served (q.serves a) q.many (λ i b. first_fails (q.serves a) q.many i (omega arith)) in
              unfold cost in omega (arith, m, n, f.free)

          none : q.many ≤ first_below (q.serves a) q.many → Ranks (best_of q q.many) a
          none l = ranks_trans (best_of q q.many) q.start a (best_start q.many) (ranks_le q.start a (fewer l) (f.first a r))

      -- the same with the rows that stand behind each
      pub best_first : (rest : List ℕ → List ℕ) (a : List ℕ) → Row a → NotAfter (cost q (best q)) (best q ++ rest (best q)) (cost q a) (a ++ rest a)
      best_first rest a r = go (best_ranks a r)
        where
          found : Row (best q)
          found = unfold best in best_row q.many

          go : Ranks (best q) a → NotAfter (cost q (best q)) (best q ++ rest (best q)) (cost q a) (a ++ rest a)
          go (inl h) = inl h
          go (inr h) =
              inr (
                h.0,
                order_front (best q) a (rest (best q)) (rest a) (f.long (best q) a found r)
                    (by_number (best q) a (f.long (best q) a found r) (f.bytes (best q) found) (f.bytes a r) h.1)
                    (λ e. rw e (order_refl (rest a))),
              )
