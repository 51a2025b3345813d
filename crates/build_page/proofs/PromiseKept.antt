-- The call keeps its promise, and the promise settles the outcome. Assumes nothing.
use Rattle.std.specs.Prelude.{Ok, Err}
use mathlib.Core.Path.{◌≡◌, refl, sym, ap, ◌∙◌}
use mathlib.Core.Bool.{Bool, true, false, not, ◌&&◌, ◌||◌}
use mathlib.Core.List.{List}
use mathlib.Core.Logic.{inl, inr}
use Prim.Native.Nat.{ℕ, zero, suc, ◌*◌, ◌<◌}
use native.Mathlib.Omega.{arith}
use lib.Dec.{eqb}
use lib.ListN.{length}
use borrow.Author.Tests.{eqb-true}
use Rattle.bits.specs.Choice.{all_below}
use Rattle.bits.specs.Numbers.{Bytes}
use Rattle.bits.proofs.Logic.{never, below_at}
use Rattle.element.specs.Settings.{settings_of}
use Rattle.build_element.specs.Wishes.{in_reach}
use Rattle.refusals.specs.declared.Refusal.{Refusal}
use Rattle.refusals.specs.declared.Refusal.TheVariants.{ShelfNotWellFormed, WantedList, Unreachable}
use Rattle.refusals.specs.Outcomes.{next}
use Rattle.refusals.proofs.AcceptedTests.{held, not_held, held_both}
use Rattle.shelf.specs.Types.{elements_of, kind_at}
use Rattle.shelf.specs.Elements.{settings_at}
use Rattle.shelf.specs.SettingsList.{settings_in}
use Rattle.shelf_formed.specs.Formed.{well_formed}
use Rattle.page.specs.Slots.{slots_of}
use Rattle.page.specs.Header.{shelf_tested}
use Rattle.build_page.specs.Outcome.{passed_on, built_of, left_by, BuildAnswer}
use Rattle.build_page.specs.Promise.{may_be, number_tested, records_tested, wish_tested, Best, OutOfReach, Answered, Passed, Promised}
use Rattle.build_page.specs.Page.{selects_for, control_page, reachable, reach_tested}
use Rattle.build_page.proofs.FirstPage.{made_selects}
use Rattle.build_page.proofs.PageReaches.{out_of_reach}
use Rattle.build_page.proofs.BestPage.{made_best, only_one}
use Rattle.refusals.specs.Answers.{Answer}

-- a test that does not pass at each number fails at one
some_fails : (f : ℕ → Bool) (n : ℕ) → all_below f n ≡ false → (j : ℕ) × (j < n) × (f j ≡ false)
some_fails f zero t = never t
some_fails f (suc n) t = go (all_below f n) (f n) refl refl t (some_fails f n)
  where
    go : (a b : Bool) → all_below f n ≡ a → f n ≡ b → a && b ≡ false → (all_below f n ≡ false → (j : ℕ) × (j < n) × (f j ≡ false)) → (j : ℕ) × (j < suc n) × (f j ≡ false)
    go true true p q u h = never u
    go true false p q u h = (n, omega arith, q)
    go false b p q u h = let z = h p in (z.0, omega (arith, z.1), z.2)

-- a SWAP that is wanted and not stored
out_of : (a b : Bool) → a || not b ≡ false → (a ≡ false) × (b ≡ true)
out_of true b t = never t
out_of false true t = (refl, refl)
out_of false false t = never t

into : (a b : Bool) → a || not b ≡ true → b ≡ true → a ≡ true
into true b t u = refl
into false true t u = never (sym t)
into false false t u = never (sym u)

-- where a SWAP is wanted that is not stored, no page reaches the wish
pub no_page : (s w : List ℕ) → all_below (reachable s w) (elements_of s) ≡ false → OutOfReach s w
no_page s w t q r =
    let z = some_fails (reachable s w) (elements_of s) t in
    let v = swaps z.0 z.2 in
    out_of_reach s w z.0 z.1 v.1 v.0 q r.2
  where
    swaps : (j : ℕ) → reachable s w j ≡ false → ((settings_of (kind_at s j) (settings_at s j)).swap ≡ false) × ((settings_of (kind_at s j) (settings_in w j)).swap ≡ true)
    swaps j f = unfold reachable in_reach in out_of _ _ f

-- else the best page is the one that is made, if the wish passes the tests
module _ (s w : List ℕ) (taken : wish_tested s w ≡ Ok tt) where
  all_passed : (well_formed s ≡ true) × (length w ≡ 4 * elements_of s) × (all_below (may_be s w) (elements_of s) ≡ true)
  unfolding wish_tested
  all_passed =
      let n = elements_of s in
      let b = held_both (shelf_tested s) (next (number_tested w n) (records_tested s w n)) taken in
      let f = (held (well_formed s) ShelfNotWellFormed (Ok tt) b.0).0 in
      let d = held_both (number_tested w n) (records_tested s w n) b.1 in
      let l = (held (eqb (length w) (4 * n)) WantedList (Ok tt) d.0).0 in
      (f, eqb-true _ _ l, (held (all_below (may_be s w) n) WantedList (Ok tt) d.1).0)

  swap_stored : (j : ℕ) → reachable s w j ≡ true → (settings_of (kind_at s j) (settings_in w j)).swap ≡ true → (settings_of (kind_at s j) (settings_at s j)).swap ≡ true
  unfolding reachable in_reach
  swap_stored j f = into _ _ f

  pub best_page : Bytes s → Bytes w → all_below (reachable s w) (elements_of s) ≡ true → Best s w (control_page s w)
  best_page hs hw t =
      let z = all_passed in
      made_best s w z.0 hs hw z.1
      (λ j l. (below_at (may_be s w) (elements_of s) z.2 j l, swap_stored j (below_at (reachable s w) (elements_of s) t j l)))

pub reach_held : (s w : List ℕ) (n : ℕ) {d : Answer} → d ≡ reach_tested s w n → d ≡ Ok tt → all_below (reachable s w) n ≡ true
reach_held s w n h u = (held (all_below (reachable s w) n) Unreachable (Ok tt) (sym h ∙ u)).0

module _ (s w out : List ℕ) where
  pub wish_refused : {a : Answer} {x : Refusal} {r : BuildAnswer} → a ≡ wish_tested s w → a ≡ Err x → r ≡ passed_on a → Promised s w out r out
  wish_refused {a} {x} {r} p u h =
      let t : wish_tested s w ≡ Err x = sym p ∙ u in
      let q : r ≡ Err x = h ∙ ap passed_on u in
      rw t (q, refl)

  module _ {a : Answer} (p : a ≡ wish_tested s w) (u : a ≡ Ok tt) where
    taken : wish_tested s w ≡ Ok tt
    taken = sym p ∙ u

    pub wish_there : (well_formed s ≡ true) × (length w ≡ 4 * elements_of s)
    wish_there = let z = all_passed s w taken in (z.0, z.1)

    reach_is : {n : ℕ} {d b : Bool} → n ≡ elements_of s → d ≡ all_below (reachable s w) n → d ≡ b → all_below (reachable s w) (elements_of s) ≡ b
    reach_is e h t = ap (all_below (reachable s w)) (sym e) ∙ sym h ∙ t

    pub none_reaches : {n : ℕ} {d : Bool} → n ≡ elements_of s → d ≡ all_below (reachable s w) n → d ≡ false → Promised s w out (Err Unreachable) out
    none_reaches e h t = rw taken (inl (no_page s w (reach_is e h t), refl, refl))

    pub reach_refused : {n : ℕ} {d : Answer} {x : Refusal} {r : BuildAnswer} → n ≡ elements_of s → d ≡ reach_tested s w n → d ≡ Err x → r ≡ passed_on d
        → Promised s w out r out
    reach_refused {n} {d} {x} {r} e h t q =
        let z = not_held (all_below (reachable s w) n) Unreachable h t in
        let y : r ≡ Err Unreachable = q ∙ ap passed_on (t ∙ ap Err z.1) in
        rw y (none_reaches e refl z.0)

    pub page_promised : Bytes s → Bytes w → {n : ℕ} {d : Bool} {r : BuildAnswer} {y : List ℕ} → n ≡ elements_of s → d ≡ all_below (reachable s w) n → d ≡ true
        → r ≡ built_of (control_page s w) (selects_for s w (slots_of s)) out → y ≡ left_by r (control_page s w) out → Promised s w out r y
    page_promised hs hw e h t q v =
        rw taken
        (inr (
          control_page s w,
          best_page s w taken hs hw (reach_is e h t),
          q ∙ ap (λ (m : ℕ). built_of (control_page s w) m out) (sym (made_selects s w)),
          v,
        ))

  -- two outcomes that keep the promise are one
  pub settles : (r q : BuildAnswer) (y z : List ℕ) → Promised s w out r y → Promised s w out q z → (r ≡ q) × (y ≡ z)
  settles r q y z h l = go (wish_tested s w) h l
    where
      answered : Answered s w out r y → Answered s w out q z → (r ≡ q) × (y ≡ z)
      answered (inl a) (inl b) = (a.1 ∙ sym b.1, a.2 ∙ sym b.2)
      answered (inl a) (inr b) = absurd (a.0 b.0 b.1.0)
      answered (inr a) (inl b) = absurd (b.0 a.0 a.1.0)
      answered (inr a) (inr b) =
          let p : a.0 ≡ b.0 = only_one s w a.0 b.0 a.1 b.1 in
          let e : r ≡ q = a.2 ∙ rw p (sym b.2) in
          (e, a.3 ∙ rw (e, p) (sym b.3))

      go : (t : Answer) → Passed t s w out r y → Passed t s w out q z → (r ≡ q) × (y ≡ z)
      go (Ok _) a b = answered a b
      go (Err x) a b = (a.0 ∙ sym b.0, a.1 ∙ sym b.1)
