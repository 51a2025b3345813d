-- What the promise comes to: a page is built exactly if one reaches the wish, and applied it reaches it. Assumes nothing.
use Rattle.std.specs.Prelude.{Ok, Err}
use mathlib.Core.Path.{◌≡◌, sym, ap, ◌∙◌}
use mathlib.Core.Bool.{Bool, true, false}
use mathlib.Core.List.{List, ◌++◌}
use mathlib.Core.Logic.{inl, inr}
use Prim.Native.Nat.{ℕ, ◌+◌, ◌*◌, ◌<◌, ◌≤◌}
use native.Mathlib.Omega.{arith}
use lib.Dec.{eqb, leb}
use lib.ListN.{length, get_or, take, drop}
use lib.Seq.{take_at}
use borrow.Author.Tests.{eq-eqb}
use Rattle.bits.specs.Choice.{pick, all_below, sum_below}
use Rattle.bits.specs.Places.{four_at}
use Rattle.bits.specs.Numbers.{Bytes}
use Rattle.bits.proofs.Logic.{by_case, below_all}
use Rattle.bits.proofs.Rows.{length-joined}
use Rattle.build_order.specs.Search.{cost}
use Rattle.element.specs.Settings.{settings_formed}
use Rattle.element_control.proofs.Acting.{settled_formed}
use Rattle.refusals.specs.declared.Refusal.{Refusal}
use Rattle.refusals.specs.declared.Refusal.TheVariants.{Unreachable, OutputTooShort}
use Rattle.shelf.specs.Limits.{element_place}
use Rattle.shelf.specs.Types.{types_of, elements_of, kind_at}
use Rattle.shelf.specs.Elements.{settings_at}
use Rattle.shelf.specs.SettingsList.{stored_settings, settings_in}
use Rattle.shelf_formed.specs.Formed.{well_formed}
use Rattle.shelf_formed.proofs.FormedShelf.{in_element}
use Rattle.shelf_formed.proofs.ElementTypes.{front_formed_lem}
use Rattle.page.specs.Slots.{start_of, slot_place}
use Rattle.page.specs.Places.{own_slot, overall_slot, places_of}
use Rattle.control_page.specs.Brought.{settings_after, brought_to}
use Rattle.control_page.proofs.ValidPage.{valid_formed}
use Rattle.control_page.proofs.PageActs.{after_length}
use Rattle.control_page.proofs.Changes.{after, reached, settled_kept}
use Rattle.build_page.specs.Outcome.{bytes_built, selects_built, built_of, left_by, BuildAnswer}
use Rattle.build_page.specs.Promise.{may_be, wish_tested, selects_on, Reaching, Best, OutOfReach, Answered, Passed, Promised}
use Rattle.build_page.specs.Page.{search_in, control_page, reachable}
use Rattle.build_page.proofs.SlotsByType.{slots_end}
use Rattle.build_page.proofs.FirstSlots.{brought, needed_upto}
use Rattle.build_page.proofs.BestPage.{only_one}
use Rattle.build_page.proofs.PromiseKept.{no_page, best_page}
use Rattle.refusals.specs.Answers.{Answer}

-- a well-formed shelf takes a wish with a record for each element that its type may have
pub wish_taken : (s w : List ℕ) → well_formed s ≡ true → length w ≡ 4 * elements_of s → all_below (may_be s w) (elements_of s) ≡ true → wish_tested s w ≡ Ok tt
unfolding wish_tested
wish_taken s w f l m =
    let e : eqb (length w) (4 * elements_of s) ≡ true = eq-eqb _ _ l in
    rw (f, e, m)

-- a wish that some page reaches passes the tests
module _ (s w q : List ℕ) (r : Reaching s w q) where
  formed : well_formed s ≡ true
  formed = valid_formed s q r.1

  formed_after : (j : ℕ) → j < elements_of s → settings_formed (kind_at s j) (settings_after s q j) ≡ true
  unfolding settings_after places_of
  formed_after j l =
      settled_formed (kind_at s j) (four_at q (slot_place (overall_slot s j))) (four_at q (slot_place (own_slot s j))) (settings_at s j) (in_element s formed j l).0

  as_long_lem : length w ≡ 4 * elements_of s
  unfolding brought_to
  as_long_lem = omega (arith, ap length (sym r.2) ∙ length-joined (settings_after s q) 4 (after_length s q) (elements_of s))

  all_may_be : all_below (may_be s w) (elements_of s) ≡ true
  all_may_be = below_all (may_be s w) (elements_of s) (λ j l. ap (settings_formed (kind_at s j)) (sym (brought s w q r.2 j l)) ∙ formed_after j l)

  pub wish_passes : wish_tested s w ≡ Ok tt
  wish_passes = wish_taken s w formed as_long_lem all_may_be

  -- a page that reaches it has the SELECTs that each type needs with the overall element that the page has for it
  pub selects_needed : sum_below (λ t. cost (search_in s w t) (four_at q (slot_place (start_of s t)))) (types_of s) ≤ selects_on s q
  selects_needed = rw (← (slots_end s (front_formed_lem s formed))) (needed_upto s w q r.0 r.1 r.2 (types_of s) (omega arith))

-- applied, it brings the shelf to the wish
pub applied : (s w p : List ℕ) → Reaching s w p → stored_settings (after s p) ≡ w
applied s w p r = reached s p r.1 ∙ r.2

-- and an element that is wanted as it is stored keeps every byte
pub as_stored_kept : (s w p : List ℕ) → Reaching s w p → (j : ℕ) → j < elements_of s → settings_in w j ≡ settings_at s j
    → (q : ℕ) → q < 16 → get_or (after s p) (element_place j + q) 0 ≡ get_or s (element_place j + q) 0
as_stored_kept s w p r j l e = settled_kept s p j l (brought s w p r.2 j l ∙ e)

-- a page that is built is no refusal, and a short buffer not refusal 10
no_refusal : (n m : ℕ) (x : Refusal) → ◌≡◌ {A = BuildAnswer} (Ok (record { bytes = n; selects = m })) (Err x) → ⊥
no_refusal n m x e = let z : ◌≡◌ {A = ℕ} 0 1 = cc in absurd (omega arith)

not_ten : (b : Bool) (n m : ℕ) → pick {A = BuildAnswer} b (Ok (record { bytes = n; selects = m })) (Err OutputTooShort) ≡ Err Unreachable → ⊥
not_ten true n m e = no_refusal n m Unreachable e
not_ten false n m e = let z : ◌≡◌ {A = ℕ} 0 1 = cc in absurd (omega arith)

module _ (s w out : List ℕ) (r : BuildAnswer) (y : List ℕ) (h : Promised s w out r y) where
  answered : wish_tested s w ≡ Ok tt → Answered s w out r y
  answered e = rw e at h

  -- where some page reaches the wish, the best one is the outcome, if the output buffer holds it
  pub one_reaches : (q : List ℕ) → Reaching s w q → (p : List ℕ) × Best s w p × (r ≡ built_of p (selects_on s p) out) × (y ≡ left_by r p out)
  one_reaches q g = go (answered (wish_passes s w q g))
    where
      go : Answered s w out r y → (p : List ℕ) × Best s w p × (r ≡ built_of p (selects_on s p) out) × (y ≡ left_by r p out)
      go (inl a) = absurd (a.0 q g)
      go (inr b) = b

  -- 10 exactly if none does, of the wishes that pass the tests
  pub ten_if : wish_tested s w ≡ Ok tt → OutOfReach s w → r ≡ Err Unreachable
  ten_if e f = go (answered e)
    where
      go : Answered s w out r y → r ≡ Err Unreachable
      go (inl a) = a.1
      go (inr b) = absurd (f b.0 b.1.0)

  pub ten_only_if : r ≡ Err Unreachable → OutOfReach s w
  ten_only_if e q g = let b = one_reaches q g in not_ten (leb (length b.0) (length out)) _ _ (sym b.2 ∙ e)

  -- the bytes that are reported are the best page, and the SELECTs those of these bytes
  pub page_written : (n m : ℕ) → r ≡ Ok (record { bytes = n; selects = m }) → Best s w (take n y) × (m ≡ selects_on s (take n y)) × (y ≡ take n y ++ drop n out)
  page_written n m e = go (wish_tested s w) h
    where
      sizes : (p : List ℕ) (b : Bool) → ◌≡◌ {A = BuildAnswer} (Ok (record { bytes = n; selects = m })) (pick b (Ok (record { bytes = length p; selects = selects_on s p })) (Err OutputTooShort)) → (n ≡ length p) × (m ≡ selects_on s p)
      sizes p true q = (ap bytes_built q, ap selects_built q)
      sizes p false q = absurd (no_refusal n m OutputTooShort q)

      go : (a : Answer) → Passed a s w out r y → Best s w (take n y) × (m ≡ selects_on s (take n y)) × (y ≡ take n y ++ drop n out)
      go (Err x) b = absurd (no_refusal n m x (sym e ∙ b.0))
      go (Ok x) (inl a) = absurd (no_refusal n m Unreachable (sym e ∙ a.1))
      go (Ok x) (inr b) =
          let p = b.0 in
          let z = sizes p (leb (length p) (length out)) (sym e ∙ b.2) in
          let f : y ≡ p ++ drop n out = b.3 ∙ ap (λ (x : BuildAnswer). left_by x p out) e in
          let g : take n y ≡ p = ap (take n) f ∙ take_at p (drop n out) n (sym z.0) in
          rw g (b.1, z.1, f)

-- the best page is the one that is made
pub best_is_made : (s w p : List ℕ) → Bytes s → Bytes w → Best s w p → p ≡ control_page s w
best_is_made s w p hs hw b =
    by_case (all_below (reachable s w) (elements_of s))
    (λ t. only_one s w p (control_page s w) b (best_page s w (wish_passes s w p b.0) hs hw t))
    (λ t. absurd (no_page s w t p b.0))
