-- The call that builds a page, one refusal after the other. Assumes nothing.
use Rattle.std.specs.Prelude.{Ok, Err}
use mathlib.Core.Path.{◌≡◌, sym, ap, ◌∙◌}
use mathlib.Core.Bool.{true}
use mathlib.Core.List.{List, ◌++◌}
use Prim.Native.Nat.{ℕ, ◌*◌, ◌≤◌}
use lib.Dec.{eqb, leb}
use lib.ListN.{length, drop}
use borrow.Author.Tests.{eqb-true, le-leb}
use Rattle.bits.specs.Rows.{joined}
use Rattle.refusals.specs.declared.Refusal.{Refusal}
use Rattle.refusals.specs.declared.Refusal.TheVariants.{WantedList, OutputTooShort}
use Rattle.std.specs.Result.{result_and}
use Rattle.refusals.specs.Outcomes.{next, fitted}
use Rattle.refusals.proofs.AcceptedTests.{held}
use Rattle.refusals.proofs.Left.{fits_bytes, fits_not}
use Rattle.refusals.proofs.Stages.{stopped, gone_on}
use Rattle.shelf.specs.Types.{elements_of}
use Rattle.page.specs.Slots.{slots_of, slot_place, slots_put}
use Rattle.page.specs.Header.{shelf_tested, header, head_put}
use Rattle.page.proofs.PagePut.{length-page, page_placed}
use Rattle.build_page.specs.Outcome.{nothing, built_of, left_by, BuildAnswer}
use Rattle.build_page.specs.Promise.{number_tested, records_tested, wish_tested}
use Rattle.build_page.specs.Page.{row_for, selects_for, control_page}
use Rattle.build_page.proofs.FirstSlots.{row_for_length}
use Rattle.refusals.specs.Answers.{Answer, Counted}

-- the tests of the wish
module _ (s w : List ℕ) {a : Answer} (p : a ≡ shelf_tested s) where
  abbrev behind : ℕ → Answer
  behind n = next (number_tested w n) (records_tested s w n)

  pub shelf_refused : {r : Refusal} → a ≡ Err r → a ≡ wish_tested s w
  unfolding wish_tested
  shelf_refused u = stopped (shelf_tested s) (behind (elements_of s)) p u

  module _ (u : a ≡ Ok tt) {n : ℕ} (q : n ≡ elements_of s) where
    shelf_passed : {d : Answer} → d ≡ behind n → d ≡ wish_tested s w
    unfolding wish_tested
    shelf_passed e = gone_on (shelf_tested s) (behind (elements_of s)) p u (e ∙ ap behind q)

    module _ {b : Answer} (k : b ≡ number_tested w n) where
      pub other_number : {r : Refusal} → b ≡ Err r → b ≡ wish_tested s w
      other_number v = shelf_passed (stopped (number_tested w n) (records_tested s w n) k v)

      module _ (v : b ≡ Ok tt) where
        pub as_many : length w ≡ 4 * n
        as_many = eqb-true (length w) (4 * n) (held (eqb (length w) (4 * n)) WantedList (Ok tt) (sym k ∙ v)).0

        pub records_last : {d : Answer} → d ≡ records_tested s w n → d ≡ wish_tested s w
        records_last e = shelf_passed (gone_on (number_tested w n) (records_tested s w n) k v e)

-- the page, where the output buffer holds it
module _ (s w out : List ℕ) {n k : ℕ} (e : n ≡ slots_of s) (p : k ≡ slot_place n) where
  page_length : length (control_page s w) ≡ k
  unfolding control_page
  page_length = length-page (row_for s w) (row_for_length s w) s 0x02 0 (slots_of s) ∙ ap slot_place (sym e) ∙ sym p

  module _ {f : Counted} (q : f ≡ fitted k (length out)) where
    pub no_room : {x : Refusal} {r : BuildAnswer} → f ≡ Err x → r ≡ result_and f (Ok nothing)
        → (r ≡ built_of (control_page s w) (selects_for s w (slots_of s)) out) × (out ≡ left_by r (control_page s w) out)
    no_room {x} {r} u h =
        let z = fits_not k (length out) (sym q ∙ u) in
        let t : r ≡ Err OutputTooShort = h ∙ ap (λ (y : Counted). result_and y (Ok nothing)) (u ∙ ap Err z.1) in
        (t ∙ sym (rw (page_length, z.0)), rw t)

    pub room : {b : ℕ} → f ≡ Ok b → (k ≤ length out) × (b ≡ k)
    room u = fits_bytes k (length out) (sym q ∙ u)

  module _ (l : k ≤ length out) where
    pub page_built : {b m : ℕ} → b ≡ k → m ≡ selects_for s w n → Ok (record { bytes = b; selects = m }) ≡ built_of (control_page s w) (selects_for s w (slots_of s)) out
    page_built {b} {m} g h = let t : leb k (length out) ≡ true = le-leb k (length out) l in rw g (sym (rw (page_length, t, ← e, h)))

    pub page_left : {b : ℕ} (m : ℕ) {x y : List ℕ} → b ≡ k → x ≡ head_put s out 0x02 0 n → y ≡ slots_put (row_for s w) x n → y ≡ left_by (Ok (record { bytes = b; selects = m })) (control_page s w) out
    unfolding control_page
    page_left m g u v =
        let z = length-page (row_for s w) (row_for_length s w) s 0x02 0 n ∙ sym p ∙ sym g in
        rw (← e)
        (page_placed (row_for s w) (row_for_length s w) s out 0x02 0 n (rw (← p) l) u v
        ∙ ap (λ (i : ℕ). header s 0x02 0 n ++ joined (row_for s w) n ++ drop i out) z)
