-- The tests of all rows one after the other, and what they say of each row. Assumes nothing.
use Rattle.std.specs.Prelude.{Result, Ok, Err}
use mathlib.Core.Path.{◌≡◌, refl, sym, ap, ◌∙◌}
use mathlib.Core.Bool.{Bool, true, false, not}
use mathlib.Core.List.{List}
use Prim.Native.Nat.{ℕ, ◌+◌, ◌<◌}
use native.Mathlib.Omega.{arith}
use lib.Dec.{eqb, ltb}
use Rattle.bits.specs.Choice.{pick, all_below, refused_in}
use Rattle.refusals.specs.declared.Refusal.TheVariants.{NotAllowed, NoSuchThreshold, ThresholdOrder}
use Rattle.refusals.specs.Outcomes.{of_page, not_allowed_at}
use Rattle.refusals.proofs.AcceptedTests.{held, held_both}
use Rattle.refusals.proofs.Stages.{offended, none_offended}
use Rattle.page.specs.Slots.{slot_at}
use Rattle.bits.proofs.Offence.{row_fine}
use Rattle.threshold_rows.proofs.Loops.{row_refused, none_refused}
use Rattle.threshold_rows.specs.declared.Seen.{Seen}
use Rattle.threshold_rows.specs.Rows.{on_page, row_place, row_at, first_set, row_offending, offence, row_had, all_had, row_ordered, all_ordered, had_tested, order_tested, limits_tested, rows_tested, slots_tested, seen, scanned, seen_tested}
use borrow.Author.Tests.{eqb-true, eqb-false, eq-eqb, ne_eqb}
use Rattle.bits.proofs.Logic.{fails, pick_no, below_at, below_all}
use Rattle.element.specs.Types.{had, ordered}
use Rattle.refusals.specs.Answers.{Answer, PageAnswer}

-- what one pass finds
module _ (c b : List ℕ) (k n : ℕ) where
  pub refused_row : (i : ℕ) {j m : ℕ} → i < n → all_below (fails (refused_in (row_offending c b k))) i ≡ true → j ≡ row_offending c b k i → j < 4 → m ≡ row_place k i
      → Err (m + j) ≡ scanned c b k n
  unfolding scanned
  refused_row i l a q t u =
      let e = row_refused c b k n i l a q t u in
      ap Err e ∙ sym (pick_no _ _ _ (ne_eqb (offence c b k n) (row_place k n) (λ z. omega (arith, z, e, l, t, u))))

  none : all_below (fails (refused_in (row_offending c b k))) n ≡ true → offence c b k n ≡ row_place k n
  none a = sym (none_refused c b k n a refl)

  pub rows_seen : {h o : Bool} → all_below (fails (refused_in (row_offending c b k))) n ≡ true → h ≡ all_below (row_had c b k) n → o ≡ all_below (row_ordered c b k) n
      → Ok (record { had = h; ordered = o }) ≡ scanned c b k n
  unfolding scanned all_had all_ordered
  rows_seen a p q = sym (rw (eq-eqb (offence c b k n) (row_place k n) (none a), p, q))

  -- and what that says
  module _ {x : Result Seen ℕ} (q : x ≡ scanned c b k n) where
    offending_at : {j : ℕ} → x ≡ Err j → (offence c b k n ≡ row_place k n → ⊥) × (j ≡ offence c b k n)
    unfolding scanned
    offending_at {j} u = go (eqb (offence c b k n) (row_place k n)) refl (sym u ∙ q)
      where
        go : (t : Bool) → eqb (offence c b k n) (row_place k n) ≡ t → Err j ≡ pick t (Ok (seen c b k n)) (Err (offence c b k n))
            → (offence c b k n ≡ row_place k n → ⊥) × (j ≡ offence c b k n)
        go true v e = let z : ◌≡◌ {A = ℕ} 0 1 = cc in absurd (omega arith)
        go false v e = (eqb-false (offence c b k n) (row_place k n) v, cc)

    module _ {s : Seen} (u : x ≡ Ok s) where
      all_clear : (offence c b k n ≡ row_place k n) × (s ≡ seen c b k n)
      unfolding scanned
      all_clear = go (eqb (offence c b k n) (row_place k n)) refl (sym u ∙ q)
        where
          go : (t : Bool) → eqb (offence c b k n) (row_place k n) ≡ t → Ok s ≡ pick t (Ok (seen c b k n)) (Err (offence c b k n))
              → (offence c b k n ≡ row_place k n) × (s ≡ seen c b k n)
          go true v e = (eqb-true (offence c b k n) (row_place k n) v, cc)
          go false v e = let z : ◌≡◌ {A = ℕ} 0 1 = cc in absurd (omega arith)

      limits_last : {d : Answer} → d ≡ seen_tested s → d ≡ limits_tested c b k n
      limits_last e = e ∙ ap seen_tested all_clear.1

      -- the tests of a record
      pub record_last : {d : Answer} → d ≡ seen_tested s → d ≡ rows_tested c b k n
      unfolding rows_tested
      record_last e = limits_last e ∙ sym (rw (eq-eqb (offence c b k n) (row_place k n) all_clear.0))

    pub record_refused : {j : ℕ} → x ≡ Err j → Err NotAllowed ≡ rows_tested c b k n
    unfolding rows_tested
    record_refused u = sym (rw (ne_eqb (offence c b k n) (row_place k n) (offending_at u).0))

-- the tests of a page
module _ (c p : List ℕ) (n : ℕ) {x : Result Seen ℕ} (q : x ≡ scanned c p on_page n) where
  pub slots_refused : {j : ℕ} {o : PageAnswer} → x ≡ Err j → o ≡ not_allowed_at j → o ≡ slots_tested c p n
  unfolding slots_tested
  slots_refused u e =
      let f = offending_at c p on_page n q u in
      offended (offence c p on_page n) (row_place on_page n) (limits_tested c p on_page n) f.0 (e ∙ ap not_allowed_at f.1)

  pub slots_last : {s : Seen} {d : Answer} {o : PageAnswer} → x ≡ Ok s → d ≡ seen_tested s → o ≡ of_page d → o ≡ slots_tested c p n
  unfolding slots_tested
  slots_last u e w =
      none_offended (offence c p on_page n) (row_place on_page n) (limits_tested c p on_page n) (all_clear c p on_page n q u).0
      (limits_last c p on_page n q u e) w

-- the rows pass just where each of them passes the three tests
module _ (c b : List ℕ) (k : ℕ) where
  abbrev pub Fine : ℕ → Type 0
  Fine i = (refused_in (row_offending c b k) i ≡ false) × (row_had c b k i ≡ true) × (row_ordered c b k i ≡ true)

  module _ (n : ℕ) where
    pub rows_fine : offence c b k n ≡ row_place k n → limits_tested c b k n ≡ Ok tt → (i : ℕ) → i < n → Fine i
    unfolding all_had all_ordered offence
    rows_fine o a i l =
        let h = held_both (had_tested c b k n) (order_tested c b k n) a in
        let t2 = (held (all_had c b k n) NoSuchThreshold (Ok tt) h.0).0 in
        let t3 = (held (all_ordered c b k n) ThresholdOrder (Ok tt) h.1).0 in (
          row_fine (row_place k) (row_offending c b k) n (λ j m. omega arith) o i l,
          below_at (row_had c b k) n t2 i l,
          below_at (row_ordered c b k) n t3 i l,
        )

    pub fine_rows : ((i : ℕ) → i < n → Fine i) → (offence c b k n ≡ row_place k n) × (limits_tested c b k n ≡ Ok tt)
    unfolding all_had all_ordered
    fine_rows h = (
      none c b k n (below_all (fails (refused_in (row_offending c b k))) n (λ i l. ap not (h i l).0)),
      rw (below_all (row_had c b k) n (λ i l. (h i l).1), below_all (row_ordered c b k) n (λ i l. (h i l).2)),
    )

    pub record_passed : (offence c b k n ≡ row_place k n) × (limits_tested c b k n ≡ Ok tt) → rows_tested c b k n ≡ Ok tt
    unfolding rows_tested
    record_passed h = rw (eq-eqb (offence c b k n) (row_place k n) h.0, h.1)

-- a row is tested by its bytes alone, wherever they stand
pub fine_by : (c b d : List ℕ) (k m i : ℕ) → row_at b k i ≡ row_at d m i → Fine c d m i → Fine c b k i
unfolding row_offending row_had row_ordered
fine_by c b d k m i e h = (
  ap (λ (x : List ℕ). ltb (pick (slot_at c i).overall (first_set x) 4) 4) e ∙ h.0,
  ap (had (slot_at c i).kind) e ∙ h.1,
  ap (ordered (slot_at c i).kind) e ∙ h.2,
)
