-- What each step of testing threshold rows comes to, from what the calls say. Assumes nothing.
use mathlib.Core.Path.{◌≡◌, ◌∙◌}
use mathlib.Core.Bool.{Bool, true, ◌&&◌}
use mathlib.Core.List.{List}
use Prim.Native.Nat.{ℕ, ◌+◌, ◌<◌}
use native.Mathlib.Numerals.{add-one}
use Rattle.bits.specs.Choice.{pick, all_below, refused_in}
use Rattle.bits.proofs.Logic.{fails}
use Rattle.bits.proofs.Offence.{refused_at, refused_none}
use Rattle.element.specs.Types.{had, ordered}
use Rattle.page.specs.declared.slots.SlotRun.{SlotRun}
use Rattle.page.specs.Slots.{slot_run}
use Rattle.page.proofs.SlotWalk.{run_kind, run_overall}
use Rattle.threshold_rows.specs.Rows.{row_place, row_at, first_set, row_offending, offence, row_had, row_ordered}

-- one row's tests
module _ (c b : List ℕ) (k i : ℕ) {r : SlotRun} {e : List ℕ} (q : r ≡ slot_run c i) (u : e ≡ row_at b k i) where
  pub row_offends : {n : ℕ} → n ≡ pick r.overall (first_set e) 4 → n ≡ row_offending c b k i
  unfolding row_offending
  row_offends h = h ∙ rw (u, run_overall c i q)

  pub row_had_lem : {t : Bool} → t ≡ had r.kind e → t ≡ row_had c b k i
  unfolding row_had
  row_had_lem h = h ∙ rw (u, run_kind c i q)

  pub row_ordered_lem : {t : Bool} → t ≡ ordered r.kind e → t ≡ row_ordered c b k i
  unfolding row_ordered
  row_ordered_lem h = h ∙ rw (u, run_kind c i q)

-- the search for a refused byte
module _ (c b : List ℕ) (k n : ℕ) where
  pub row_refused : (i : ℕ) {j m : ℕ} → i < n → all_below (fails (refused_in (row_offending c b k))) i ≡ true → j ≡ row_offending c b k i → j < 4 → m ≡ row_place k i
      → m + j ≡ offence c b k n
  unfolding offence
  row_refused i l a q t u = refused_at (row_place k) (row_offending c b k) n i l a q t u

  pub none_refused : {m : ℕ} → all_below (fails (refused_in (row_offending c b k))) n ≡ true → m ≡ row_place k n → m ≡ offence c b k n
  unfolding offence
  none_refused a u = refused_none (row_place k) (row_offending c b k) n a u

-- one row more
pub and_next : (f : ℕ → Bool) (i : ℕ) {a b : Bool} → a ≡ all_below f i → b ≡ f i → a && b ≡ all_below f (i + 1)
and_next f i p q = rw (add-one, p, q)
