-- An accepted control or threshold page changes exactly the chosen elements' named fields, and nothing else, and no page changes a name; a
-- name that is set is exactly what changes: over what the calls answer and leave. Assumes nothing.
use Rattle.std.specs.Prelude.{Ok}
use mathlib.Core.Path.{◌≡◌, sym, ap, ◌∙◌}
use mathlib.Core.Bool.{true}
use mathlib.Core.List.{List}
use mathlib.Core.Logic.{◌⊎◌, inl, inr}
use Prim.Native.Nat.{ℕ, ◌<◌, ◌≤◌}
use native.Mathlib.Omega.{arith}
use lib.ListN.{get_or}
use Rattle.bits.proofs.Logic.{by_case, pick_no}
use Rattle.refusals.specs.Outcomes.{accepts}
use Rattle.shelf.specs.Limits.{element_place}
use Rattle.shelf.specs.Types.{elements_of}
use Rattle.shelf_formed.specs.Formed.{well_formed}
use Rattle.shelf_formed.proofs.FrontOfShelf.{front}
use Rattle.page.specs.Slots.{start_of}
use Rattle.page.specs.Places.{own_slot}
use Rattle.names.specs.Names.{name_of}
use Rattle.names.proofs.NamesKept.{names_kept}
use Rattle.names.proofs.NameSet.{OnlyNamed, sets_exactly}
use Rattle.control_page.specs.Tests as control_tests
use Rattle.control_page.specs.Brought as controlled
use Rattle.control_page.specs.Exactly as control
use Rattle.control_page.proofs.Exactly as controlProofs
use Rattle.control_page.proofs.ValidPage.{valid_formed}
use Rattle.control_page.proofs.Changes as controlChanges
use Rattle.threshold_page_out.specs.Tests as thresholdTests
use Rattle.threshold_page_out.specs.Exactly as thresholds
use Rattle.threshold_page_out.proofs.Exactly as thresholdProofs
use Rattle.threshold_page_out.proofs.Changes as thresholdChanges
use Rattle.collector.specs.Collector.{page_of}
use Rattle.promises.specs.Promises.{ApplyControl, ApplyThresholds, EndPage, SetName, SetOverallName}
use Rattle.refusals.specs.Answers.{Answer, PageAnswer}

pub control_exactly : (s p : List ℕ) {r : PageAnswer} {o : List ℕ} → ApplyControl s p r o → r ≡ Ok tt → control.Exactly s p o
unfolding control_tests.valid
control_exactly s p h e = rw h.1 (controlProofs.exactly s p (ap accepts (sym h.0 ∙ e)))

-- such a page is for a well-formed shelf and leaves one; whatever is answered, the configuration stays
pub control_formed : (s p : List ℕ) {r : PageAnswer} {o : List ℕ} → ApplyControl s p r o → r ≡ Ok tt → (well_formed s ≡ true) × (well_formed o ≡ true)
unfolding control_tests.valid
control_formed s p h e = let w = valid_formed s p (ap accepts (sym h.0 ∙ e)) in (w, rw h.1 (controlChanges.stays_formed s p w))

pub control_front : (s p : List ℕ) {r : PageAnswer} {o : List ℕ} → ApplyControl s p r o → front o ≡ front s
control_front s p h = ap front h.1 ∙ controlChanges.configuration_kept s p

pub thresholds_exactly : (s p : List ℕ) {r : PageAnswer} {o : List ℕ} → ApplyThresholds s p r o → r ≡ Ok tt → thresholds.Exactly s p o
unfolding thresholdTests.valid
thresholds_exactly s p h e = rw h.1 (thresholdProofs.exactly s p (ap accepts (sym h.0 ∙ e)))

-- and so does a page that was collected
pub ended_control_exactly : (c s : List ℕ) {r : PageAnswer} {d o : List ℕ} → EndPage c s 0x02 r d o → r ≡ Ok tt → control.Exactly s (page_of c) o
ended_control_exactly c s h e = control_exactly s (page_of c) h.0 e

pub ended_thresholds_exactly : (c s : List ℕ) {r : PageAnswer} {d o : List ℕ} → EndPage c s 0x05 r d o → r ≡ Ok tt → thresholds.Exactly s (page_of c) o
ended_thresholds_exactly c s h e = thresholds_exactly s (page_of c) h.0 e

-- bytes from k on are as they were, where each that is not is one before k
kept_from : (s x : List ℕ) (k : ℕ) (Changed : ℕ → Type 0) → ((q : ℕ) → Changed q → q < k) → ((q : ℕ) → (get_or x q 0 ≡ get_or s q 0) ⊎ Changed q)
    → (q : ℕ) → k ≤ q → get_or x q 0 ≡ get_or s q 0
kept_from s x k Changed before others q l = go (others q)
  where
    go : (get_or x q 0 ≡ get_or s q 0) ⊎ Changed q → get_or x q 0 ≡ get_or s q 0
    go (inl e) = e
    go (inr c) = let b = before q c in absurd (omega arith)

-- whatever is answered, no name is changed
pub control_names : (s p : List ℕ) {r : PageAnswer} {o : List ℕ} → ApplyControl s p r o → (i : ℕ) → name_of o i ≡ name_of s i
control_names s p h i =
    ap (λ (x : List ℕ). name_of x i) h.1
    ∙ by_case (control_tests.valid s p)
    (λ v.
    names_kept s (controlled.after s p) (controlChanges.configuration_kept s p)
    (kept_from s (controlled.after s p) (element_place (elements_of s)) (control.ChosenByte s p) (λ q c. omega (arith, c.1.0, c.3)) (controlProofs.exactly s p v).others)
    i)
    (λ v. ap (λ (x : List ℕ). name_of x i) (pick_no _ _ _ v))

pub thresholds_names : (s p : List ℕ) {r : PageAnswer} {o : List ℕ} → ApplyThresholds s p r o → (i : ℕ) → name_of o i ≡ name_of s i
thresholds_names s p h i =
    ap (λ (x : List ℕ). name_of x i) h.1
    ∙ by_case (thresholdTests.valid s p)
    (λ v.
    names_kept s (thresholdTests.after s p) (thresholdChanges.configuration_kept s p)
    (kept_from s (thresholdTests.after s p) (element_place (elements_of s)) (thresholds.AskedByte s p) (λ q c. omega (arith, c.2.0, c.2.1, c.4)) (thresholdProofs.exactly s p v).others)
    i)
    (λ v. ap (λ (x : List ℕ). name_of x i) (pick_no _ _ _ v))

-- an accepted name is the name of its element, and no other byte of the shelf changes
pub name_exactly : (s : List ℕ) (j : ℕ) (x : List ℕ) {r : Answer} {o : List ℕ} → SetName s j x r o → r ≡ Ok tt → OnlyNamed s (own_slot s j) x o
name_exactly s j x h e = rw h.1 ((sets_exactly s j x).0 (sym h.0 ∙ e))

pub overall_name_exactly : (s : List ℕ) (t : ℕ) (x : List ℕ) {r : Answer} {o : List ℕ} → SetOverallName s t x r o → r ≡ Ok tt
    → OnlyNamed s (start_of s t) x o
overall_name_exactly s t x h e = rw h.1 ((sets_exactly s t x).1 (sym h.0 ∙ e))
