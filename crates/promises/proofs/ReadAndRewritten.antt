-- Accepted configuration, status, threshold status and descriptor pages, read and written again, give the same bytes: from what the reader answers
-- and leaves in the place that was lent to it, to what the rewriter answers and leaves in the output buffer. Assumes nothing.
use Rattle.std.specs.Prelude.{Ok}
use mathlib.Core.Path.{◌≡◌, sym, ap, ap₂, ◌∙◌}
use mathlib.Core.List.{List, ◌++◌, append-nil}
use Prim.Native.Nat.{ℕ}
use lib.ListN.{length, drop}
use lib.Seq.{drop-length}
use Rattle.bits.specs.Numbers.{Bytes}
use Rattle.refusals.specs.Outcomes.{writes, out_after, placed, WritesPage, HandsBack}
use Rattle.shelf.specs.Limits.{element_place}
use Rattle.page.specs.Header.{configuration_tested}
use Rattle.configuration_page.specs.Page.{configuration_page}
use Rattle.configuration_page.specs.Read.{configuration_read}
use Rattle.configuration_page.specs.Configuration.{configuration_of}
use Rattle.configuration_page.proofs.PartsPut.{length-configuration}
use Rattle.configuration_page.proofs.ReadAndRewritten as configuration
use Rattle.status_reading.specs.Read.{status_read, status_record}
use Rattle.status_rewritten.specs.Rewritten as statusAgain
use Rattle.threshold_record.specs.Read.{threshold_read, threshold_record}
use Rattle.threshold_record.specs.Rewritten as thresholdsAgain
use Rattle.threshold_record.proofs.ReadAndRewritten as thresholds
use Rattle.descriptor_record.specs.Read.{names_read, names_record}
use Rattle.descriptor_record.specs.Rewritten as namesAgain
use Rattle.descriptor_record.proofs.ReadAndRewritten as names
use Rattle.promises.specs.Promises.{ReadConfiguration, ReadStatus, ReadThresholds, ReadDescriptors, RewriteConfiguration, RewriteStatus, RewriteThresholds, RewriteDescriptors}
use Rattle.promises.specs.Demands.{WrittenAgain}
use Rattle.promises.proofs.StatusRewritten as status
use Rattle.refusals.specs.Answers.{Answer, PageAnswer, Counted}

-- what an accepting reader leaves is the record, in the place that was lent
pub handed : (a : PageAnswer) (told old : List ℕ) {r : PageAnswer} {f : List ℕ} → HandsBack a told old r f → r ≡ Ok tt → (a ≡ Ok tt) × (f ≡ placed told old)
handed a told old h e = (sym h.0 ∙ e, h.1 ∙ rw e)

-- what is placed into a place of its own length
whole : (told old : List ℕ) → length old ≡ length told → placed told old ≡ told
whole told old e =
    ap (λ (n : ℕ). told ++ drop n old) (sym e) ∙ ap (λ (x : List ℕ). told ++ x) (drop-length old) ∙ append-nil told

-- a record whose tests pass is written as its page
rewritten : (a : Answer) (page p out : List ℕ) {w : Counted} {o : List ℕ} → a ≡ Ok tt → page ≡ p → WritesPage a page out w o → WrittenAgain p out w o
rewritten a page p out {w} e q h =
    (h.0 ∙ ap₂ (λ (x : Answer) (y : List ℕ). writes x y out) e q, h.1 ∙ ap (λ (y : List ℕ). out_after w y out) q)

-- a configuration is lent at its length, which its type says
pub configuration_again : (p old out : List ℕ) → Bytes p → length old ≡ element_place 0 → {r : PageAnswer} {c : List ℕ} {w : Counted} {o : List ℕ}
    → ReadConfiguration p old r c → r ≡ Ok tt → RewriteConfiguration c out w o → WrittenAgain p out w o
configuration_again p old out b l {r} {c} h e g =
    let t = handed (configuration_read p) (configuration_of p) old h e in
    let n = configuration.again p b t.0 in
    let f : c ≡ configuration_of p = t.1 ∙ whole (configuration_of p) old (l ∙ sym (length-configuration p)) in
    rewritten (configuration_tested c) (configuration_page c) p out (rw (f, n.0)) (ap configuration_page f ∙ n.1) g

pub status_again : (c p old out : List ℕ) → Bytes c → Bytes p → {r : PageAnswer} {f : List ℕ} {w : Counted} {o : List ℕ}
    → ReadStatus c p old r f → r ≡ Ok tt → RewriteStatus c f out w o → WrittenAgain p out w o
status_again c p old out b d {r} {f} h e g =
    let t = handed (status_read c p) (status_record c p) old h e in
    let rest = drop (length (status_record c p)) old in
    rewritten (statusAgain.record_tested c f) (statusAgain.page_again c f) p out
    (ap (statusAgain.record_tested c) t.1 ∙ status.tested_again c p rest b d t.0)
    (ap (statusAgain.page_again c) t.1 ∙ status.page_again_lem c p rest b d t.0)
    g

pub thresholds_again : (c p old out : List ℕ) → Bytes c → Bytes p → {r : PageAnswer} {f : List ℕ} {w : Counted} {o : List ℕ}
    → ReadThresholds c p old r f → r ≡ Ok tt → RewriteThresholds c f out w o → WrittenAgain p out w o
thresholds_again c p old out b d {r} {f} h e g =
    let t = handed (threshold_read c p) (threshold_record c p) old h e in
    let rest = drop (length (threshold_record c p)) old in
    rewritten (thresholdsAgain.record_tested c f) (thresholdsAgain.page_again c f) p out
    (ap (thresholdsAgain.record_tested c) t.1 ∙ thresholds.tested_again c p rest t.0)
    (ap (thresholdsAgain.page_again c) t.1 ∙ thresholds.page_again_lem c p rest t.0 b d)
    g

pub descriptors_again : (c p old out : List ℕ) → Bytes c → Bytes p → {r : PageAnswer} {f : List ℕ} {w : Counted} {o : List ℕ}
    → ReadDescriptors c p old r f → r ≡ Ok tt → RewriteDescriptors c f out w o → WrittenAgain p out w o
descriptors_again c p old out b d {r} {f} h e g =
    let t = handed (names_read c p) (names_record c p) old h e in
    let rest = drop (length (names_record c p)) old in
    rewritten (namesAgain.record_tested c f) (namesAgain.page_again c f) p out
    (ap (namesAgain.record_tested c) t.1 ∙ names.tested_again c p rest t.0)
    (ap (namesAgain.page_again c) t.1 ∙ names.page_again_lem c p rest t.0 b d)
    g
