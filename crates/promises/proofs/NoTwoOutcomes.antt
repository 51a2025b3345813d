-- No two outcomes satisfy one promise: a theorem for each public call, under its name, in Rattle and for C. Assumes nothing.
use mathlib.Core.Path.{◌≡◌, sym, ap, ◌∙◌}
use mathlib.Core.List.{List}
use Prim.Native.Nat.{ℕ}
use Rattle.refusals.specs.Numbers.{answer_number, page_number, page_offset, bytes_written}
use Rattle.names.specs.Found.{element_found, FindAnswer}
use Rattle.collector.specs.Collector.{page_of}
use Rattle.build_page.specs.Outcome.{bytes_built, selects_built, BuildAnswer}
use Rattle.build_page.proofs.PromiseKept.{settles}
use Rattle.promises.specs.Promises.{Check, WriteConfiguration, WriteStatus, WriteThresholds, WriteDescriptors, ReadConfiguration, ReadStatus, ReadThresholds, ReadDescriptors, RewriteConfiguration, RewriteStatus, RewriteThresholds, RewriteDescriptors, ApplyControl, ApplyThresholds, EmptyCollector, PutChunk, Meant, EndPage, BuildControl, FindName, SetName, SetOverallName}
use Rattle.promises.specs.PromisesForC.{Numbered, NumberedPage, NumberedWritten, NumberedBuilt, CheckForC, WriteConfigurationForC, WriteStatusForC, WriteThresholdsForC, WriteDescriptorsForC, ReadConfigurationForC, ReadStatusForC, ReadThresholdsForC, ReadDescriptorsForC, RewriteConfigurationForC, RewriteStatusForC, RewriteThresholdsForC, RewriteDescriptorsForC, ApplyControlForC, ApplyThresholdsForC, EmptyCollectorForC, PutChunkForC, EndPageForC, BuildControlForC, FindNameForC, SetNameForC, SetOverallNameForC}
use Rattle.promises.specs.Settled.{OneAnswer, OneOutcome, OneTold, OneBuilt, OneFound, OneBoth, OneBothTold}
use Rattle.refusals.specs.Answers.{Answer, PageAnswer, Counted}

-- an answer that is told, and memory that follows from it
told : {R : Type 0} (a : R) (f : R → List ℕ) → OneOutcome (λ (r : R) (o : List ℕ). (r ≡ a) × (o ≡ f r))
told a f r q y z h l = let e = h.0 ∙ sym l.0 in (e, h.1 ∙ ap f e ∙ sym l.1)

-- so it is for C, whatever the promise
numbered : {P : Answer → List ℕ → Type 0} → OneOutcome P → OneOutcome (λ (n : ℕ) (o : List ℕ). Numbered (λ r. P r o) n)
numbered u n m y z h l =
    let e = u h.0 l.0 y z h.1 l.1 in
    (h.2 ∙ ap answer_number e.0 ∙ sym l.2, e.1)

numbered_page : {P : PageAnswer → List ℕ → Type 0} → OneOutcome P → OneTold (λ (n : ℕ) (o : List ℕ) (k : ℕ). NumberedPage (λ r. P r o) n k)
numbered_page u n m y z b c h l =
    let e = u h.0 l.0 y z h.1 l.1 in
    (h.2 ∙ ap page_number e.0 ∙ sym l.2, e.1, h.3 ∙ ap page_offset e.0 ∙ sym l.3)

numbered_written : {P : Counted → List ℕ → Type 0} → OneOutcome P → OneTold (λ (n : ℕ) (o : List ℕ) (b : ℕ). NumberedWritten (λ r. P r o) n b)
numbered_written u n m y z b c h l =
    let e = u h.0 l.0 y z h.1 l.1 in
    (h.2 ∙ ap answer_number e.0 ∙ sym l.2, e.1, h.3 ∙ ap bytes_written e.0 ∙ sym l.3)

numbered_built : {P : BuildAnswer → List ℕ → Type 0} → OneOutcome P
    → OneBuilt (λ (n : ℕ) (o : List ℕ) (b k : ℕ). NumberedBuilt (λ r. P r o) n b k)
numbered_built u n m y z b c k j h l =
    let e = u h.0 l.0 y z h.1 l.1 in (
      h.2 ∙ ap answer_number e.0 ∙ sym l.2,
      e.1,
      h.3 ∙ ap bytes_built e.0 ∙ sym l.3,
      h.4 ∙ ap selects_built e.0 ∙ sym l.4,
    )

-- in Rattle

pub check : (shelf : List ℕ) → OneAnswer (Check shelf)
check shelf r q h l = h ∙ sym l

pub write_configuration : (shelf out : List ℕ) → OneOutcome (WriteConfiguration shelf out)
write_configuration shelf out = told _ _

pub write_status : (shelf out : List ℕ) → OneOutcome (WriteStatus shelf out)
write_status shelf out = told _ _

pub write_thresholds : (shelf out : List ℕ) → OneOutcome (WriteThresholds shelf out)
write_thresholds shelf out = told _ _

pub write_descriptors : (shelf out : List ℕ) → OneOutcome (WriteDescriptors shelf out)
write_descriptors shelf out = told _ _

pub read_configuration : (page configuration : List ℕ) → OneOutcome (ReadConfiguration page configuration)
read_configuration page configuration = told _ _

pub read_status : (configuration page fields : List ℕ) → OneOutcome (ReadStatus configuration page fields)
read_status configuration page fields = told _ _

pub read_thresholds : (configuration page fields : List ℕ) → OneOutcome (ReadThresholds configuration page fields)
read_thresholds configuration page fields = told _ _

pub read_descriptors : (configuration page fields : List ℕ) → OneOutcome (ReadDescriptors configuration page fields)
read_descriptors configuration page fields = told _ _

pub rewrite_configuration : (configuration out : List ℕ) → OneOutcome (RewriteConfiguration configuration out)
rewrite_configuration configuration out = told _ _

pub rewrite_status : (configuration fields out : List ℕ) → OneOutcome (RewriteStatus configuration fields out)
rewrite_status configuration fields out = told _ _

pub rewrite_thresholds : (configuration fields out : List ℕ) → OneOutcome (RewriteThresholds configuration fields out)
rewrite_thresholds configuration fields out = told _ _

pub rewrite_descriptors : (configuration fields out : List ℕ) → OneOutcome (RewriteDescriptors configuration fields out)
rewrite_descriptors configuration fields out = told _ _

pub apply_control : (shelf page : List ℕ) → OneOutcome (ApplyControl shelf page)
apply_control shelf page = told _ _

pub apply_thresholds : (shelf page : List ℕ) → OneOutcome (ApplyThresholds shelf page)
apply_thresholds shelf page = told _ _

pub empty_collector : (collector : List ℕ) → OneAnswer (EmptyCollector collector)
empty_collector collector r q h l = h ∙ sym l

pub put_chunk : (collector chunk : List ℕ) → OneAnswer (PutChunk collector chunk)
put_chunk collector chunk r q h l = h ∙ sym l

pub meant : (code : ℕ) (shelf page : List ℕ) → OneOutcome (Meant code shelf page)
meant code shelf page = told _ _

pub end_page : (collector shelf : List ℕ) (code : ℕ) → OneBoth (EndPage collector shelf code)
end_page collector shelf code r q b c y z h l =
    let e = meant code shelf (page_of collector) r q y z h.0 l.0 in
    (e.0, h.1 ∙ sym l.1, e.1)

pub build_control : (shelf wanted out : List ℕ) → OneOutcome (BuildControl shelf wanted out)
build_control shelf wanted out = settles shelf wanted out

pub find_name : (shelf text : List ℕ) → OneAnswer (FindName shelf text)
find_name shelf text r q h l = h ∙ sym l

pub set_name : (shelf : List ℕ) (element : ℕ) (text : List ℕ) → OneOutcome (SetName shelf element text)
set_name shelf element text = told _ _

pub set_overall_name : (shelf : List ℕ) (number : ℕ) (text : List ℕ) → OneOutcome (SetOverallName shelf number text)
set_overall_name shelf number text = told _ _

-- for C

pub ses_check : (shelf : List ℕ) → OneAnswer (CheckForC shelf)
ses_check shelf n m h l = h.2 ∙ ap answer_number (check shelf h.0 l.0 h.1 l.1) ∙ sym l.2

pub ses_write_configuration : (shelf out : List ℕ) → OneTold (WriteConfigurationForC shelf out)
ses_write_configuration shelf out = numbered_written (write_configuration shelf out)

pub ses_write_status : (shelf out : List ℕ) → OneTold (WriteStatusForC shelf out)
ses_write_status shelf out = numbered_written (write_status shelf out)

pub ses_write_thresholds : (shelf out : List ℕ) → OneTold (WriteThresholdsForC shelf out)
ses_write_thresholds shelf out = numbered_written (write_thresholds shelf out)

pub ses_write_descriptors : (shelf out : List ℕ) → OneTold (WriteDescriptorsForC shelf out)
ses_write_descriptors shelf out = numbered_written (write_descriptors shelf out)

pub ses_read_configuration : (page configuration : List ℕ) → OneTold (ReadConfigurationForC page configuration)
ses_read_configuration page configuration = numbered_page (read_configuration page configuration)

pub ses_read_status : (configuration page fields : List ℕ) → OneTold (ReadStatusForC configuration page fields)
ses_read_status configuration page fields = numbered_page (read_status configuration page fields)

pub ses_read_thresholds : (configuration page fields : List ℕ) → OneTold (ReadThresholdsForC configuration page fields)
ses_read_thresholds configuration page fields = numbered_page (read_thresholds configuration page fields)

pub ses_read_descriptors : (configuration page fields : List ℕ) → OneTold (ReadDescriptorsForC configuration page fields)
ses_read_descriptors configuration page fields = numbered_page (read_descriptors configuration page fields)

pub ses_rewrite_configuration : (configuration out : List ℕ) → OneTold (RewriteConfigurationForC configuration out)
ses_rewrite_configuration configuration out = numbered_written (rewrite_configuration configuration out)

pub ses_rewrite_status : (configuration fields out : List ℕ) → OneTold (RewriteStatusForC configuration fields out)
ses_rewrite_status configuration fields out = numbered_written (rewrite_status configuration fields out)

pub ses_rewrite_thresholds : (configuration fields out : List ℕ) → OneTold (RewriteThresholdsForC configuration fields out)
ses_rewrite_thresholds configuration fields out = numbered_written (rewrite_thresholds configuration fields out)

pub ses_rewrite_descriptors : (configuration fields out : List ℕ) → OneTold (RewriteDescriptorsForC configuration fields out)
ses_rewrite_descriptors configuration fields out = numbered_written (rewrite_descriptors configuration fields out)

pub ses_apply_control : (shelf page : List ℕ) → OneTold (ApplyControlForC shelf page)
ses_apply_control shelf page = numbered_page (apply_control shelf page)

pub ses_apply_thresholds : (shelf page : List ℕ) → OneTold (ApplyThresholdsForC shelf page)
ses_apply_thresholds shelf page = numbered_page (apply_thresholds shelf page)

pub ses_empty_collector : (collector : List ℕ) → OneAnswer (EmptyCollectorForC collector)
ses_empty_collector collector = empty_collector collector

pub ses_put_chunk : (collector chunk : List ℕ) → OneAnswer (PutChunkForC collector chunk)
ses_put_chunk collector chunk = put_chunk collector chunk

pub ses_end_page : (collector shelf : List ℕ) (code : ℕ) → OneBothTold (EndPageForC collector shelf code)
ses_end_page collector shelf code n m b c y z j k h l =
    let e = end_page collector shelf code h.0 l.0 b c y z h.1 l.1 in
    (h.2 ∙ ap page_number e.0 ∙ sym l.2, e.1, e.2, h.3 ∙ ap page_offset e.0 ∙ sym l.3)

pub ses_build_control : (shelf wanted out : List ℕ) → OneBuilt (BuildControlForC shelf wanted out)
ses_build_control shelf wanted out = numbered_built (build_control shelf wanted out)

pub ses_find_name : (shelf text : List ℕ) → OneFound (FindNameForC shelf text)
ses_find_name shelf text n m b c h l =
    let e : ◌≡◌ {A = FindAnswer} h.0 l.0 = find_name shelf text h.0 l.0 h.1 l.1 in
    (h.2 ∙ ap answer_number e ∙ sym l.2, h.3 ∙ ap element_found e ∙ sym l.3)

pub ses_set_name : (shelf : List ℕ) (element : ℕ) (text : List ℕ) → OneOutcome (SetNameForC shelf element text)
ses_set_name shelf element text = numbered (set_name shelf element text)

pub ses_set_overall_name : (shelf : List ℕ) (number : ℕ) (text : List ℕ) → OneOutcome (SetOverallNameForC shelf number text)
ses_set_overall_name shelf number text = numbered (set_overall_name shelf number text)
