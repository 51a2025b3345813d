-- What C is promised of each call, under the call's name: there is an answer as the call in Rattle gives it, and C is told its number,
-- the offset of an offending byte, the bytes written and the SELECTs. Assumes nothing.
use Rattle.std.specs.Prelude.{◌≡◌, List, ℕ}
use Rattle.refusals.specs.Numbers.{answer_number, page_number, page_offset, bytes_written}
use Rattle.names.specs.Found.{element_found, FindAnswer}
use Rattle.build_page.specs.Outcome.{bytes_built, selects_built, BuildAnswer}
use Rattle.promises.specs.Promises.{Check, WriteConfiguration, WriteStatus, WriteThresholds, WriteDescriptors, ReadConfiguration, ReadStatus, ReadThresholds, ReadDescriptors, RewriteConfiguration, RewriteStatus, RewriteThresholds, RewriteDescriptors, ApplyControl, ApplyThresholds, EmptyCollector, PutChunk, EndPage, BuildControl, FindName, SetName, SetOverallName}
use Rattle.refusals.specs.Answers.{Answer, PageAnswer, Counted}

-- the answer r keeps the promise P
abbrev pub Numbered : (Answer → Type 0) → ℕ → Type 0
Numbered P number = (r : Answer) × P r × (number ≡ answer_number r)

-- of a call on a page, whose offset is told too
abbrev pub NumberedPage : (PageAnswer → Type 0) → ℕ → ℕ → Type 0
NumberedPage P number offset = (r : PageAnswer) × P r × (number ≡ page_number r) × (offset ≡ page_offset r)

abbrev pub NumberedWritten : (Counted → Type 0) → ℕ → ℕ → Type 0
NumberedWritten P number written = (r : Counted) × P r × (number ≡ answer_number r) × (written ≡ bytes_written r)

abbrev pub NumberedBuilt : (BuildAnswer → Type 0) → ℕ → ℕ → ℕ → Type 0
NumberedBuilt P number written selects =
    (r : BuildAnswer) × P r × (number ≡ answer_number r) × (written ≡ bytes_built r) × (selects ≡ selects_built r)

-- of a search, whose element is told too
abbrev pub NumberedFound : (FindAnswer → Type 0) → ℕ → ℕ → Type 0
NumberedFound P number element = (r : FindAnswer) × P r × (number ≡ answer_number r) × (element ≡ element_found r)

abbrev pub CheckForC : List ℕ → ℕ → Type 0
CheckForC shelf number = Numbered (λ r. Check shelf r) number

abbrev pub WriteConfigurationForC : List ℕ → List ℕ → ℕ → List ℕ → ℕ → Type 0
WriteConfigurationForC shelf out number o written = NumberedWritten (λ r. WriteConfiguration shelf out r o) number written

abbrev pub WriteStatusForC : List ℕ → List ℕ → ℕ → List ℕ → ℕ → Type 0
WriteStatusForC shelf out number o written = NumberedWritten (λ r. WriteStatus shelf out r o) number written

abbrev pub WriteThresholdsForC : List ℕ → List ℕ → ℕ → List ℕ → ℕ → Type 0
WriteThresholdsForC shelf out number o written = NumberedWritten (λ r. WriteThresholds shelf out r o) number written

abbrev pub WriteDescriptorsForC : List ℕ → List ℕ → ℕ → List ℕ → ℕ → Type 0
WriteDescriptorsForC shelf out number o written = NumberedWritten (λ r. WriteDescriptors shelf out r o) number written

abbrev pub ReadConfigurationForC : List ℕ → List ℕ → ℕ → List ℕ → ℕ → Type 0
ReadConfigurationForC page old number o offset = NumberedPage (λ r. ReadConfiguration page old r o) number offset

abbrev pub ReadStatusForC : List ℕ → List ℕ → List ℕ → ℕ → List ℕ → ℕ → Type 0
ReadStatusForC configuration page old number o offset = NumberedPage (λ r. ReadStatus configuration page old r o) number offset

abbrev pub ReadThresholdsForC : List ℕ → List ℕ → List ℕ → ℕ → List ℕ → ℕ → Type 0
ReadThresholdsForC configuration page old number o offset = NumberedPage (λ r. ReadThresholds configuration page old r o) number offset

abbrev pub ReadDescriptorsForC : List ℕ → List ℕ → List ℕ → ℕ → List ℕ → ℕ → Type 0
ReadDescriptorsForC configuration page old number o offset = NumberedPage (λ r. ReadDescriptors configuration page old r o) number offset

abbrev pub RewriteConfigurationForC : List ℕ → List ℕ → ℕ → List ℕ → ℕ → Type 0
RewriteConfigurationForC configuration out number o written = NumberedWritten (λ r. RewriteConfiguration configuration out r o) number written

abbrev pub RewriteStatusForC : List ℕ → List ℕ → List ℕ → ℕ → List ℕ → ℕ → Type 0
RewriteStatusForC configuration fields out number o written = NumberedWritten (λ r. RewriteStatus configuration fields out r o) number written

abbrev pub RewriteThresholdsForC : List ℕ → List ℕ → List ℕ → ℕ → List ℕ → ℕ → Type 0
RewriteThresholdsForC configuration fields out number o written = NumberedWritten (λ r. RewriteThresholds configuration fields out r o) number written

abbrev pub RewriteDescriptorsForC : List ℕ → List ℕ → List ℕ → ℕ → List ℕ → ℕ → Type 0
RewriteDescriptorsForC configuration fields out number o written = NumberedWritten (λ r. RewriteDescriptors configuration fields out r o) number written

abbrev pub ApplyControlForC : List ℕ → List ℕ → ℕ → List ℕ → ℕ → Type 0
ApplyControlForC shelf page number o offset = NumberedPage (λ r. ApplyControl shelf page r o) number offset

abbrev pub ApplyThresholdsForC : List ℕ → List ℕ → ℕ → List ℕ → ℕ → Type 0
ApplyThresholdsForC shelf page number o offset = NumberedPage (λ r. ApplyThresholds shelf page r o) number offset

-- nothing is told where nothing is answered
abbrev pub EmptyCollectorForC : List ℕ → List ℕ → Type 0
EmptyCollectorForC collector o = EmptyCollector collector o

abbrev pub PutChunkForC : List ℕ → List ℕ → List ℕ → Type 0
PutChunkForC collector chunk o = PutChunk collector chunk o

abbrev pub EndPageForC : List ℕ → List ℕ → ℕ → ℕ → List ℕ → List ℕ → ℕ → Type 0
EndPageForC collector shelf code number c o offset = NumberedPage (λ r. EndPage collector shelf code r c o) number offset

abbrev pub BuildControlForC : List ℕ → List ℕ → List ℕ → ℕ → List ℕ → ℕ → ℕ → Type 0
BuildControlForC shelf wanted out number o written selects = NumberedBuilt (λ r. BuildControl shelf wanted out r o) number written selects

abbrev pub FindNameForC : List ℕ → List ℕ → ℕ → ℕ → Type 0
FindNameForC shelf text number element = NumberedFound (λ r. FindName shelf text r) number element

abbrev pub SetNameForC : List ℕ → ℕ → List ℕ → ℕ → List ℕ → Type 0
SetNameForC shelf element text number o = Numbered (λ r. SetName shelf element text r o) number

abbrev pub SetOverallNameForC : List ℕ → ℕ → List ℕ → ℕ → List ℕ → Type 0
SetOverallNameForC shelf t text number o = Numbered (λ r. SetOverallName shelf t text r o) number
