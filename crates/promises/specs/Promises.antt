-- What each public call promises, under the call's name: first what is lent, as it is at entry, then the answer r, then what is lent
-- to be changed, as it is at exit. Assumes nothing.
use Rattle.std.specs.Prelude.{◌≡◌, List, ℕ}
use Rattle.refusals.specs.Outcomes.{WritesPage, HandsBack, Changes}
use Rattle.page.specs.Header.{shelf_tested, configuration_tested}
use Rattle.configuration_page.specs.Page.{configuration_page}
use Rattle.configuration_page.specs.Read.{configuration_read}
use Rattle.configuration_page.specs.Configuration.{configuration_of}
use Rattle.names.specs.Found.{found, FindAnswer}
use Rattle.names.specs.Setting.{element_tested, element_named, overall_tested, overall_named}
use Rattle.descriptor_page.specs.Page.{names_page}
use Rattle.descriptor_record.specs.Read.{names_read, names_record}
use Rattle.descriptor_record.specs.Rewritten as namesAgain
use Rattle.status_page.specs.Page.{status_page}
use Rattle.status_reading.specs.Read.{status_read, status_record}
use Rattle.status_rewritten.specs.Rewritten as statusAgain
use Rattle.threshold_page_in.specs.Page.{threshold_page}
use Rattle.threshold_record.specs.Read.{threshold_read, threshold_record}
use Rattle.threshold_record.specs.Rewritten as thresholdsAgain
use Rattle.control_page.specs.Tests as control
use Rattle.control_page.specs.Brought as controlled
use Rattle.threshold_page_out.specs.Tests as thresholds
use Rattle.collector.specs.Collector.{page_of, collected, emptied}
use Rattle.collected_page.specs.Meant.{meant_tested, meant_after}
use Rattle.build_page.specs.Promise.{Promised}
use Rattle.refusals.specs.Answers.{Answer, PageAnswer, Counted}
use Rattle.build_page.specs.Outcome.{BuildAnswer}

-- accepted exactly if the block is a well-formed shelf, else 1
abbrev pub Check : List ℕ → Answer → Type 0
Check shelf r = r ≡ shelf_tested shelf

-- 1, 11; else the page of the shelf
abbrev pub WriteConfiguration : List ℕ → List ℕ → Counted → List ℕ → Type 0
WriteConfiguration shelf out r o = WritesPage (shelf_tested shelf) (configuration_page shelf) out r o

abbrev pub WriteStatus : List ℕ → List ℕ → Counted → List ℕ → Type 0
WriteStatus shelf out r o = WritesPage (shelf_tested shelf) (status_page shelf) out r o

abbrev pub WriteThresholds : List ℕ → List ℕ → Counted → List ℕ → Type 0
WriteThresholds shelf out r o = WritesPage (shelf_tested shelf) (threshold_page shelf) out r o

abbrev pub WriteDescriptors : List ℕ → List ℕ → Counted → List ℕ → Type 0
WriteDescriptors shelf out r o = WritesPage (shelf_tested shelf) (names_page shelf) out r o

-- 2, 3, 4, 12, 6; else the configuration that the page tells
abbrev pub ReadConfiguration : List ℕ → List ℕ → PageAnswer → List ℕ → Type 0
ReadConfiguration page old r o = HandsBack (configuration_read page) (configuration_of page) old r o

-- 1 to 4, 12, 5, 6; else the record of every shown field
abbrev pub ReadStatus : List ℕ → List ℕ → List ℕ → PageAnswer → List ℕ → Type 0
ReadStatus configuration page old r o = HandsBack (status_read configuration page) (status_record configuration page) old r o

-- 1 to 4, 12, 5 to 8; else the record of the thresholds
abbrev pub ReadThresholds : List ℕ → List ℕ → List ℕ → PageAnswer → List ℕ → Type 0
ReadThresholds configuration page old r o = HandsBack (threshold_read configuration page) (threshold_record configuration page) old r o

-- 1 to 4, 12, 5, 6; else the record of the names
abbrev pub ReadDescriptors : List ℕ → List ℕ → List ℕ → PageAnswer → List ℕ → Type 0
ReadDescriptors configuration page old r o = HandsBack (names_read configuration page) (names_record configuration page) old r o

-- 1, 11; else the page that tells the configuration
abbrev pub RewriteConfiguration : List ℕ → List ℕ → Counted → List ℕ → Type 0
RewriteConfiguration configuration out r o = WritesPage (configuration_tested configuration) (configuration_page configuration) out r o

-- 1, 9, 6, 11; else the page that shows the fields
abbrev pub RewriteStatus : List ℕ → List ℕ → List ℕ → Counted → List ℕ → Type 0
RewriteStatus configuration fields out r o =
    WritesPage (statusAgain.record_tested configuration fields) (statusAgain.page_again configuration fields) out r o

-- 1, 9, 6, 7, 8, 11; else the page with these thresholds
abbrev pub RewriteThresholds : List ℕ → List ℕ → List ℕ → Counted → List ℕ → Type 0
RewriteThresholds configuration fields out r o =
    WritesPage (thresholdsAgain.record_tested configuration fields) (thresholdsAgain.page_again configuration fields) out r o

-- 1, 9, 6, 11; else the page with these names
abbrev pub RewriteDescriptors : List ℕ → List ℕ → List ℕ → Counted → List ℕ → Type 0
RewriteDescriptors configuration fields out r o =
    WritesPage (namesAgain.record_tested configuration fields) (namesAgain.page_again configuration fields) out r o

-- 1 to 4, 12, 5, 6; else the shelf with the settings that the page brings it to
abbrev pub ApplyControl : List ℕ → List ℕ → PageAnswer → List ℕ → Type 0
ApplyControl shelf page r o = Changes (control.control_tested shelf page) (controlled.after shelf page) r o

-- 1 to 4, 12, 5 to 8; else the shelf with the thresholds that the page brings it to
abbrev pub ApplyThresholds : List ℕ → List ℕ → PageAnswer → List ℕ → Type 0
ApplyThresholds shelf page r o = Changes (thresholds.thresholds_tested shelf page) (thresholds.after shelf page) r o

-- the count is 0, and the room as it was
abbrev pub EmptyCollector : List ℕ → List ℕ → Type 0
EmptyCollector collector o = o ≡ emptied collector

-- the chunk is kept as far as there is room, and counted
abbrev pub PutChunk : List ℕ → List ℕ → List ℕ → Type 0
PutChunk collector chunk o = o ≡ collected collector chunk

-- of the page that is meant by the code: of 02h as ApplyControl, of 05h as ApplyThresholds; of every other code 1 to 3
abbrev pub Meant : ℕ → List ℕ → List ℕ → PageAnswer → List ℕ → Type 0
Meant code shelf page r o = Changes (meant_tested code shelf page) (meant_after code shelf page) r o

-- so of the page collected; and the collector is empty, whatever the answer
abbrev pub EndPage : List ℕ → List ℕ → ℕ → PageAnswer → List ℕ → List ℕ → Type 0
EndPage collector shelf code r c o = Meant code shelf (page_of collector) r o × (c ≡ emptied collector)

-- 1, 9, 10, 11; else the best page that reaches the wish
abbrev pub BuildControl : List ℕ → List ℕ → List ℕ → BuildAnswer → List ℕ → Type 0
BuildControl shelf wanted out r o = Promised shelf wanted out r o

-- 1; else the first element whose name equals the text, or nothing
abbrev pub FindName : List ℕ → List ℕ → FindAnswer → Type 0
FindName shelf text r = r ≡ found shelf text

-- 1, 15, 6; else the shelf with this name for an element, or for the overall element of a type
abbrev pub SetName : List ℕ → ℕ → List ℕ → Answer → List ℕ → Type 0
SetName shelf element text r o = Changes (element_tested shelf element text) (element_named shelf element text) r o

abbrev pub SetOverallName : List ℕ → ℕ → List ℕ → Answer → List ℕ → Type 0
SetOverallName shelf number text r o = Changes (overall_tested shelf number text) (overall_named shelf number text) r o
