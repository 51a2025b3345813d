-- A refusal leaves what was lent as it was: a theorem for each public call that is lent something to be changed, under its name, in Rattle
-- and for C; a refused search tells C no element. Assumes nothing.
use Rattle.std.specs.Prelude.{Ok, Err, Some, None}
use mathlib.Core.Path.{◌≡◌, refl, sym, ap, ◌∙◌}
use mathlib.Core.Bool.{Bool, true, false}
use mathlib.Core.List.{List}
use mathlib.Core.Logic.{inl, inr}
use Prim.Native.Nat.{ℕ}
use lib.Dec.{eqb}
use Rattle.bits.specs.Choice.{pick}
use Rattle.refusals.specs.Numbers.{answer_number, page_number, bytes_written}
use Rattle.refusals.specs.Outcomes.{of_page, accepts, Changes}
use Rattle.shelf.specs.SettingsList.{with_settings}
use Rattle.page.specs.Slots.{start_of}
use Rattle.page.specs.Places.{own_slot}
use Rattle.names.specs.Found.{no_element, element_found, FindAnswer}
use Rattle.names.specs.Setting.{name_set, set_if, element_tested, overall_tested}
use Rattle.control_page.specs.Tests as control
use Rattle.control_page.specs.Brought as controlled
use Rattle.threshold_page_out.specs.Taken.{taken_from, with_thresholds}
use Rattle.threshold_page_out.specs.Tests as thresholds
use Rattle.collector.specs.Collector.{page_of}
use Rattle.collected_page.specs.Meant.{other_tested}
use Rattle.build_page.specs.Outcome.{bytes_built, selects_built, BuildAnswer}
use Rattle.build_page.specs.Promise.{wish_tested, Answered, Passed}
use Rattle.promises.specs.Promises.{WriteConfiguration, WriteStatus, WriteThresholds, WriteDescriptors, ReadConfiguration, ReadStatus, ReadThresholds, ReadDescriptors, RewriteConfiguration, RewriteStatus, RewriteThresholds, RewriteDescriptors, ApplyControl, ApplyThresholds, Meant, EndPage, BuildControl, SetName, SetOverallName}
use Rattle.promises.specs.PromisesForC.{Numbered, NumberedPage, NumberedWritten, NumberedBuilt, WriteConfigurationForC, WriteStatusForC, WriteThresholdsForC, WriteDescriptorsForC, ReadConfigurationForC, ReadStatusForC, ReadThresholdsForC, ReadDescriptorsForC, RewriteConfigurationForC, RewriteStatusForC, RewriteThresholdsForC, RewriteDescriptorsForC, ApplyControlForC, ApplyThresholdsForC, EndPageForC, BuildControlForC, FindNameForC, SetNameForC, SetOverallNameForC}
use Rattle.promises.specs.Settled.{KeptIfRefused, KeptAnswered, KeptForC, KeptWritten, KeptBuilt}
use Rattle.refusals.specs.Answers.{Answer, PageAnswer, Counted}

-- a shelf that is changed only where the tests accept
changes : (a : PageAnswer) (t : Bool) (changed shelf : List ℕ) → t ≡ accepts a → KeptIfRefused Err (Changes a (pick t changed shelf)) shelf
changes a t changed shelf e x o h =
    let n : t ≡ false = e ∙ ap accepts (sym h.0) in
    h.1 ∙ rw n

-- and one in which a name is set
sets : (a : Answer) (named shelf : List ℕ) → KeptIfRefused Err (Changes a (set_if a named shelf)) shelf
sets a named shelf x o h = h.1 ∙ ap (λ (t : Answer). set_if t named shelf) (sym h.0)

-- for C, whatever the promise
numbered : (P : Answer → List ℕ → Type 0) {old : List ℕ} → KeptIfRefused Err P old
    → KeptAnswered (λ (n : ℕ) (o : List ℕ). Numbered (λ r. P r o) n) old
numbered P {old} u n o h f = go h.0 h.1 h.2
  where
    go : (r : Answer) → P r o → n ≡ answer_number r → o ≡ old
    go (Ok _) w e = absurd (f e)
    go (Err x) w e = u x o w

numbered_page : (P : PageAnswer → List ℕ → Type 0) {old : List ℕ} → KeptIfRefused Err P old
    → KeptForC (λ (n : ℕ) (o : List ℕ) (k : ℕ). NumberedPage (λ r. P r o) n k) old
numbered_page P {old} u n o k h f = go h.0 h.1 h.2
  where
    go : (r : PageAnswer) → P r o → n ≡ page_number r → o ≡ old
    go (Ok _) w e = absurd (f e)
    go (Err x) w e = u x o w

numbered_written : (P : Counted → List ℕ → Type 0) {old : List ℕ} → KeptIfRefused Err P old
    → KeptWritten (λ (n : ℕ) (o : List ℕ) (b : ℕ). NumberedWritten (λ r. P r o) n b) old
numbered_written P {old} u n o b h f = go h.0 h.1 h.2 h.3
  where
    go : (r : Counted) → P r o → n ≡ answer_number r → b ≡ bytes_written r → (o ≡ old) × (b ≡ 0)
    go (Ok m) k e d = absurd (f e)
    go (Err x) k e d = (u x o k, d)

numbered_built : (P : BuildAnswer → List ℕ → Type 0) {old : List ℕ} → KeptIfRefused Err P old
    → KeptBuilt (λ (n : ℕ) (o : List ℕ) (b k : ℕ). NumberedBuilt (λ r. P r o) n b k) old
numbered_built P {old} u n o b m h f = go h.0 h.1 h.2 h.3 h.4
  where
    go : (r : BuildAnswer) → P r o → n ≡ answer_number r → b ≡ bytes_built r → m ≡ selects_built r → (o ≡ old) × (b ≡ 0) × (m ≡ 0)
    go (Ok i) k e d c = absurd (f e)
    go (Err x) k e d c = (u x o k, d, c)

-- in Rattle

pub write_configuration : (shelf out : List ℕ) → KeptIfRefused Err (WriteConfiguration shelf out) out
write_configuration shelf out x o h = h.1

pub write_status : (shelf out : List ℕ) → KeptIfRefused Err (WriteStatus shelf out) out
write_status shelf out x o h = h.1

pub write_thresholds : (shelf out : List ℕ) → KeptIfRefused Err (WriteThresholds shelf out) out
write_thresholds shelf out x o h = h.1

pub write_descriptors : (shelf out : List ℕ) → KeptIfRefused Err (WriteDescriptors shelf out) out
write_descriptors shelf out x o h = h.1

pub read_configuration : (page configuration : List ℕ) → KeptIfRefused Err (ReadConfiguration page configuration) configuration
read_configuration page configuration x o h = h.1

pub read_status : (configuration page fields : List ℕ) → KeptIfRefused Err (ReadStatus configuration page fields) fields
read_status configuration page fields x o h = h.1

pub read_thresholds : (configuration page fields : List ℕ) → KeptIfRefused Err (ReadThresholds configuration page fields) fields
read_thresholds configuration page fields x o h = h.1

pub read_descriptors : (configuration page fields : List ℕ) → KeptIfRefused Err (ReadDescriptors configuration page fields) fields
read_descriptors configuration page fields x o h = h.1

pub rewrite_configuration : (configuration out : List ℕ) → KeptIfRefused Err (RewriteConfiguration configuration out) out
rewrite_configuration configuration out x o h = h.1

pub rewrite_status : (configuration fields out : List ℕ) → KeptIfRefused Err (RewriteStatus configuration fields out) out
rewrite_status configuration fields out x o h = h.1

pub rewrite_thresholds : (configuration fields out : List ℕ) → KeptIfRefused Err (RewriteThresholds configuration fields out) out
rewrite_thresholds configuration fields out x o h = h.1

pub rewrite_descriptors : (configuration fields out : List ℕ) → KeptIfRefused Err (RewriteDescriptors configuration fields out) out
rewrite_descriptors configuration fields out x o h = h.1

pub apply_control : (shelf page : List ℕ) → KeptIfRefused Err (ApplyControl shelf page) shelf
unfolding control.valid
apply_control shelf page =
    changes (control.control_tested shelf page) (control.valid shelf page) (with_settings shelf (controlled.brought_to shelf page)) shelf refl

pub apply_thresholds : (shelf page : List ℕ) → KeptIfRefused Err (ApplyThresholds shelf page) shelf
unfolding thresholds.valid
apply_thresholds shelf page =
    changes (thresholds.thresholds_tested shelf page) (thresholds.valid shelf page) (with_thresholds shelf (taken_from shelf page)) shelf refl

meant : (code : ℕ) (shelf page : List ℕ) → KeptIfRefused Err (Meant code shelf page) shelf
meant code shelf page = go (eqb code 0x02) (eqb code 0x05)
  where
    go : (a b : Bool)
        → KeptIfRefused Err
        (Changes
        (pick a (control.control_tested shelf page) (pick b (thresholds.thresholds_tested shelf page) (of_page (other_tested shelf page))))
        (pick a (controlled.after shelf page) (pick b (thresholds.after shelf page) shelf)))
        shelf
    go true b = apply_control shelf page
    go false true = apply_thresholds shelf page
    go false false = λ x o h. h.1

-- whatever the collector is afterwards: that it is empty then is the promise itself
pub end_page : (collector shelf : List ℕ) (code : ℕ) (c : List ℕ) → KeptIfRefused Err (λ r o. EndPage collector shelf code r c o) shelf
end_page collector shelf code c x o h = meant code shelf (page_of collector) x o h.0

pub build_control : (shelf wanted out : List ℕ) → KeptIfRefused Err (BuildControl shelf wanted out) out
build_control shelf wanted out x o h = go (wish_tested shelf wanted) h
  where
    answered : Answered shelf wanted out (Err x) o → o ≡ out
    answered (inl a) = a.2
    answered (inr a) = a.3

    go : (t : Answer) → Passed t shelf wanted out (Err x) o → o ≡ out
    go (Ok _) a = answered a
    go (Err y) a = a.1

pub set_name : (shelf : List ℕ) (element : ℕ) (text : List ℕ) → KeptIfRefused Err (SetName shelf element text) shelf
set_name shelf element text = sets (element_tested shelf element text) (name_set shelf (own_slot shelf element) text) shelf

pub set_overall_name : (shelf : List ℕ) (number : ℕ) (text : List ℕ) → KeptIfRefused Err (SetOverallName shelf number text) shelf
set_overall_name shelf number text = sets (overall_tested shelf number text) (name_set shelf (start_of shelf number) text) shelf

-- for C

pub ses_write_configuration : (shelf out : List ℕ) → KeptWritten (WriteConfigurationForC shelf out) out
ses_write_configuration shelf out = numbered_written (WriteConfiguration shelf out) (write_configuration shelf out)

pub ses_write_status : (shelf out : List ℕ) → KeptWritten (WriteStatusForC shelf out) out
ses_write_status shelf out = numbered_written (WriteStatus shelf out) (write_status shelf out)

pub ses_write_thresholds : (shelf out : List ℕ) → KeptWritten (WriteThresholdsForC shelf out) out
ses_write_thresholds shelf out = numbered_written (WriteThresholds shelf out) (write_thresholds shelf out)

pub ses_write_descriptors : (shelf out : List ℕ) → KeptWritten (WriteDescriptorsForC shelf out) out
ses_write_descriptors shelf out = numbered_written (WriteDescriptors shelf out) (write_descriptors shelf out)

pub ses_read_configuration : (page configuration : List ℕ) → KeptForC (ReadConfigurationForC page configuration) configuration
ses_read_configuration page configuration = numbered_page (ReadConfiguration page configuration) (read_configuration page configuration)

pub ses_read_status : (configuration page fields : List ℕ) → KeptForC (ReadStatusForC configuration page fields) fields
ses_read_status configuration page fields = numbered_page (ReadStatus configuration page fields) (read_status configuration page fields)

pub ses_read_thresholds : (configuration page fields : List ℕ) → KeptForC (ReadThresholdsForC configuration page fields) fields
ses_read_thresholds configuration page fields = numbered_page (ReadThresholds configuration page fields) (read_thresholds configuration page fields)

pub ses_read_descriptors : (configuration page fields : List ℕ) → KeptForC (ReadDescriptorsForC configuration page fields) fields
ses_read_descriptors configuration page fields = numbered_page (ReadDescriptors configuration page fields) (read_descriptors configuration page fields)

pub ses_rewrite_configuration : (configuration out : List ℕ) → KeptWritten (RewriteConfigurationForC configuration out) out
ses_rewrite_configuration configuration out = numbered_written (RewriteConfiguration configuration out) (rewrite_configuration configuration out)

pub ses_rewrite_status : (configuration fields out : List ℕ) → KeptWritten (RewriteStatusForC configuration fields out) out
ses_rewrite_status configuration fields out = numbered_written (RewriteStatus configuration fields out) (rewrite_status configuration fields out)

pub ses_rewrite_thresholds : (configuration fields out : List ℕ) → KeptWritten (RewriteThresholdsForC configuration fields out) out
ses_rewrite_thresholds configuration fields out = numbered_written (RewriteThresholds configuration fields out) (rewrite_thresholds configuration fields out)

pub ses_rewrite_descriptors : (configuration fields out : List ℕ) → KeptWritten (RewriteDescriptorsForC configuration fields out) out
ses_rewrite_descriptors configuration fields out =
    numbered_written (RewriteDescriptors configuration fields out) (rewrite_descriptors configuration fields out)

pub ses_apply_control : (shelf page : List ℕ) → KeptForC (ApplyControlForC shelf page) shelf
ses_apply_control shelf page = numbered_page (ApplyControl shelf page) (apply_control shelf page)

pub ses_apply_thresholds : (shelf page : List ℕ) → KeptForC (ApplyThresholdsForC shelf page) shelf
ses_apply_thresholds shelf page = numbered_page (ApplyThresholds shelf page) (apply_thresholds shelf page)

pub ses_end_page : (collector shelf : List ℕ) (code : ℕ) (c : List ℕ) → KeptForC (λ n o k. EndPageForC collector shelf code n c o k) shelf
ses_end_page collector shelf code c = numbered_page (λ r o. EndPage collector shelf code r c o) (end_page collector shelf code c)

pub ses_build_control : (shelf wanted out : List ℕ) → KeptBuilt (BuildControlForC shelf wanted out) out
ses_build_control shelf wanted out = numbered_built (BuildControl shelf wanted out) (build_control shelf wanted out)

pub ses_find_name : (shelf text : List ℕ) (n element : ℕ) → FindNameForC shelf text n element → (n ≡ 0 → ⊥) → element ≡ no_element
ses_find_name shelf text n element h f = go h.0 h.2 h.3
  where
    go : (r : FindAnswer) → n ≡ answer_number r → element ≡ element_found r → element ≡ no_element
    go (Ok (Some j)) e d = absurd (f e)
    go (Ok None) e d = absurd (f e)
    go (Err x) e d = d

pub ses_set_name : (shelf : List ℕ) (element : ℕ) (text : List ℕ) → KeptAnswered (SetNameForC shelf element text) shelf
ses_set_name shelf element text = numbered (SetName shelf element text) (set_name shelf element text)

pub ses_set_overall_name : (shelf : List ℕ) (number : ℕ) (text : List ℕ) → KeptAnswered (SetOverallNameForC shelf number text) shelf
ses_set_overall_name shelf number text = numbered (SetOverallName shelf number text) (set_overall_name shelf number text)
