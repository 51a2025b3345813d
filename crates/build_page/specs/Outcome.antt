-- The answer of the call that builds a page: its bytes and SELECTs, and what it leaves. Assumes nothing.
use Rattle.std.specs.Prelude.{List, ◌++◌, ℕ, leb, length, drop, Result, Ok, Err}
use Rattle.std.specs.Result.{result_and, result_unwrap_or}
use Rattle.bits.specs.Choice.{pick}
use Rattle.refusals.specs.declared.Refusal.{Refusal}
use Rattle.refusals.specs.declared.Refusal.TheVariants.{OutputTooShort}
use Rattle.refusals.specs.Answers.{Answer}
use Rattle.build_page.specs.declared.built.Built.{Built}

abbrev pub BuildAnswer : Type 0
BuildAnswer = Result Built Refusal

abbrev pub nothing : Built
nothing = record { bytes = 0; selects = 0 }

-- a refusal of the tests before the page is made
abbrev pub passed_on : Answer → BuildAnswer
passed_on a = result_and a (Ok nothing)

-- bytes written and SELECTs, both 0 if refused
abbrev pub bytes_built : BuildAnswer → ℕ
bytes_built a = (result_unwrap_or a nothing).bytes

abbrev pub selects_built : BuildAnswer → ℕ
selects_built a = (result_unwrap_or a nothing).selects

-- a page with m SELECTs is written if the output buffer holds it
abbrev pub built_of : List ℕ → ℕ → List ℕ → BuildAnswer
built_of p m out = pick (leb (length p) (length out)) (Ok (record { bytes = length p; selects = m })) (Err OutputTooShort)

-- the output buffer afterwards: the page and what stood behind it, or as it was
abbrev pub left_by : BuildAnswer → List ℕ → List ℕ → List ℕ
left_by (Ok b) p out = p ++ drop b.bytes out
left_by (Err r) p out = out
