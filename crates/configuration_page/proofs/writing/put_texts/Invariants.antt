use mathlib.Core.Path.{◌≡◌}
use Prim.Native.Nat.{◌≤◌}
use Rattle.configuration_page.specs.Page.{text_of, text_start}
use Rattle.bits.specs.Rows.{rows_put}
use Rattle.configuration_page.proofs.writing.put_texts.Given as goal

abbrev pub invariant-loop-t : goal.invariant-loop-t
invariant-loop-t l = (l.t ≤ l.n) × (l.at ≡ text_start l.front l.t) × (l.out ≡ rows_put (text_start l.front) (text_of l.front) l.initial.out l.t)
