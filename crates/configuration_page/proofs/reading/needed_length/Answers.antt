use mathlib.Core.Path.{◌≡◌, sym, ap, ◌∙◌}
use mathlib.Core.List.{List}
use Prim.Native.Nat.{ℕ, ◌+◌, ◌*◌}
use native.Mathlib.Omega.{arith}
use lib.ListN.{get_or}
use Rattle.configuration_page.specs.Read.{needed_length}
use Rattle.bits.proofs.RowStarts.{start_first, start_next}
use Rattle.configuration_page.proofs.reading.needed_length.Goals as goal

pub loop-t-init : goal.loop-t-init
loop-t-init c = (omega arith, omega arith, c.header_place-bytes.ensures ∙ rw c.types_on-n.ensures (sym (start_first _ _)))

pub loop-t-preserved : goal.loop-t-preserved
loop-t-preserved c = let l = c.loop-t in let e = ap (λ (e : List ℕ). get_or e 3 0) c.header_on-e.ensures in (omega arith, omega (arith, c.type_inv.page (48 + 4 * l.t + 3)), start_next _ _ l.t l.invariant.2 e)

pub returns : goal.returns
unfolding needed_length
returns c = let e : c.loop-t.t ≡ c.types_on-n.result = omega arith in rw (e, c.types_on-n.ensures) at c.loop-t.invariant.2
