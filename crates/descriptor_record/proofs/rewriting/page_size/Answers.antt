use mathlib.Core.Path.{◌≡◌, refl, sym, ap, ◌∙◌}
use Prim.Native.Nat.{◌+◌}
use native.Mathlib.Omega.{arith}
use Rattle.bits.proofs.Logic.{below_next}
use Rattle.bits.proofs.RowStarts.{start_first, start_next}
use Rattle.names.specs.Name.{name_in}
use Rattle.descriptor_page.specs.Page.{width}
use Rattle.descriptor_page.proofs.DescriptorRows.{names_short}
use Rattle.descriptor_record.specs.Rewritten.{entry_place, entry_formed, bytes_again}
use Rattle.descriptor_record.proofs.RewrittenTests.{not_formed, formed, no_page, page_counted}
use Rattle.descriptor_record.proofs.rewriting.page_size.Goals as goal

pub loop-i-init : goal.loop-i-init
loop-i-init c = (omega arith, sym (start_first 8 (width (name_in c.args.fields.now (entry_place 0)))), refl)

pub returns-in_err-bytes : goal.returns-in_err-bytes
returns-in_err-bytes c = let s = c.args in
    let l = c.loop-i in
    c.from_residual.ensures ∙ no_page s.fields.now s.n l.i c.loop-i-test.true (not_formed s.fields.now l.i (sym c.in_err-bytes.was ∙ c.entry_size.ensures))

pub overflow_add-bytes : goal.overflow_add-bytes
overflow_add-bytes c = let r = c.args.fields.now in
    let l = c.loop-i in
    let e = formed r l.i (sym c.in_ok-bytes.was ∙ c.entry_size.ensures) in
    let n = start_next 8 (width (name_in r (entry_place 0))) l.i l.invariant.1 e.1 in
    record { fits = omega (arith, n, names_short r (entry_place 0) (l.i + 1), c.loop-i-test.true, c.requires) }

pub loop-i-preserved : goal.loop-i-preserved
loop-i-preserved c = let s = c.args in
    let l = c.loop-i in
    let e = formed s.fields.now l.i (sym c.in_ok-bytes.was ∙ c.entry_size.ensures) in (
      omega (arith, c.loop-i-test.true),
      start_next 8 (width (name_in s.fields.now (entry_place 0))) l.i l.invariant.1 e.1,
      below_next (entry_formed s.fields.now) l.i l.invariant.2 e.0,
    )

pub returns : goal.returns
returns c = let s = c.args in
    let l = c.loop-i in
    let e : l.i ≡ s.n = omega arith in
    page_counted s.fields.now s.n (l.invariant.1 ∙ ap (bytes_again s.fields.now) e) (rw e at l.invariant.2)
