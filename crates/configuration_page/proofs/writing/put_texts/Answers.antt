use mathlib.Core.Path.{refl, sym, ap, ◌∙◌}
use Prim.Native.Nat.{◌<◌}
use native.Mathlib.Omega.{arith}
use Rattle.shelf_formed.proofs.FormedShelf.{few_types}
use Rattle.configuration_page.specs.Page.{header_place, text_of, text_start}
use Rattle.bits.proofs.RowStarts.{start_first, start_next}
use Rattle.bits.proofs.RowsPut.{rows_next, rows_length}
use Rattle.configuration_page.proofs.Loops.{text_made}
use Rattle.configuration_page.proofs.PartsPut.{text_there, text_in, short}
use Rattle.configuration_page.proofs.writing.put_texts.Goals as goal

pub loop-t-init : goal.loop-t-init
loop-t-init c = (omega arith, c.header_place-at.ensures ∙ ap header_place c.requires.n_value ∙ sym (start_first _ _), refl)

pub text_length-bytes-requires : goal.text_length-bytes-requires
text_length-bytes-requires c = omega (arith, few_types c.args.front.now c.requires.has_front.0)

pub copy-requires : goal.copy-requires
copy-requires c = let f = c.args.front.now in
    let loop = c.loop-t in
    let t = loop.t in
    let e = rows_length (text_start f) (text_of f) c.args.out.now t loop.invariant.2 in
    let l : t < c.args.n = c.loop-t-test.true in record { n_in_bounds = omega (arith, c.text_place.ensures, c.text_length-bytes.ensures, text_there f c.requires.has_front.0 t (omega arith)); n_in_bounds_2 = omega (arith, loop.invariant.1, c.text_length-bytes.ensures, text_in f t (omega arith), e) }

pub overflow_add-at : goal.overflow_add-at
overflow_add-at c = let f = c.args.front.now in
    let t = c.loop-t.t in
    let l = c.loop-t-test.true in
    omega
    (arith, short f c.requires.has_front.0, c.loop-t.invariant.1, c.text_length-bytes.ensures, text_in f t (omega arith))

pub loop-t-preserved : goal.loop-t-preserved
loop-t-preserved c = let s = c.args in
    let l = c.loop-t in
    let f = s.front.now in
    let n = c.text_length-bytes.ensures in
    let e = text_made f l.t c.text_place.ensures n in (
      omega arith,
      start_next _ _ l.t l.invariant.1 n,
      rows_next (text_start f) (text_of f) s.out.now l.t l.invariant.2 l.invariant.1 e c.copy.ensures,
    )
