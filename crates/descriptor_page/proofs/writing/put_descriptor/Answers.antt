use mathlib.Core.Path.{ap, ◌∙◌}
use Prim.Native.Nat.{ℕ}
use native.Mathlib.Omega.{arith}
use lib.ListN.{length}
use Rattle.bits.specs.Numbers.{bytes}
use Rattle.bits.proofs.FourPut.{length_put}
use Rattle.names.proofs.NameBack.{name_bound, length_name}
use Rattle.descriptor_page.proofs.DescriptorRows.{descriptor_room, descriptor_put}
use Rattle.descriptor_page.proofs.writing.put_descriptor.Goals as goal

pub put_four-requires : goal.put_four-requires
put_four-requires c = omega (arith, descriptor_room c.args.names.now c.args.at c.args.out.now c.args.place c.requires.at_in_bounds)

pub copy-requires : goal.copy-requires
copy-requires c = let f = c.args.names.now in
    let n = c.length_at-bytes.ensures in
    let l = ap length c.put_four.ensures ∙ length_put c.args.out.now c.args.place _ in record { n_in_bounds = omega (arith, c.requires.most_text_in_bounds, n, name_bound f c.args.at); n_in_bounds_2 = omega (arith, n, l, descriptor_room f c.args.at c.args.out.now c.args.place c.requires.at_in_bounds) }

pub overflow_add-result : goal.overflow_add-result
overflow_add-result c = let s = c.args in
    omega (arith, c.length_at-bytes.ensures, name_bound s.names.now s.at)

-- the number told is that of the bytes, however it is reckoned
pub returns : goal.returns
returns c = let f = c.args.names.now in
    let n = c.length_at-bytes.ensures in record {
      value = omega (arith, n, length_name f c.args.at);
      out_after = descriptor_put f c.args.at c.args.out.now c.args.place c.requires.at_in_bounds n
          (c.four_of-head.ensures ∙ ap (λ (m : ℕ). bytes 4 m) (omega arith)) c.put_four.ensures c.copy.ensures;
    }
