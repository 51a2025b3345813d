-- The worst of the codes seen so far, and the page bits, one element after the other. Assumes nothing.
use mathlib.Core.Path.{◌≡◌, refl, sym, ap, ◌∙◌}
use mathlib.Core.Bool.{Bool, true, false, ◌||◌}
use mathlib.Core.List.{List}
use Prim.Native.Nat.{ℕ, suc, ◌+◌, ◌-◌, ◌≤◌}
use native.Mathlib.Numerals.{add-one}
use native.Mathlib.Omega.{arith}
use lib.Dec.{eqb}
use Rattle.bits.specs.Choice.{pick}
use Rattle.element.specs.declared.types.Kind.{Kind}
use Rattle.shelf.specs.Types.{kind_at}
use Rattle.shelf_status.specs.declared.PageBits.{PageBits}
use Rattle.shelf_status.specs.ShelfStatus.{code_at, any_below, worst_of, has, worst, worse, is_code, bits_with}

-- one code more, by which of the four were there
step : (a b c d : Bool) (n : ℕ)
    → worse (pick a 2 (pick b 3 (pick c 6 (pick d 1 0)))) n ≡ pick (a || eqb n 2) 2 (pick (b || eqb n 3) 3 (pick (c || eqb n 6) 6 (pick (d || eqb n 1) 1 0)))
step true b c d n = refl
step false true c d n = refl
step false false true d n = refl
step false false false true n = refl
step false false false false n = refl

module _ (s : List ℕ) (k : Kind) (first : ℕ) where
  pub none_seen : 0 ≡ worst_of (has s k first (first - first))
  none_seen = ap (λ n. worst_of (has s k first n)) (let e : 0 ≡ first - first = omega arith in e)

  pub one_more : (j : ℕ) {w n r : ℕ} → first ≤ j → w ≡ worst_of (has s k first (j - first)) → n ≡ code_at s k j → r ≡ worse w n
      → r ≡ worst_of (has s k first (j + 1 - first))
  one_more j l p q h =
      let m = j - first in
      let e : j + 1 - first ≡ suc m = omega arith in
      let f : first + m ≡ j = omega arith in
      h
      ∙ rw (p, q)
      (ap (λ x. worse (worst_of (has s k first m)) (code_at s k x)) (sym f)
      ∙ step (has s k first m 2) (has s k first m 3) (has s k first m 6) (has s k first m 1) (code_at s k (first + m))
      ∙ ap (λ x. worst_of (has s k first x)) (sym e))

  pub all_seen : (j end : ℕ) {w : ℕ} → j - first ≡ end - first → w ≡ worst_of (has s k first (j - first)) → w ≡ worst s k first end
  unfolding worst
  all_seen j end e p = p ∙ ap (λ n. worst_of (has s k first n)) e

-- the page bits of the first n elements, one element after the other
abbrev pub bits_seen : List ℕ → ℕ → PageBits
bits_seen s n = record { noncritical = any_below (is_code s 3) n; critical = any_below (is_code s 2) n }

pub seen_next : (s : List ℕ) (j : ℕ) {b r : PageBits} {k : Kind} {n : ℕ} → b ≡ bits_seen s j → k ≡ kind_at s j → n ≡ code_at s k j → r ≡ bits_with b n
    → r ≡ bits_seen s (j + 1)
seen_next s j p q e h = h ∙ rw (add-one, p, e, q)
