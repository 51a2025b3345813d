-- The first byte of a control element that is refused: the first with a reserved bit if it is selected, else none. Assumes nothing.
use mathlib.Core.Path.{◌≡◌, refl, sym, ap, ◌∙◌}
use mathlib.Core.Bool.{Bool, true, false}
use mathlib.Core.List.{List}
use Prim.Native.Nat.{ℕ}
use lib.ListN.{get_or}
use Rattle.bits.specs.Choice.{pick, first_of}
use Rattle.bits.specs.Bits.{bit, within}
use Rattle.element.specs.declared.types.Kind.{Kind}
use Rattle.element.specs.Layouts.{control_mask}
use Rattle.element.specs.Types.{rules_of}
use Rattle.element.proofs.TypeFacts.{facts}
use Rattle.element.specs.Requests.{reserved_in}
use Rattle.element_control.specs.Control.{selected, allows, offending}

-- byte j is tested by itself and byte 0, which has SELECT
pub allows_alike : (k : Kind) (e d : List ℕ) (j : ℕ) → get_or e 0 0 ≡ get_or d 0 0 → get_or e j 0 ≡ get_or d j 0 → allows k e j ≡ allows k d j
allows_alike k e d j p q =
    λ i. pick (bit 7 (p i)) (((facts k).reserves e j ∙ ap (within (get_or (control_mask (rules_of k).layout) j 0)) q ∙ sym ((facts k).reserves d j)) i) true

module _ (k : Kind) (e : List ℕ) where
  pub offends_reserved : offending k e ≡ pick (selected e) (reserved_in k e) 4
  unfolding offending reserved_in first_of
  offends_reserved = go (selected e)
    where
      f : ℕ → Bool
      f = (rules_of k).control_allows e

      go : (t : Bool) → first_of (pick t (f 0) true) (pick t (f 1) true) (pick t (f 2) true) (pick t (f 3) true) ≡ pick t (first_of (f 0) (f 1) (f 2) (f 3)) 4
      go true = refl
      go false = refl
