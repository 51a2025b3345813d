-- What the functions over a layout come to, from what the calls in them say. Assumes nothing.
use mathlib.Core.Path.{◌≡◌, ap, ◌∙◌}
use mathlib.Core.Bool.{false}
use mathlib.Core.List.{List, [], ◌∷◌}
use Prim.Native.Nat.{ℕ, ◌/◌}
use lib.Bits.{bit_and, bit_or}
use lib.Dec.{eqb}
use lib.ListN.{get_or}
use Rattle.bits.specs.Bits.{nibble, join}
use Rattle.bits.proofs.Halves.{and1}
use Rattle.element.specs.declared.layout.Layout.{Layout}
use Rattle.element.specs.declared.settings.Settings.{Settings}
use Rattle.element.specs.Layouts.{said, stored}

module _ (l : Layout) where
  -- bits by shift and mask
  pub said_is : (e : List ℕ)
      → ◌≡◌ {A = Settings}
      (record {
        prdfail = eqb (bit_and (get_or e 0 0 / 64) 1) 1;
        disabled = eqb (bit_and (get_or e 0 0 / 32) 1) 1;
        swap = eqb (bit_and (get_or e 0 0 / 16) 1) 1;
        flags1 = bit_and (get_or e 1 0) l.flags1;
        flags2 = bit_and (get_or e 2 0) l.flags2;
        flags3 = bit_and (get_or e 3 0) l.flags3;
        speed = bit_and (get_or e 3 0) l.speed;
      })
      (said l e)
  said_is e =
      let a = and1 (get_or e 0 0 / 64) in
      let b = and1 (get_or e 0 0 / 32) in
      let c = and1 (get_or e 0 0 / 16) in
      λ i. record {
        prdfail = eqb (a i) 1;
        disabled = eqb (b i) 1;
        swap = eqb (c i) 1;
        flags1 = bit_and (get_or e 1 0) l.flags1;
        flags2 = bit_and (get_or e 2 0) l.flags2;
        flags3 = bit_and (get_or e 3 0) l.flags3;
        speed = bit_and (get_or e 3 0) l.speed;
      }

  pub stored_is : (s : Settings) {a h : ℕ} → h ≡ nibble false s.prdfail s.disabled s.swap → a ≡ join h 0
      → a
      ∷ bit_and s.flags1 l.flags1
      ∷ bit_and s.flags2 l.flags2
      ∷ bit_or (bit_and s.flags3 l.flags3) (bit_and s.speed l.speed)
      ∷ []
      ≡ stored l s
  stored_is s q r =
      ap (λ (x : ℕ). x ∷ bit_and s.flags1 l.flags1 ∷ bit_and s.flags2 l.flags2 ∷ bit_or (bit_and s.flags3 l.flags3) (bit_and s.speed l.speed) ∷ [])
      (r ∙ ap (λ (x : ℕ). join x 0) q)
