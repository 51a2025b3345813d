-- What the masks of a type come to, from the facts of its rules. Assumes nothing.
use mathlib.Core.Path.{◌≡◌, refl, sym, ap, ◌∙◌}
use mathlib.Core.Bool.{Bool, true, false, ◌&&◌, ◌||◌}
use mathlib.Core.List.{List}
use Prim.Native.Nat.{ℕ, zero, suc, ◌+◌, ◌<◌}
use native.Mathlib.Nat.{mod-eq_of_lt}
use native.Mathlib.Omega.{arith}
use lib.Bits.{bit_or, and_mask, and_zero_r, or_lt}
use lib.Dec.{eqb, ltb}
use lib.ListN.{get_or}
use borrow.Author.Tests.{eq-eqb, ne_eqb}
use Rattle.bits.specs.Choice.{pick}
use Rattle.bits.proofs.Logic.{four_alike}
use Rattle.bits.specs.Bits.{within}
use Rattle.bits.specs.Places.{four_at}
use Rattle.bits.specs.Numbers.{big, bytes, Bytes}
use Rattle.bits.specs.Masks.{all_within, first_outside}
use Rattle.bits.proofs.Widths.{bytes_big}
use Rattle.bits.proofs.Masks.{within_four}
use Rattle.element.specs.declared.types.Kind.{Kind}
use Rattle.element.specs.declared.layout.Layout.{Layout}
use Rattle.element.specs.Layouts.{settings_mask, control_mask}
use Rattle.element.specs.Thresholds.{thresholds_mask}
use Rattle.element.specs.Rules.{Numbers}
use Rattle.element.specs.Types.{rules_of, had}
use Rattle.element.specs.Requests.{reserved_in}
use Rattle.element.proofs.Flags.{mask_small}
use Rattle.element.proofs.TypeFacts.{facts}

-- a threshold byte that is had may be any, another one is zero
mask_small_byte : (t : Bool) → pick t 255 0 < 256
mask_small_byte true = omega arith
mask_small_byte false = omega arith

zero_alone : (b : ℕ) → eqb 0 b ≡ eqb b 0
zero_alone zero = refl
zero_alone (suc b) = ne_eqb 0 (suc b) (λ h. omega (arith, h)) ∙ sym (ne_eqb (suc b) 0 (λ h. omega (arith, h)))

byte_within_lem : (t : Bool) (b : ℕ) → b < 256 → within (pick t 255 0) b ≡ t || eqb b 0
byte_within_lem true b h = eq-eqb _ _ (and_mask b 8 ∙ mod-eq_of_lt h)
byte_within_lem false b h = ap (λ (x : ℕ). eqb x b) (and_zero_r b) ∙ zero_alone b

module _ (k : Kind) where
  abbrev l : Layout
  l = (rules_of k).layout

  last_small : bit_or l.flags3 l.speed < 256
  last_small = let h = (facts k).sound in or_lt 8 l.flags3 l.speed (mask_small l.flags3 h.keeps3) (mask_small l.speed h.speeds)

  settings_bytes_lem : Bytes (settings_mask l)
  settings_bytes_lem =
      let h = (facts k).sound in
      (omega arith, (mask_small l.flags1 h.keeps1, (mask_small l.flags2 h.keeps2, (last_small, tt))))

  control_bytes : Bytes (control_mask l)
  control_bytes =
      let h = (facts k).sound in
      (omega arith, (mask_small l.flags1 h.keeps1, (mask_small l.flags2 h.keeps2, (last_small, tt))))

  settings_is : (rules_of k).numbers.settings ≡ big (settings_mask l)
  settings_is = ap (λ (m : Numbers). m.settings) (facts k).numbered

  pub settings_small : (rules_of k).numbers.settings < 2147483648
  settings_small = let b = settings_bytes_lem in let e = settings_is in omega (arith, b.1.0, b.1.1.0, b.1.1.1.0)

  -- with SELECT
  pub control_four : bytes 4 (2147483648 + (rules_of k).numbers.settings) ≡ control_mask l
  control_four =
      let e : 2147483648 + big (settings_mask l) ≡ big (control_mask l) = omega arith in
      ap (λ (n : ℕ). bytes 4 (2147483648 + n)) settings_is ∙ ap (bytes 4) e ∙ bytes_big (control_mask l) control_bytes

  pub reserved_outside : (e : List ℕ) → first_outside (bytes 4 (2147483648 + (rules_of k).numbers.settings)) e ≡ reserved_in k e
  unfolding reserved_in
  reserved_outside e = ap (λ (m : List ℕ). first_outside m e) control_four ∙ sym (four_alike ((facts k).reserves e))

  pub settings_within : (e : List ℕ) → Bytes (four_at e 0) → within (rules_of k).numbers.settings (big (four_at e 0)) ≡ all_within (settings_mask l) e
  settings_within e h =
      ap (λ (n : ℕ). within n (big (four_at e 0))) settings_is ∙ within_four _ _ _ _ _ _ _ _ settings_bytes_lem h

  pub thresholds_within : (t : List ℕ) → Bytes (four_at t 0) → within (rules_of k).numbers.thresholds (big (four_at t 0)) ≡ had k t
  unfolding had
  thresholds_within t h =
      let n = (rules_of k).thresholds in
      let m : Bytes (thresholds_mask n) = (mask_small_byte (ltb 0 n), (mask_small_byte (ltb 1 n), (mask_small_byte (ltb 2 n), (mask_small_byte (ltb 3 n), tt)))) in
      let p = byte_within_lem (ltb 0 n) (get_or t 0 0) h.0 in
      let q = byte_within_lem (ltb 1 n) (get_or t 1 0) h.1.0 in
      let r = byte_within_lem (ltb 2 n) (get_or t 2 0) h.1.1.0 in
      let s = byte_within_lem (ltb 3 n) (get_or t 3 0) h.1.1.1.0 in
      ap (λ (x : Numbers). within x.thresholds (big (four_at t 0))) (facts k).numbered
      ∙ within_four _ _ _ _ _ _ _ _ m h
      ∙ (λ i. ((p i && q i) && r i) && s i)
