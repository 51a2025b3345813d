-- Settings and the four bytes that store them say the same, each way round, under any layout whose masks are sound. Assumes nothing.
use mathlib.Core.Path.{◌≡◌, refl, ap, ◌∙◌}
use mathlib.Core.Bool.{Bool, true, false, not, ◌&&◌, ◌||◌}
use mathlib.Core.List.{List, [], ◌∷◌}
use Prim.Native.Nat.{ℕ, ◌<◌}
use lib.Bits.{bit_and, bit_or}
use lib.Dec.{eqb, leb}
use lib.ListN.{get_or}
use borrow.Author.Tests.{eqb-true, not-true}
use Rattle.bits.specs.Choice.{pick}
use Rattle.bits.specs.Bits.{bit, within, only, nibble, join}
use Rattle.bits.proofs.Logic.{and_left, and_right, and_both, and_four, and_five}
use Rattle.bits.proofs.Halves.{flags_high, again_byte}
use Rattle.element.specs.declared.layout.Layout.{Layout}
use Rattle.element.specs.declared.settings.Settings.{Settings}
use Rattle.element.specs.Layouts.{said, stored, formed}
use Rattle.element.specs.Requests.{speed_after, acted}
use Rattle.element.proofs.Flags.{keeps, mixes, splits, kept_twice, kept_within, mix_flags, mix_speed, mix_within, split_again}

pub four : {a b c d p q r s : ℕ} → a ≡ p → b ≡ q → c ≡ r → d ≡ s → ◌≡◌ {A = List ℕ} (a ∷ b ∷ c ∷ d ∷ []) (p ∷ q ∷ r ∷ s ∷ [])
four x y z w = λ i. x i ∷ y i ∷ z i ∷ w i ∷ []

first_again : (a : ℕ) → a < 256 → only (6 ∷ 5 ∷ 4 ∷ []) a ≡ true → join (nibble false (bit 6 a) (bit 5 a) (bit 4 a)) 0 ≡ a
first_again = again_byte (6 ∷ 5 ∷ 4 ∷ []) (λ a. join (nibble false (bit 6 a) (bit 5 a) (bit 4 a)) 0) refl

-- the byte that flags make has no other bit
first_only : (a b c : Bool) → only (6 ∷ 5 ∷ 4 ∷ []) (join (nibble false a b c) 0) ≡ true
first_only true true true = refl
first_only true true false = refl
first_only true false true = refl
first_only true false false = refl
first_only false true true = refl
first_only false true false = refl
first_only false false true = refl
first_only false false false = refl

-- what a layout keeps to: its masks are bytes, flags and speed stand apart, and a speed code has three bits
module _ (l : Layout) where
  pub record Sound : Type 0 where
    pub keeps1 : keeps l.flags1 ≡ true
    pub keeps2 : keeps l.flags2 ≡ true
    pub keeps3 : keeps l.flags3 ≡ true
    pub speeds : keeps l.speed ≡ true
    pub three : leb l.speed 7 ≡ true
    pub apart : mixes l.flags3 l.speed ≡ true
    pub whole : splits l.flags3 l.speed ≡ true

  abbrev masks_test : Bool
  masks_test = ((keeps l.flags1 && keeps l.flags2) && keeps l.flags3) && keeps l.speed

  abbrev apart_test : Bool
  apart_test = leb l.speed 7 && mixes l.flags3 l.speed

  -- as antt finds by computing it
  abbrev pub sound_test : Bool
  sound_test = masks_test && (apart_test && splits l.flags3 l.speed)

  pub sound_tested : sound_test ≡ true → Sound
  sound_tested t =
      let m = and_four (keeps l.flags1) (keeps l.flags2) (keeps l.flags3) (keeps l.speed) (and_left masks_test _ t) in
      let r = and_right masks_test (apart_test && splits l.flags3 l.speed) t in
      let a = and_left apart_test (splits l.flags3 l.speed) r in
      record {
        keeps1 = m.0;
        keeps2 = m.1;
        keeps3 = m.2;
        speeds = m.3;
        three = and_left (leb l.speed 7) (mixes l.flags3 l.speed) a;
        apart = and_right (leb l.speed 7) (mixes l.flags3 l.speed) a;
        whole = and_right apart_test (splits l.flags3 l.speed) r;
      }

  -- settings that the layout has a place for
  abbrev pub Placed : Settings → Type 0
  Placed s =
      (bit_and s.flags1 l.flags1 ≡ s.flags1)
      × (bit_and s.flags2 l.flags2 ≡ s.flags2)
      × (bit_and s.flags3 l.flags3 ≡ s.flags3)
      × (bit_and s.speed l.speed ≡ s.speed)

module _ (l : Layout) (h : Sound l) where
  -- stored settings are read back, whatever else the low half of byte 0 has
  pub back : (s : Settings) → Placed l s → said l (stored l s) ≡ s
  back s p =
      let x = flags_high false s.prdfail s.disabled s.swap 0 in
      let f = mix_flags l.flags3 l.speed h.keeps3 h.speeds h.three h.apart s.flags3 s.speed p.2 p.3 in
      let n = mix_speed l.flags3 l.speed h.keeps3 h.speeds h.three h.apart s.flags3 s.speed p.2 p.3 in
      let m : bit_or (bit_and s.flags3 l.flags3) (bit_and s.speed l.speed) ≡ bit_or s.flags3 s.speed = λ i. bit_or (p.2 i) (p.3 i) in
      let u = ap (λ (z : ℕ). bit_and z l.flags3) m ∙ f in
      let w = ap (λ (z : ℕ). bit_and z l.speed) m ∙ n in
      let a = ap (λ (z : ℕ). bit_and z l.flags1) p.0 ∙ p.0 in
      let b = ap (λ (z : ℕ). bit_and z l.flags2) p.1 ∙ p.1 in
      λ i. record { prdfail = x.1 i; disabled = x.2 i; swap = x.3 i; flags1 = a i; flags2 = b i; flags3 = u i; speed = w i }

  -- what is read has a place
  pub placed : (e : List ℕ) → Placed l (said l e)
  placed e = (
    kept_twice l.flags1 h.keeps1 (get_or e 1 0),
    kept_twice l.flags2 h.keeps2 (get_or e 2 0),
    kept_twice l.flags3 h.keeps3 (get_or e 3 0),
    kept_twice l.speed h.speeds (get_or e 3 0),
  )

  -- four bytes with no bit but the named ones are stored again as they were
  pub again : (a b c d : ℕ) → a < 256 → d < 256 → only (6 ∷ 5 ∷ 4 ∷ []) a ≡ true → within l.flags1 b ≡ true → within l.flags2 c ≡ true
      → within (bit_or l.flags3 l.speed) d ≡ true → stored l (said l (a ∷ b ∷ c ∷ d ∷ [])) ≡ a ∷ b ∷ c ∷ d ∷ []
  again a b c d ha hd x y z w =
      let e : bit_or (bit_and (bit_and d l.flags3) l.flags3) (bit_and (bit_and d l.speed) l.speed) ≡ bit_or (bit_and d l.flags3) (bit_and d l.speed)
      = λ i. bit_or (kept_twice l.flags3 h.keeps3 d i) (kept_twice l.speed h.speeds d i) in
      four (first_again a ha x) (kept_twice l.flags1 h.keeps1 b ∙ eqb-true _ _ y) (kept_twice l.flags2 h.keeps2 c ∙ eqb-true _ _ z)
      (e ∙ split_again l.flags3 l.speed h.whole d hd w)

  -- stored bytes have no bit but the named ones
  module _ (s : Settings) where
    pub first_clear_lem : only (6 ∷ 5 ∷ 4 ∷ []) (get_or (stored l s) 0 0) ≡ true
    first_clear_lem = first_only s.prdfail s.disabled s.swap

    pub second_clear : within l.flags1 (get_or (stored l s) 1 0) ≡ true
    second_clear = kept_within l.flags1 h.keeps1 s.flags1

    pub third_clear : within l.flags2 (get_or (stored l s) 2 0) ≡ true
    third_clear = kept_within l.flags2 h.keeps2 s.flags2

    pub fourth_clear : within (bit_or l.flags3 l.speed) (get_or (stored l s) 3 0) ≡ true
    fourth_clear =
        mix_within l.flags3 l.speed h.keeps3 h.speeds h.three h.apart _ _
        (kept_twice l.flags3 h.keeps3 s.flags3)
        (kept_twice l.speed h.speeds s.speed)

speed_placed : (m a b : ℕ) → bit_and a m ≡ a → bit_and b m ≡ b → bit_and (speed_after a b) m ≡ speed_after a b
speed_placed m a b p q = go (eqb a 0)
  where
    go : (t : Bool) → bit_and (pick t b a) m ≡ pick t b a
    go true = q
    go false = p

speed_kept_lem : (a b : ℕ) → eqb b 0 ≡ false → eqb (speed_after a b) 0 ≡ false
speed_kept_lem a b h = go (eqb a 0) refl
  where
    go : (t : Bool) → eqb a 0 ≡ t → eqb (pick t b a) 0 ≡ false
    go true e = h
    go false e = e

-- what a request makes of settings has a place
pub acted_placed : (l : Layout) (r s : Settings) → Placed l r → Placed l s → Placed l (acted r s)
acted_placed l r s p q = (p.0, p.1, p.2, speed_placed l.speed r.speed s.speed p.3 q.3)

-- what settings that a type may have are tested for
module _ (l : Layout) (e : List ℕ) (t : formed l e ≡ true) where
  pub in_formed : (only (6 ∷ 5 ∷ 4 ∷ []) (get_or e 0 0) ≡ true)
      × (within l.flags1 (get_or e 1 0) ≡ true)
      × (within l.flags2 (get_or e 2 0) ≡ true)
      × (within (bit_or l.flags3 l.speed) (get_or e 3 0) ≡ true)
      × (eqb l.speed 0 || not (eqb (bit_and (get_or e 3 0) l.speed) 0) ≡ true)
  in_formed =
      and_five (only (6 ∷ 5 ∷ 4 ∷ []) (get_or e 0 0)) (within l.flags1 (get_or e 1 0)) (within l.flags2 (get_or e 2 0))
      (within (bit_or l.flags3 l.speed) (get_or e 3 0))
      (eqb l.speed 0 || not (eqb (bit_and (get_or e 3 0) l.speed) 0))
      t

-- and a fan that may run is not stopped
module _ (l : Layout) (h : Sound l) (r : Settings) (e : List ℕ) (p : Placed l r) where
  abbrev after : Settings
  after = acted r (said l e)

  runs_on : eqb l.speed 0 || not (eqb (bit_and (get_or e 3 0) l.speed) 0) ≡ true
      → eqb l.speed 0 || not (eqb (bit_and (get_or (stored l after) 3 0) l.speed) 0) ≡ true
  runs_on t = go (eqb l.speed 0) t
    where
      speed : bit_and (get_or (stored l after) 3 0) l.speed ≡ speed_after r.speed (bit_and (get_or e 3 0) l.speed)
      speed = ap (λ (s : Settings). s.speed) (back l h after (acted_placed l r (said l e) p (placed l h e)))

      moves : not (eqb (bit_and (get_or e 3 0) l.speed) 0) ≡ true → not (eqb (bit_and (get_or (stored l after) 3 0) l.speed) 0) ≡ true
      moves m = rw (speed, speed_kept_lem r.speed (bit_and (get_or e 3 0) l.speed) (not-true _ m))

      go : (b : Bool) → b || not (eqb (bit_and (get_or e 3 0) l.speed) 0) ≡ true → b || not (eqb (bit_and (get_or (stored l after) 3 0) l.speed) 0) ≡ true
      go true m = refl
      go false m = moves m

  -- what a request makes of settings that a type may have are again such
  pub acted_formed : formed l e ≡ true → formed l (stored l after) ≡ true
  acted_formed t =
      and_both
      (and_both (and_both (and_both (first_clear_lem l h after) (second_clear l h after)) (third_clear l h after)) (fourth_clear l h after))
      (runs_on (in_formed l e t).4)
