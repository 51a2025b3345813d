-- Requests under any layout whose masks are sound: their bytes, the order of those for the same flags, and what an element is sent.
-- Assumes nothing.
use mathlib.Core.Path.{◌≡◌, refl, ap, ◌∙◌}
use mathlib.Core.Bool.{Bool, true, false, not, ◌&&◌, ◌||◌}
use mathlib.Core.List.{List, [], ◌∷◌}
use Prim.Native.Nat.{ℕ, ◌+◌, ◌-◌, ◌<◌, ◌≤◌}
use native.Mathlib.Omega.{arith}
use lib.Bits.{bit_and, bit_or, and_zero_l, and_zero_r, or_lt}
use lib.Dec.{eqb}
use lib.ListN.{get_or}
use borrow.Author.Tests.{eqb-true, eqb-false, not-true}
use Rattle.bits.specs.Choice.{pick, all_below}
use Rattle.bits.specs.Bits.{bit, only, nibble, join}
use Rattle.bits.specs.Numbers.{big, Bytes}
use Rattle.bits.proofs.Logic.{by_case, same, same_eq, implies, by_byte_if}
use Rattle.bits.proofs.Halves.{num_small, num_up}
use Rattle.build_order.specs.Order.{InOrder}
use Rattle.build_order.proofs.Dictionary.{by_number}
use Rattle.element.specs.declared.types.Kind.{Kind}
use Rattle.element.specs.declared.layout.Layout.{Layout}
use Rattle.element.specs.declared.settings.Settings.{Settings}
use Rattle.element.specs.Layouts.{said, stored}
use Rattle.element.specs.Types.{layout_of}
use Rattle.element.specs.Settings.{settings_of, settings_bytes, settings_formed}
use Rattle.element.proofs.Flags.{kept_small, kept_twice, mix_sum}
use Rattle.element.proofs.SettingsBothWays.{Sound, in_formed}
use Rattle.element.proofs.StoredSettings.{sound, Storable}
use Rattle.build_element.specs.Wishes.{with_select, request_bytes, request_for, clearing, turning}

-- byte 0 of stored settings has bit 7 clear
first_low : (a b c : Bool) → join (nibble false a b c) 0 < 128
first_low a b c = omega (arith, num_small a, num_small b, num_small c)

-- a byte with bit 7 set and none of the low four
abbrev pub heading : ℕ → Bool
heading a = bit 7 a && only (7 ∷ 6 ∷ 5 ∷ 4 ∷ []) a

head_bit : (i : ℕ) → all_below (λ a. implies (heading a) (same (bit i a) (bit i (a - 128)))) 256 ≡ true
    → (a : ℕ) → a < 256 → heading a ≡ true → bit i a ≡ bit i (a - 128)
head_bit i t a h e = same_eq (bit i a) (bit i (a - 128)) (by_byte_if heading (λ a. same (bit i a) (bit i (a - 128))) t a h e)

-- the numbers that two requests for the same flags say, the first and the last of their bytes in order
head_order : (p d a b : Bool) → (a ≡ true → b ≡ true) → 128 + join (nibble false p d a) 0 ≤ 128 + join (nibble false p d b) 0
head_order p d a b h = omega (arith, num_small p, num_small d, num_small b, num_up a b h)

four_order : (a b c d x y : ℕ) → a ≤ b → x ≤ y → big (a ∷ c ∷ d ∷ x ∷ []) ≤ big (b ∷ c ∷ d ∷ y ∷ [])
four_order a b c d x y h k = omega arith

-- a speed code that is needed has a place where the wanted speed has one
turning_placed : (s w m : ℕ) → bit_and w m ≡ w → bit_and (turning s w) m ≡ turning s w
turning_placed s w m h = go (eqb s w)
  where
    go : (t : Bool) → bit_and (pick t 0 w) m ≡ pick t 0 w
    go true = and_zero_l m
    go false = h

module _ (l : Layout) (h : Sound l) where
  -- stored bytes are bytes, with bit 7 of the first free for SELECT
  small : (s : Settings) → Bytes (stored l s)
  small s = (
    omega (arith, first_low s.prdfail s.disabled s.swap),
    (kept_small l.flags1 h.keeps1 s.flags1, (kept_small l.flags2 h.keeps2 s.flags2, (last, tt))),
  )
    where
      last : bit_or (bit_and s.flags3 l.flags3) (bit_and s.speed l.speed) < 256
      last = or_lt 8 (bit_and s.flags3 l.flags3) (bit_and s.speed l.speed) (kept_small l.flags3 h.keeps3 s.flags3) (kept_small l.speed h.speeds s.speed)

  select_small : (s : Settings) → Bytes (with_select (stored l s))
  select_small s = (omega (arith, first_low s.prdfail s.disabled s.swap), (small s).1)

  -- which does not change what the other bits say
  select_same : (a b c d : ℕ) → a < 256 → heading a ≡ true → said l (a ∷ b ∷ c ∷ d ∷ []) ≡ said l ((a - 128) ∷ b ∷ c ∷ d ∷ [])
  select_same a b c d lt e =
      let x = head_bit 6 refl a lt e in
      let y = head_bit 5 refl a lt e in
      let z = head_bit 4 refl a lt e in
      λ i. record {
        prdfail = x i;
        disabled = y i;
        swap = z i;
        flags1 = bit_and b l.flags1;
        flags2 = bit_and c l.flags2;
        flags3 = bit_and d l.flags3;
        speed = bit_and d l.speed;
      }

  -- flags and a speed code with a place stand in byte 3 as their sum
  coded : (f n : ℕ) → bit_and n l.speed ≡ n → bit_or (bit_and f l.flags3) (bit_and n l.speed) ≡ bit_and f l.flags3 + n
  coded f n p =
      ap (bit_or (bit_and f l.flags3)) p
      ∙ mix_sum l.flags3 l.speed h.keeps3 h.speeds h.three h.apart (bit_and f l.flags3) n (kept_twice l.flags3 h.keeps3 f) p

  last_order : (f m n : ℕ) → m ≤ n → bit_and m l.speed ≡ m → bit_and n l.speed ≡ n
      → bit_or (bit_and f l.flags3) (bit_and m l.speed) ≤ bit_or (bit_and f l.flags3) (bit_and n l.speed)
  last_order f m n le p q = rw (coded f m p, coded f n q) (omega arith)

  -- requests for the same flags stand in the dictionary as RST SWAP and then the speed code
  layout_order : (w : Settings) (a b : Bool) (m n : ℕ) → (a ≡ true → b ≡ true) → m ≤ n → bit_and m l.speed ≡ m → bit_and n l.speed ≡ n
      → InOrder (with_select (stored l (request_for w a m))) (with_select (stored l (request_for w b n)))
  layout_order w a b m n i le p q =
      by_number (with_select (stored l (request_for w a m))) (with_select (stored l (request_for w b n))) refl (select_small (request_for w a m)) (select_small (request_for w b n))
      (four_order _ _ _ _ _ _ (head_order w.prdfail w.disabled a b i) (last_order w.flags3 m n le p q))

  -- no speed that may be is 0 where another is not
  runs : (e w : List ℕ) → eqb l.speed 0 || not (eqb (bit_and (get_or w 3 0) l.speed) 0) ≡ true → (said l w).speed ≡ 0 → (said l e).speed ≡ 0
  runs e w t z = by_case (eqb l.speed 0) (λ q. ap (bit_and (get_or e 3 0)) (eqb-true _ 0 q) ∙ and_zero_r (get_or e 3 0)) (λ q. absurd (stands q))
    where
      stands : eqb l.speed 0 ≡ false → ⊥
      stands q = let u : not (eqb (bit_and (get_or w 3 0) l.speed) 0) ≡ true = rw q at t in eqb-false _ 0 (not-true _ u) z

-- the same of a type
module _ (k : Kind) where
  pub first_small : (s : Settings) → get_or (settings_bytes k s) 0 0 < 128
  unfolding settings_bytes
  first_small s = first_low s.prdfail s.disabled s.swap

  pub request_small : (s : Settings) → Bytes (request_bytes k s)
  unfolding request_bytes settings_bytes
  request_small = select_small (layout_of k) (sound k)

  pub rest_same : (a b c d : ℕ) → a < 256 → heading a ≡ true → settings_of k (a ∷ b ∷ c ∷ d ∷ []) ≡ settings_of k ((a - 128) ∷ b ∷ c ∷ d ∷ [])
  unfolding settings_of
  rest_same = select_same (layout_of k) (sound k)

  pub request_order : (w : Settings) (a b : Bool) (m n : ℕ) → (a ≡ true → b ≡ true) → m ≤ n → bit_and m (layout_of k).speed ≡ m → bit_and n (layout_of k).speed ≡ n
      → InOrder (request_bytes k (request_for w a m)) (request_bytes k (request_for w b n))
  unfolding request_bytes settings_bytes
  request_order = layout_order (layout_of k) (sound k)

  pub no_stop : (e w : List ℕ) → settings_formed k w ≡ true → (settings_of k w).speed ≡ 0 → (settings_of k e).speed ≡ 0
  unfolding settings_formed settings_of
  no_stop e w t = runs (layout_of k) (sound k) e w (in_formed (layout_of k) w t).4

  -- what an element is sent has a place
  pub request_storable : (s x : Settings) → Storable k x → Storable k (request_for x (clearing s x) (turning s.speed x.speed))
  request_storable s x p = (p.0, p.1, p.2, turning_placed s.speed x.speed (layout_of k).speed p.3)
