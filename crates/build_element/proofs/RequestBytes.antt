-- The element that asks for given settings: its bytes, and what they say. Assumes nothing.
use mathlib.Core.Path.{◌≡◌, refl, sym, ap, ◌∙◌}
use mathlib.Core.Bool.{Bool, true, false, not, ◌||◌}
use mathlib.Core.List.{List, [], ◌∷◌}
use Prim.Native.Nat.{ℕ, ◌+◌, ◌/◌, ◌%◌, ◌<◌, ◌≤◌}
use native.Mathlib.Omega.{arith}
use lib.Bits.{bit_or}
use lib.Dec.{eqb, leb, ltb}
use lib.ListN.{get_or}
use borrow.Author.Tests.{eqb-true, eq-eqb, ne_eqb, lt-ltb, le-leb, lt-leb}
use Rattle.bits.specs.Bits.{num, bit}
use Rattle.bits.proofs.Logic.{by_byte_if}
use Rattle.element.specs.declared.types.Kind.{Kind}
use Rattle.element.specs.declared.settings.Settings.{Settings}
use Rattle.element_control.specs.declared.Control.{Control}
use Rattle.element.specs.Settings.{settings_of, settings_bytes}
use Rattle.element.specs.Requests.{acted}
use Rattle.element_control.specs.Control.{selected, control_of}
use Rattle.element_control.proofs.Acting.{settled_by, settled_alone}
use Rattle.build_element.specs.Wishes.{in_reach, alike, silent, with_select, request_bytes, request_for, clearing, turning, own, brings, one}
use Rattle.build_element.proofs.SoundLayout.{first_small}
use Rattle.build_element.specs.Parts.{selects, tried, tries}

or_select : (x : ℕ) → x < 128 → bit_or x 128 ≡ 128 + x
or_select x h =
    eqb-true (bit_or x 128) (128 + x) (by_byte_if (λ b. ltb b 128) (λ b. eqb (bit_or b 128) (128 + b)) refl x (omega arith) (lt-ltb x 128 h))

pub request_bytes_is : (k : Kind) (r : Settings) {e : List ℕ} → e ≡ settings_bytes k r → bit_or (get_or e 0 0) 128 ∷ get_or e 1 0 ∷ get_or e 2 0 ∷ get_or e 3 0 ∷ [] ≡ request_bytes k r
unfolding request_bytes
request_bytes_is k r {e} p =
    let h : get_or e 0 0 < 128 = rw p (first_small k r) in
    ap (λ (x : ℕ). x ∷ get_or e 1 0 ∷ get_or e 2 0 ∷ get_or e 3 0 ∷ []) (or_select (get_or e 0 0) h) ∙ ap with_select p

-- SELECT is the top bit of byte 0: the number above the other seven
pub select_counts : (o : List ℕ) → get_or o 0 0 < 256 → get_or o 0 0 / 128 ≡ selects o
select_counts o h =
    eqb-true (get_or o 0 0 / 128) (selects o) (by_byte_if (λ b. true) (λ b. eqb (b / 128) (num (bit 7 b))) refl (get_or o 0 0) h refl)

-- what the calls say
pub reach_is : (k : Kind) (e w : List ℕ) {s x : Settings} → s ≡ settings_of k e → x ≡ settings_of k w → s.swap || not x.swap ≡ in_reach k e w
unfolding in_reach
reach_is k e w p q = rw (p, q)

pub own_is : (k : Kind) (e w : List ℕ) {s x r : Settings} {n : ℕ} {c : List ℕ} → s ≡ settings_of k e → x ≡ settings_of k w → n ≡ turning s.speed x.speed
    → r ≡ request_for x (clearing s x) n → c ≡ request_bytes k r → c ≡ own k e w
unfolding own
own_is k e w p q u g h = h ∙ rw (g, u, p, q)

-- under a control element of the bytes o, which are decoded only where they are selected
module _ (k : Kind) (o e w : List ℕ) where
  module _ {d b : Bool} (g : d ≡ selected o) where
    pub acts_is : {c : Control} {s x : Settings} {y : List ℕ} → d ≡ true → c ≡ control_of k o → s ≡ settings_of k e → x ≡ acted c.request s → y ≡ settings_bytes k x → b ≡ alike y w
        → b ≡ brings k (control_of k o) e w
    unfolding brings
    acts_is t hc hs hx hy h = h ∙ rw (hy, hx, hs, hc) (ap (λ (z : List ℕ). alike z w) (sym (settled_by k o e (sym g ∙ t))))

    pub leaves_is : d ≡ false → b ≡ alike e w → b ≡ brings k (control_of k o) e w
    unfolding brings
    leaves_is t h = h ∙ ap (λ (z : List ℕ). alike z w) (sym (settled_alone k o e (sym g ∙ t)))

  module _ {b : Bool} (q : b ≡ brings k (control_of k o) e w) where
    pub one_silent : b ≡ true → silent ≡ one k (control_of k o) e w
    unfolding one
    one_silent t = rw (← q, t)

    pub one_own : {x : List ℕ} → b ≡ false → x ≡ own k e w → x ≡ one k (control_of k o) e w
    unfolding one
    one_own t h = h ∙ rw (← q, t)

-- what is tried for x, without a speed code and with one
module _ (k : Kind) (x : List ℕ) (v : ℕ) {s r : Settings} {c : List ℕ} (p : s ≡ settings_of k x) where
  pub coded_is : 2 ≤ v → r ≡ request_for s (eqb (v % 2) 1) s.speed → c ≡ request_bytes k r → c ≡ tried k x v
  unfolding tried
  coded_is l q h = let t : leb 2 v ≡ true = le-leb 2 v l in h ∙ rw (q, p, t)

  pub uncoded_is : v < 2 → r ≡ request_for s (eqb (v % 2) 1) 0 → c ≡ request_bytes k r → c ≡ tried k x v
  unfolding tried
  uncoded_is l q h = let t : leb 2 v ≡ false = lt-leb 2 v l in h ∙ rw (q, p, t)

module _ (k : Kind) (x : List ℕ) {s : Settings} (p : s ≡ settings_of k x) where
  pub two_tries : s.speed ≡ 0 → 2 ≡ tries k x
  unfolding tries
  two_tries h = let t : eqb s.speed 0 ≡ true = eq-eqb _ _ h in rw (← p, t)

  pub four_tries : (s.speed ≡ 0 → ⊥) → 4 ≡ tries k x
  unfolding tries
  four_tries h = let t : eqb s.speed 0 ≡ false = ne_eqb _ _ h in rw (← p, t)
