-- Of the control elements that bring an element to a wish, none comes before the one that is sent. Assumes nothing.
use mathlib.Core.Path.{◌≡◌, refl, sym, ap, ◌∙◌}
use mathlib.Core.Bool.{Bool, true, false, not, ◌&&◌}
use mathlib.Core.List.{List}
use mathlib.Core.Logic.{inl, inr}
use Prim.Native.Nat.{ℕ, ◌≤◌}
use native.Mathlib.Omega.{arith}
use lib.Dec.{eqb}
use lib.ListN.{length, get_or}
use borrow.Author.Tests.{eqb-true, eqb-false, eq-eqb}
use Rattle.bits.specs.Choice.{pick}
use Rattle.bits.specs.Bits.{num}
use Rattle.bits.specs.Numbers.{Bytes}
use Rattle.bits.specs.Places.{four_at}
use Rattle.bits.proofs.Logic.{never, by_case, pick_yes, and_four}
use Rattle.bits.proofs.Each.{byte_small}
use Rattle.bits.proofs.Rows.{as_four}
use Rattle.build_order.specs.Order.{InOrder, NotAfter}
use Rattle.build_order.proofs.Dictionary.{by_number}
use Rattle.element.specs.declared.types.Kind.{Kind}
use Rattle.element.specs.declared.settings.Settings.{Settings}
use Rattle.element_control.specs.declared.Control.{Control}
use Rattle.element.specs.Layouts.{said}
use Rattle.element.specs.Types.{layout_of}
use Rattle.element.specs.Settings.{settings_of, settings_bytes, settings_formed}
use Rattle.element.specs.Requests.{speed_after, acted}
use Rattle.element_control.specs.Control.{selected, unselected, requesting, control_of, offending, chosen, settled}
use Rattle.element.proofs.SettingsBothWays.{four}
use Rattle.element.proofs.StoredSettings.{settings_back, settings_again, settings_storable, acted_storable}
use Rattle.element_control.proofs.Acting.{settled_length}
use Rattle.build_element.specs.Wishes.{silent, alike, request_bytes, request_for, clearing, turning, own, brings, one}
use Rattle.build_element.proofs.SoundLayout.{request_small, request_order, no_stop, request_storable}
use Rattle.build_element.proofs.Requests.{Reaches, request_again, request_reaches, request_is, reaches_it}
use Rattle.build_element.proofs.RequestSays.{request_selected, request_fine, request_length, request_control, silent_control, silent_fine}

-- four zeros come first
pub silent_small : Bytes silent
silent_small = (omega arith, (omega arith, (omega arith, (omega arith, tt))))

silent_first : (c : List ℕ) → length c ≡ 4 → Bytes c → InOrder silent c
silent_first c e h = by_number silent c (sym e) silent_small h (omega arith)

-- RST SWAP and the speed code are needed where they are sent
clearing_needed : (s w r : Bool) → s && not w ≡ true → s && not r ≡ w → r ≡ true
clearing_needed true true r p q = never (sym p)
clearing_needed true false true p q = refl
clearing_needed true false false p q = never q
clearing_needed false w r p q = never (sym p)

turning_needed : (s w r : ℕ) → speed_after r s ≡ w → turning s w ≤ r
turning_needed s w r h = by_case (eqb s w) (λ e. rw e (omega arith)) (λ e. rw e (needed e))
  where
    other : eqb r 0 ≡ false → speed_after r s ≡ r
    other t = rw t

    none : eqb r 0 ≡ true → speed_after r s ≡ s
    none t = rw t

    needed : eqb s w ≡ false → w ≤ r
    needed e =
        by_case (eqb r 0) (λ t. absurd (eqb-false s w e (sym (none t) ∙ h)))
        (λ t. let q : w ≡ r = sym h ∙ other t in omega arith)

-- a control element that a shelf takes
abbrev pub Row : Kind → List ℕ → Type 0
Row k c = (length c ≡ 4) × Bytes c × (offending k c ≡ 4)

cleared : (a b : Bool) → (b ≡ true → a ≡ true) → a && not (a && not b) ≡ b
cleared true true h = refl
cleared true false h = refl
cleared false true h = h refl
cleared false false h = refl

turned : (s w : ℕ) → (w ≡ 0 → s ≡ 0) → speed_after (turning s w) s ≡ w
turned s w h = by_case (eqb s w) (λ e. rw e (eqb-true s w e)) (λ e. rw e (by_case (eqb w 0) (λ t. absurd (stops e t)) (λ t. rw t)))
  where
    stops : eqb s w ≡ false → eqb w 0 ≡ true → ⊥
    stops e t = let z = eqb-true w 0 t in eqb-false s w e (h z ∙ sym z)

-- four bytes that are alike are the same
alike_four : (a b : List ℕ) → alike a b ≡ true → four_at a 0 ≡ four_at b 0
unfolding alike
alike_four a b t =
    let h = and_four (eqb (get_or a 0 0) (get_or b 0 0)) (eqb (get_or a 1 0) (get_or b 1 0)) (eqb (get_or a 2 0) (get_or b 2 0)) (eqb (get_or a 3 0) (get_or b 3 0)) t in
    four (eqb-true _ _ h.0) (eqb-true _ _ h.1) (eqb-true _ _ h.2) (eqb-true _ _ h.3)

pub alike_same : (a b : List ℕ) → length a ≡ 4 → length b ≡ 4 → alike a b ≡ true → a ≡ b
alike_same a b m n t = as_four a m ∙ alike_four a b t ∙ sym (as_four b n)

-- and say the same settings
pub alike_says : (k : Kind) (a b : List ℕ) → alike a b ≡ true → settings_of k a ≡ settings_of k b
unfolding settings_of
alike_says k a b t = ap (said (layout_of k)) (alike_four a b t)

alike_self : (w a : List ℕ) → a ≡ w → alike a w ≡ true
unfolding alike
alike_self w a e = rw (at 0, at 1, at 2, at 3)
  where
    at : (i : ℕ) → eqb (get_or a i 0) (get_or w i 0) ≡ true
    at i = eq-eqb _ _ (ap (λ (l : List ℕ). get_or l i 0) e)

silent_not : (k : Kind) → selected silent ≡ false
silent_not k = refl

-- a selected one asks for what it says
pub row_request : (k : Kind) (c : List ℕ) → Row k c → selected c ≡ true → request_bytes k (settings_of k c) ≡ c
row_request k c q t =
    let b = byte_small c q.1 in
    let v = as_four c q.0 in
    ap (λ (y : List ℕ). request_bytes k (settings_of k y)) v
    ∙ request_again k (get_or c 0 0) (get_or c 1 0) (get_or c 2 0) (get_or c 3 0) (b 0) (b 3) (ap selected (sym v) ∙ t) (ap (offending k) (sym v) ∙ q.2)
    ∙ sym v

module _ (k : Kind) (e w : List ℕ) where
  abbrev s : Settings
  s = settings_of k e

  abbrev x : Settings
  x = settings_of k w

  -- what a selected element says that brings e to the settings of w
  pub selected_acts : (c : List ℕ) → selected c ≡ true → settings_of k (settled k (control_of k c) e) ≡ x → acted (settings_of k c) s ≡ x
  unfolding settled control_of
  selected_acts c t h =
      let r = settings_of k c in
      let g : settled k (control_of k c) e ≡ settings_bytes k (acted r s) = ap (λ (b : Bool). settled k (pick b (requesting r) unselected) e) t in
      sym (settings_back k (acted r s) (acted_storable k r s (settings_storable k c) (settings_storable k e))) ∙ ap (settings_of k) (sym g) ∙ h

  own_first : (c : List ℕ) → Row k c → selected c ≡ true → settled k (control_of k c) e ≡ w → InOrder (own k e w) c
  unfolding own
  own_first c q t h =
      let r = settings_of k c in
      let f = selected_acts c t (ap (settings_of k) h) in
      let z = reaches_it s x r f in
      let l = request_order k x (clearing s x) r.swap (turning s.speed x.speed) r.speed
      (λ g. clearing_needed s.swap x.swap r.swap g z.0)
      (turning_needed s.speed x.speed r.speed z.1)
      (request_storable k s x (settings_storable k w)).3
      (settings_storable k c).3 in
      let u = row_request k c q t in
      rw (← u) (rw (← (request_is s x r f)) at l)

  own_selected : selected (own k e w) ≡ true
  unfolding own
  own_selected = request_selected k (request_for x (clearing s x) (turning s.speed x.speed))

  own_row : Row k (own k e w)
  unfolding own
  own_row = let r = request_for x (clearing s x) (turning s.speed x.speed) in (request_length k r, request_small k r, request_fine k r)

  -- settings that a type may have, which a SWAP does not keep from e
  abbrev pub Can : Type 0
  Can = (length w ≡ 4) × Bytes w × (settings_formed k w ≡ true) × (x.swap ≡ true → s.swap ≡ true)

  module _ (g : Can) where
    stored_is : settings_bytes k x ≡ w
    stored_is =
        let v = as_four w g.0 in
        let b = byte_small w g.1 in
        ap (λ (y : List ℕ). settings_bytes k (settings_of k y)) v
        ∙ settings_again k (get_or w 0 0) (get_or w 1 0) (get_or w 2 0) (get_or w 3 0) (b 0) (b 1) (b 2) (b 3) (ap (settings_formed k) (sym v) ∙ g.2)
        ∙ sym v

    own_request : Reaches s x (clearing s x) (turning s.speed x.speed)
    own_request = (cleared s.swap x.swap g.3, turned s.speed x.speed (no_stop k e w g.2))

    own_reaches : settled k (control_of k (own k e w)) e ≡ w
    unfolding own settled
    own_reaches =
        let r = request_for x (clearing s x) (turning s.speed x.speed) in
        ap (λ (c : Control). pick c.select (settings_bytes k (acted c.request s)) e) (request_control k r (request_storable k s x (settings_storable k w)))
        ∙ ap (settings_bytes k) (request_reaches s x (clearing s x) (turning s.speed x.speed) own_request)
        ∙ stored_is

  -- of those that bring e to w under an overall element that asks for c, none comes before the one that is sent
  module _ (c : Control) where
    -- what that and an individual element make of e
    abbrev effect : List ℕ → List ℕ
    effect d = settled k (chosen c (control_of k d)) e

    effect_off : (d : List ℕ) → selected d ≡ false → effect d ≡ settled k c e
    unfolding chosen control_of
    effect_off d t = rw t

    effect_on : (d : List ℕ) → selected d ≡ true → effect d ≡ settled k (control_of k d) e
    unfolding chosen control_of
    effect_on d t = rw t

    pub one_first : (d : List ℕ) → Row k d → effect d ≡ w → NotAfter (num (selected (one k c e w))) (one k c e w) (num (selected d)) d
    unfolding one
    one_first d q h =
        by_case (brings k c e w) (λ t. rw t (there (selected d) refl))
        (λ t. rw t (by_case (selected d) (λ u. alone u) (λ u. absurd (not_alike t (sym (effect_off d u) ∙ h)))))
      where
        there : (b : Bool) → selected d ≡ b → NotAfter 0 silent (num (selected d)) d
        there true u = inl (rw u (omega arith))
        there false u = inr (rw u, silent_first d q.0 q.1)

        alone : selected d ≡ true → NotAfter (num (selected (own k e w))) (own k e w) (num (selected d)) d
        alone u = inr (rw (u, own_selected), own_first d q u (sym (effect_on d u) ∙ h))

        not_alike : brings k c e w ≡ false → settled k c e ≡ w → ⊥
        not_alike t f = unfold brings in never (sym (alike_self w (settled k c e) f) ∙ t)

    pub one_reaches : Can → length e ≡ 4 → effect (one k c e w) ≡ w
    unfolding one
    one_reaches g n =
        by_case (brings k c e w) (λ t. rw t (effect_off silent (silent_not k) ∙ brought t))
        (λ t. rw t (effect_on (own k e w) own_selected ∙ own_reaches g))
      where
        brought : brings k c e w ≡ true → settled k c e ≡ w
        brought t = unfold brings in alike_same (settled k c e) w (settled_length k c e n) g.0 t

    pub one_row : Row k (one k c e w)
    unfolding one
    one_row = by_case (brings k c e w) (λ t. rw t (refl, silent_small, silent_fine k)) (λ t. rw t own_row)

    -- its SELECT: where the overall element does not do it
    pub one_selects : num (selected (one k c e w)) ≡ num (not (brings k c e w))
    unfolding one
    one_selects = by_case (brings k c e w) (λ t. rw t) (λ t. rw (t, own_selected))

-- an element that is wanted as it is stored is left alone where no overall element asks for anything
module _ (k : Kind) (e w : List ℕ) (q : e ≡ w) where
  pub brings_same : brings k (control_of k silent) e w ≡ true
  unfolding brings settled
  brings_same = rw (silent_control k) (alike_self w e q)

  pub one_same : one k (control_of k silent) e w ≡ silent
  unfolding one
  one_same = pick_yes (brings k (control_of k silent) e w) silent (own k e w) brings_same
