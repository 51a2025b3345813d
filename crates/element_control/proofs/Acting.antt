-- What the control element that acts on an element makes of its stored settings. Assumes nothing.
use mathlib.Core.Path.{◌≡◌, refl, sym, ap, ◌∙◌}
use mathlib.Core.Bool.{Bool, true, false, not, ◌&&◌}
use mathlib.Core.List.{List}
use Prim.Native.Nat.{ℕ}
use lib.Dec.{eqb}
use lib.ListN.{length}
use Rattle.bits.specs.Choice.{pick}
use Rattle.bits.proofs.Logic.{never, and_left, pick_yes, pick_no}
use Rattle.element.specs.declared.types.Kind.{Kind}
use Rattle.element.specs.declared.settings.Settings.{Settings}
use Rattle.element_control.specs.declared.Control.{Control}
use Rattle.element.specs.Settings.{settings_of, settings_bytes, settings_formed}
use Rattle.element.specs.Requests.{speed_after, acted}
use Rattle.element_control.specs.Control.{selected, unselected, requesting, control_of, chosen, settled}
use Rattle.element.proofs.StoredSettings.{Storable, length-bytes, settings_back, settings_storable, acted_storable, acted_formed}

swap_twice : (s r : Bool) → (s && not r) && not r ≡ s && not r
swap_twice true true = refl
swap_twice true false = refl
swap_twice false r = refl

speed_twice : (code stored : ℕ) → speed_after code (speed_after code stored) ≡ speed_after code stored
speed_twice code stored = go (eqb code 0)
  where
    go : (t : Bool) → pick t (pick t stored code) code ≡ pick t stored code
    go true = refl
    go false = refl

acted_twice : (r s : Settings) → acted r (acted r s) ≡ acted r s
acted_twice r s =
    let w = swap_twice s.swap r.swap in
    let v = speed_twice r.speed s.speed in
    λ i. record {
      prdfail = r.prdfail;
      disabled = r.disabled;
      swap = w i;
      flags1 = r.flags1;
      flags2 = r.flags2;
      flags3 = r.flags3;
      speed = v i;
    }

pub settled_length : (k : Kind) (c : Control) (e : List ℕ) → length e ≡ 4 → length (settled k c e) ≡ 4
unfolding settled
settled_length k c e h = go c.select
  where
    go : (t : Bool) → length (pick t (settings_bytes k (acted c.request (settings_of k e))) e) ≡ 4
    go true = length-bytes k (acted c.request (settings_of k e))
    go false = h

-- which of two acts
module _ (k : Kind) where
  select_of : (e : List ℕ) → (control_of k e).select ≡ selected e
  unfolding control_of
  select_of e = go (selected e)
    where
      go : (t : Bool) → (pick t (requesting (settings_of k e)) unselected).select ≡ t
      go true = refl
      go false = refl

  module _ (overall own : List ℕ) where
    pub own_acts : selected own ≡ true → chosen (control_of k overall) (control_of k own) ≡ control_of k own
    unfolding chosen
    own_acts h = pick_yes _ _ _ (select_of own ∙ h)

    pub overall_acts : selected own ≡ false → chosen (control_of k overall) (control_of k own) ≡ control_of k overall
    unfolding chosen
    overall_acts h = pick_no _ _ _ (select_of own ∙ h)

  -- what it makes of the stored settings
  pub settled_by : (e x : List ℕ) → selected e ≡ true → settled k (control_of k e) x ≡ settings_bytes k (acted (control_of k e).request (settings_of k x))
  unfolding settled
  settled_by e x h = pick_yes _ _ _ (select_of e ∙ h)

  pub settled_alone : (e x : List ℕ) → selected e ≡ false → settled k (control_of k e) x ≡ x
  unfolding settled
  settled_alone e x h = pick_no _ _ _ (select_of e ∙ h)

module _ (k : Kind) where
  -- what acts is the unselected element or one that asks for settings of the type
  by_chosen : (P : Control → Type 0) → P unselected → ((r : Settings) → Storable k r → P (requesting r)) → (overall own : List ℕ)
      → P (chosen (control_of k overall) (control_of k own))
  unfolding chosen control_of
  by_chosen P u h overall own = go (selected own) (selected overall)
    where
      go : (x y : Bool)
          → P (pick (pick x (requesting (settings_of k own)) unselected).select (pick x (requesting (settings_of k own)) unselected) (pick y (requesting (settings_of k overall)) unselected))
      go true y = h (settings_of k own) (settings_storable k own)
      go false true = h (settings_of k overall) (settings_storable k overall)
      go false false = u

  -- what a request makes of settings is read back
  acted_back : (e : List ℕ) (r : Settings) → Storable k r → settings_of k (settings_bytes k (acted r (settings_of k e))) ≡ acted r (settings_of k e)
  acted_back e r l = settings_back k (acted r (settings_of k e)) (acted_storable k r (settings_of k e) l (settings_storable k e))

  twice : (e : List ℕ) (r : Settings) → Storable k r
      → settings_bytes k (acted r (settings_of k (settings_bytes k (acted r (settings_of k e)))))
      ≡ settings_bytes k (acted r (settings_of k e))
  twice e r l = ap (λ (x : Settings). settings_bytes k (acted r x)) (acted_back e r l) ∙ ap (settings_bytes k) (acted_twice r (settings_of k e))

  module _ (overall own e : List ℕ) where
    -- settings that the type may have stay such
    pub settled_formed : settings_formed k e ≡ true → settings_formed k (settled k (chosen (control_of k overall) (control_of k own)) e) ≡ true
    unfolding settled
    settled_formed h =
        by_chosen (λ (c : Control). settings_formed k (settled k c e) ≡ true) h (λ r l. acted_formed k r e l h) overall own

    -- acting twice is acting once
    pub settled_twice : let c : Control = chosen (control_of k overall) (control_of k own) in settled k c (settled k c e) ≡ settled k c e
    unfolding settled
    settled_twice =
        by_chosen (λ (c : Control). settled k c (settled k c e) ≡ settled k c e) refl (twice e) overall own

    -- without SELECT nothing acts
    pub settled_none : selected overall ≡ false → selected own ≡ false → settled k (chosen (control_of k overall) (control_of k own)) e ≡ e
    unfolding settled chosen control_of
    settled_none p q = rw (p, q)

    -- the settings that are stored then are those that the request makes
    pub settled_said : let c : Control = chosen (control_of k overall) (control_of k own) in c.select ≡ true
        → settings_of k (settled k c e) ≡ acted c.request (settings_of k e)
    unfolding settled
    settled_said =
        by_chosen (λ (c : Control). c.select ≡ true → settings_of k (settled k c e) ≡ acted c.request (settings_of k e)) (λ h. never (sym h))
        (λ r l h. acted_back e r l)
        overall
        own

    -- no control element sets a SWAP
    pub swap_kept_lem : (settings_of k (settled k (chosen (control_of k overall) (control_of k own)) e)).swap ≡ true → (settings_of k e).swap ≡ true
    unfolding settled
    swap_kept_lem =
        by_chosen (λ (c : Control). (settings_of k (settled k c e)).swap ≡ true → (settings_of k e).swap ≡ true) (λ h. h)
        (λ r l h. and_left (settings_of k e).swap (not r.swap) (sym (ap (λ (x : Settings). x.swap) (acted_back e r l)) ∙ h))
        overall
        own
