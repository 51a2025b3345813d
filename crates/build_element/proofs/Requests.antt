-- Selected control elements: each is told by what it asks for, and what it asks for by what it reaches. Assumes nothing.
use mathlib.Core.Path.{◌≡◌, refl, sym, ap, ◌∙◌}
use mathlib.Core.Bool.{Bool, true, false, not, ◌&&◌}
use mathlib.Core.List.{[], ◌∷◌}
use mathlib.Core.Logic.{◌⊎◌, inl, inr}
use Prim.Native.Nat.{ℕ, ◌+◌, ◌-◌, ◌<◌}
use native.Mathlib.Omega.{arith}
use lib.Bits.{bit_or}
use lib.Dec.{eqb}
use borrow.Author.Tests.{eqb-true}
use Rattle.bits.specs.Bits.{within, only}
use Rattle.bits.proofs.Logic.{by_case, pick_yes, all_four, by_byte_if}
use Rattle.element.specs.declared.types.Kind.{Kind}
use Rattle.element.specs.declared.settings.Settings.{Settings}
use Rattle.element.specs.Types.{layout_of}
use Rattle.element.specs.Settings.{settings_of, settings_bytes}
use Rattle.element.specs.Requests.{speed_after, acted}
use Rattle.element_control.specs.Control.{selected, offending}
use Rattle.build_element.specs.Wishes.{with_select, request_bytes, request_for}
use Rattle.element.proofs.SettingsBothWays.{again}
use Rattle.element.proofs.StoredSettings.{sound, reserved_named}
use Rattle.element_control.proofs.FirstRefused.{offends_reserved}
use Rattle.build_element.proofs.SoundLayout.{heading, rest_same}

head_rest : (a : ℕ) → a < 256 → heading a ≡ true → only (6 ∷ 5 ∷ 4 ∷ []) (a - 128) ≡ true
head_rest = by_byte_if heading (λ a. only (6 ∷ 5 ∷ 4 ∷ []) (a - 128)) refl

head_high : (a : ℕ) → a < 256 → heading a ≡ true → 128 + (a - 128) ≡ a
head_high a h e = eqb-true (128 + (a - 128)) a (by_byte_if heading (λ a. eqb (128 + (a - 128)) a) refl a h e)

-- a selected element without a reserved bit is the one that asks for what it says
pub request_again : (k : Kind) (a b c d : ℕ) → a < 256 → d < 256 → selected (a ∷ b ∷ c ∷ d ∷ []) ≡ true → offending k (a ∷ b ∷ c ∷ d ∷ []) ≡ 4
    → request_bytes k (settings_of k (a ∷ b ∷ c ∷ d ∷ [])) ≡ a ∷ b ∷ c ∷ d ∷ []
unfolding request_bytes settings_bytes settings_of
request_again k a b c d ha hd t e =
    let l = layout_of k in
    let u = reserved_named k (a ∷ b ∷ c ∷ d ∷ []) ∙ sym (offends_reserved k (a ∷ b ∷ c ∷ d ∷ []) ∙ pick_yes _ _ _ t) ∙ e in
    let h = all_four (only (7 ∷ 6 ∷ 5 ∷ 4 ∷ []) a) (within l.flags1 b) (within l.flags2 c) (within (bit_or l.flags3 l.speed) d) u in
    let g : heading a ≡ true = rw (t, h.0) in
    let r = again l (sound k) (a - 128) b c d (omega arith) hd (head_rest a ha g) h.1 h.2 h.3 in
    ap (λ (s : Settings). with_select (settings_bytes k s)) (rest_same k a b c d ha g)
    ∙ ap with_select r
    ∙ ap (λ (x : ℕ). x ∷ b ∷ c ∷ d ∷ []) (head_high a ha g)

-- what reaches w from s
abbrev pub Reaches : Settings → Settings → Bool → ℕ → Type 0
Reaches s w reset code = (s.swap && not reset ≡ w.swap) × (speed_after code s.speed ≡ w.speed)

pub request_reaches : (s w : Settings) (reset : Bool) (code : ℕ) → Reaches s w reset code → acted (request_for w reset code) s ≡ w
request_reaches s w reset code h =
    let x = h.0 in
    let y = h.1 in
    λ i. record { prdfail = w.prdfail; disabled = w.disabled; swap = x i; flags1 = w.flags1; flags2 = w.flags2; flags3 = w.flags3; speed = y i }

module _ (s w r : Settings) (e : acted r s ≡ w) where
  pub request_is : r ≡ request_for w r.swap r.speed
  request_is =
      let p = ap (λ (x : Settings). x.prdfail) e in
      let d = ap (λ (x : Settings). x.disabled) e in
      let x = ap (λ (x : Settings). x.flags1) e in
      let y = ap (λ (x : Settings). x.flags2) e in
      let z = ap (λ (x : Settings). x.flags3) e in
      λ i. record { prdfail = p i; disabled = d i; swap = r.swap; flags1 = x i; flags2 = y i; flags3 = z i; speed = r.speed }

  pub reaches_it : Reaches s w r.swap r.speed
  reaches_it = (ap (λ (x : Settings). x.swap) e, ap (λ (x : Settings). x.speed) e)

-- so the code is 0 or the speed that is reached
pub code_is : (s w : Settings) (reset : Bool) (code : ℕ) → Reaches s w reset code → (code ≡ 0) ⊎ (code ≡ w.speed)
code_is s w reset code h =
    by_case (eqb code 0) (λ e. inl (eqb-true code 0 e)) (λ e. inr (sym (other e) ∙ h.1))
  where
    other : eqb code 0 ≡ false → speed_after code s.speed ≡ code
    other e = rw e
