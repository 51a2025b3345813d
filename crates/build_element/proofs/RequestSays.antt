-- What the element that asks for given settings says: it is selected, has no reserved bit, and asks for them. Assumes nothing.
use mathlib.Core.Path.{◌≡◌, refl, sym, ap, ◌∙◌}
use mathlib.Core.Bool.{true}
use mathlib.Core.List.{[], ◌∷◌}
use Prim.Native.Nat.{ℕ, ◌+◌, ◌-◌, ◌<◌}
use native.Mathlib.Omega.{arith}
use lib.Dec.{ltb}
use lib.ListN.{length, get_or}
use borrow.Author.Tests.{lt-ltb}
use Rattle.bits.specs.Bits.{bit, only}
use Rattle.bits.proofs.Logic.{pick_yes, and_both, four_pass, by_byte_if}
use Rattle.bits.proofs.Rows.{as_four}
use Rattle.element.specs.declared.types.Kind.{Kind}
use Rattle.element.specs.declared.settings.Settings.{Settings}
use Rattle.element.specs.Types.{layout_of}
use Rattle.element.specs.Settings.{settings_of, settings_bytes}
use Rattle.element_control.specs.Control.{selected, unselected, requesting, control_of, offending}
use Rattle.element.proofs.SettingsBothWays.{first_clear_lem, second_clear, third_clear, fourth_clear}
use Rattle.element_control.proofs.FirstRefused.{offends_reserved}
use Rattle.element.proofs.StoredSettings.{sound, reserved_named, Storable, settings_back, length-bytes}
use Rattle.build_element.specs.Wishes.{silent, with_select, request_bytes}
use Rattle.build_element.proofs.SoundLayout.{heading, first_small, rest_same}

head_only : (x : ℕ) → x < 256 → only (6 ∷ 5 ∷ 4 ∷ []) x ≡ true → only (7 ∷ 6 ∷ 5 ∷ 4 ∷ []) (128 + x) ≡ true
head_only = by_byte_if (only (6 ∷ 5 ∷ 4 ∷ [])) (λ x. only (7 ∷ 6 ∷ 5 ∷ 4 ∷ []) (128 + x)) refl

head_selects : (x : ℕ) → x < 128 → bit 7 (128 + x) ≡ true
head_selects x h = by_byte_if (λ b. ltb b 128) (λ b. bit 7 (128 + b)) refl x (omega arith) (lt-ltb x 128 h)

module _ (k : Kind) (r : Settings) where
  head_only_at : only (7 ∷ 6 ∷ 5 ∷ 4 ∷ []) (128 + get_or (settings_bytes k r) 0 0) ≡ true
  unfolding settings_bytes
  head_only_at = head_only (get_or (settings_bytes k r) 0 0) (omega (arith, first_small k r)) (first_clear_lem (layout_of k) (sound k) r)

  pub request_selected : selected (request_bytes k r) ≡ true
  unfolding request_bytes
  request_selected = head_selects (get_or (settings_bytes k r) 0 0) (first_small k r)

  pub request_fine : offending k (request_bytes k r) ≡ 4
  unfolding request_bytes settings_bytes
  request_fine =
      offends_reserved k (request_bytes k r)
      ∙ pick_yes (bit 7 (128 + get_or (settings_bytes k r) 0 0)) _ 4 (head_selects (get_or (settings_bytes k r) 0 0) (first_small k r))
      ∙ sym (reserved_named k (with_select (settings_bytes k r)))
      ∙ four_pass head_only_at (second_clear (layout_of k) (sound k) r) (third_clear (layout_of k) (sound k) r) (fourth_clear (layout_of k) (sound k) r)

  pub request_length : length (request_bytes k r) ≡ 4
  unfolding request_bytes
  request_length = refl

  pub request_back : Storable k r → settings_of k (request_bytes k r) ≡ r
  unfolding request_bytes
  request_back h =
      let e = settings_bytes k r in
      let x = get_or e 0 0 in
      let g : heading (128 + x) ≡ true = and_both (head_selects x (first_small k r)) head_only_at in
      let m : 128 + x - 128 ≡ x = omega arith in
      rest_same k (128 + x) (get_or e 1 0) (get_or e 2 0) (get_or e 3 0) (omega (arith, first_small k r)) g
      ∙ ap (λ (y : ℕ). settings_of k (y ∷ get_or e 1 0 ∷ get_or e 2 0 ∷ get_or e 3 0 ∷ [])) m
      ∙ ap (settings_of k) (sym (as_four e (length-bytes k r)))
      ∙ settings_back k r h

  pub request_control : Storable k r → control_of k (request_bytes k r) ≡ requesting r
  unfolding control_of
  request_control h = pick_yes (selected (request_bytes k r)) _ unselected request_selected ∙ ap requesting (request_back h)

-- four zeros are not selected
pub silent_control : (k : Kind) → control_of k silent ≡ unselected
unfolding control_of
silent_control k = refl

pub silent_fine : (k : Kind) → offending k silent ≡ 4
silent_fine k = offends_reserved k silent
