-- Settings of an element of any type, and the four bytes that store them, from the facts of its rules. Assumes nothing.
use mathlib.Core.Path.{◌≡◌, refl, sym}
use mathlib.Core.Bool.{true}
use mathlib.Core.List.{List, [], ◌∷◌}
use Prim.Native.Nat.{ℕ, ◌<◌}
use lib.ListN.{length}
use Rattle.bits.specs.Choice.{first_of_four}
use Rattle.bits.proofs.Logic.{four_alike}
use Rattle.element.specs.declared.types.Kind.{Kind}
use Rattle.element.specs.declared.settings.Settings.{Settings}
use Rattle.element.specs.Layouts.{named}
use Rattle.element.specs.Types.{layout_of}
use Rattle.element.specs.Settings.{settings_of, settings_bytes, settings_formed}
use Rattle.element.specs.Requests.{reserved_in, acted}
use Rattle.element.proofs.SettingsBothWays as layouts
use Rattle.element.proofs.TypeFacts.{facts}

module _ (k : Kind) where
  pub sound : layouts.Sound (layout_of k)
  unfolding layout_of
  sound = (facts k).sound

  pub reserved_named : (e : List ℕ) → first_of_four (named (layout_of k) e) ≡ reserved_in k e
  unfolding layout_of reserved_in
  reserved_named e = sym (four_alike ((facts k).reserves e))

  -- the type's four bytes have a place for every field
  abbrev pub Storable : Settings → Type 0
  Storable s = layouts.Placed (layout_of k) s

  pub settings_back : (s : Settings) → Storable s → settings_of k (settings_bytes k s) ≡ s
  unfolding settings_of settings_bytes
  settings_back = layouts.back (layout_of k) sound

  pub settings_storable : (e : List ℕ) → Storable (settings_of k e)
  unfolding settings_of
  settings_storable = layouts.placed (layout_of k) sound

  pub length-bytes : (s : Settings) → length (settings_bytes k s) ≡ 4
  unfolding settings_bytes
  length-bytes s = refl

  pub acted_storable : (r s : Settings) → Storable r → Storable s → Storable (acted r s)
  acted_storable = layouts.acted_placed (layout_of k)

  -- four bytes that are settings of the type are those that store what they say
  pub settings_again : (a b c d : ℕ) → a < 256 → b < 256 → c < 256 → d < 256 → settings_formed k (a ∷ b ∷ c ∷ d ∷ []) ≡ true
      → settings_bytes k (settings_of k (a ∷ b ∷ c ∷ d ∷ [])) ≡ a ∷ b ∷ c ∷ d ∷ []
  unfolding settings_bytes settings_of settings_formed
  settings_again a b c d ha hb hc hd t =
      let h = layouts.in_formed (layout_of k) (a ∷ b ∷ c ∷ d ∷ []) t in layouts.again (layout_of k) sound a b c d ha hd h.0 h.1 h.2 h.3

  -- what a request makes of settings that a type may have are again such
  pub acted_formed : (r : Settings) (e : List ℕ) → Storable r → settings_formed k e ≡ true
      → settings_formed k (settings_bytes k (acted r (settings_of k e))) ≡ true
  unfolding settings_formed settings_bytes settings_of
  acted_formed r e = layouts.acted_formed (layout_of k) sound r e
