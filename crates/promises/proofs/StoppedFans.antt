-- A fan shows its stored SPEED while it is ON, and 0 while it is stopped; stopping keeps the stored one, and a fan that is started again
-- shows it as before. Assumes nothing.
use Rattle.std.specs.Prelude.{Ok}
use mathlib.Core.Path.{◌≡◌, refl, sym, ap, ◌∙◌}
use mathlib.Core.Bool.{Bool, true, false}
use mathlib.Core.List.{List}
use mathlib.Core.Logic.{◌⊎◌, inl, inr}
use Prim.Native.Nat.{ℕ, ◌+◌, ◌*◌, ◌-◌, ◌/◌, ◌%◌, ◌<◌}
use native.Mathlib.Omega.{arith}
use lib.Bits.{bit_and}
use lib.Dec.{eqb}
use lib.ListN.{get_or}
use lib.Seq.{ext_get_or}
use borrow.Author.Tests.{eqb-true, ne_eqb}
use Rattle.bits.specs.Choice.{pick}
use Rattle.bits.specs.Bits.{bit_of, bit}
use Rattle.bits.specs.Numbers.{Bytes}
use Rattle.bits.proofs.Each.{byte_small}
use Rattle.bits.proofs.FoursPut.{four_byte}
use Rattle.bits.proofs.Logic.{pick_no, by_byte_if}
use Rattle.element.specs.declared.types.Kind.{Kind}
use Rattle.element.specs.declared.types.Kind.TheVariants.{Cooling}
use Rattle.element.specs.declared.settings.Settings.{Settings}
use Rattle.element.specs.Types.{is_on, layout_of}
use Rattle.element.specs.Settings.{settings_of, settings_bytes, settings_formed}
use Rattle.element.specs.Status.{entry_of, entry_by}
use Rattle.element.proofs.StoredSettings.{settings_again}
use Rattle.shelf.specs.Limits.{element_place}
use Rattle.shelf.specs.Types.{kind_at}
use Rattle.shelf.specs.Elements.{settings_at}
use Rattle.shelf_formed.specs.Formed.{well_formed}
use Rattle.shelf_formed.proofs.FormedShelf.{in_element}
use Rattle.shelf_formed.proofs.FrontOfShelf.{front, kind_alike}
use Rattle.page.specs.Slots.{slots_of, slot_at}
use Rattle.status_page.specs.Page.{status_page}
use Rattle.status_reading.specs.Read.{slot_shown}
use Rattle.status_reading.proofs.WrittenAndRead.{told_entry, told_verdict}
use Rattle.control_page.specs.Exactly.{Chosen, ChosenByte, record_in, Acted}
use Rattle.promises.specs.Promises.{ApplyControl}
use Rattle.promises.specs.StoppedFans.{speed_code, switching, Switches}
use Rattle.promises.proofs.Exactly.{control_exactly, control_formed, control_front}
use Rattle.refusals.specs.Answers.{PageAnswer}

-- what slot i of a shelf's status page shows, if it is that of fan j
module _ (s : List ℕ) (hs : Bytes s) (w : well_formed s ≡ true) (i : ℕ) (l : i < slots_of s) (o : (slot_at s i).overall ≡ false) where
  abbrev j : ℕ
  j = (slot_at s i).first

  abbrev e : Settings
  e = record_in s s j

  module _ (k : kind_at s j ≡ Cooling) where
    -- the entry that the reader hands back has it in byte 10
    pub entry_told : get_or (slot_shown (front s) (status_page s) i) 10 0 ≡ pick (is_on e) e.speed 0
    unfolding entry_by
    entry_told = ap (λ (x : List ℕ). get_or x 10 0) (told_verdict s hs w i l o) ∙ rw k

    -- and so it stands on the page
    pub code_told : speed_code (status_page s) i ≡ pick (is_on e) e.speed 0
    unfolding entry_of
    code_told = sym (ap (λ (x : List ℕ). get_or x 10 0) (told_entry s hs w i l o) ∙ rw k (omega arith)) ∙ entry_told

-- a fan that an accepted page switches, whatever the page asks of other elements
module _ (on : Bool) (s p x : List ℕ) {r : PageAnswer} (a : ApplyControl s p r x) (u : r ≡ Ok tt) (j : ℕ) (t : Switches on s p j) where
  switched : Acted (switching on (record_in s s j)) (record_in s s j) (record_in s x j)
  switched = rw (← t.2) ((control_exactly s p a u).fields j t.0)

  pub speed_kept_lem : (record_in s x j).speed ≡ (record_in s s j).speed
  speed_kept_lem = switched.speed_kept refl

-- and the speed code of a stopped one is 0
no_on : (f : ℕ) → bit 5 (bit_of 6 f * 64 + 0 * 32) ≡ false
no_on f = ne_eqb ((bit_of 6 f * 64 + 0 * 32) / 32 % 2) 1 (λ e. omega arith)

module _ (s p x : List ℕ) {r : PageAnswer} (hx : Bytes x) (a : ApplyControl s p r x) (u : r ≡ Ok tt) (i : ℕ) (l : i < slots_of x)
    (o : (slot_at x i).overall ≡ false) (stops : Switches false s p (slot_at x i).first) where
  pub stopped_shows : speed_code (status_page x) i ≡ 0
  stopped_shows =
      let j = (slot_at x i).first in
      let k : kind_at x j ≡ kind_at s j = kind_alike s x (control_front s p a) j stops.0.0 in
      let t : is_on (record_in s x j) ≡ false = ap (bit 5) (switched false s p x a u j stops).flags3 ∙ no_on (record_in s s j).flags3 in
      code_told x hx (control_formed s p a u).1 i l o (k ∙ stops.1) ∙ pick_no _ _ _ (ap (λ (k : Kind). is_on (settings_of k (settings_at x j))) k ∙ t)

-- FAIL as it was and ON 0, and then ON 1, is what a fan had that was ON
on_again : (b : ℕ) → b < 256 → bit 5 (bit_and b 96) ≡ true → bit_of 6 (bit_of 6 (bit_and b 96) * 64 + 0 * 32) * 64 + 1 * 32 ≡ bit_and b 96
on_again b h t =
    eqb-true _ _
    (by_byte_if (λ b. bit 5 (bit_and b 96)) (λ b. eqb (bit_of 6 (bit_of 6 (bit_and b 96) * 64 + 0 * 32) * 64 + 1 * 32) (bit_and b 96)) refl b h t)

-- two accepted pages, one after the other
module _ (s p x q y : List ℕ) {r d : PageAnswer} (hs : Bytes s) (a : ApplyControl s p r x) (u : r ≡ Ok tt) (b : ApplyControl x q d y) (v : d ≡ Ok tt) where
  w : well_formed s ≡ true
  w = (control_formed s p a u).0

  -- a fan that the first stops and the second starts again has the settings that it had
  module _ (j : ℕ) (was-on : is_on (record_in s s j) ≡ true) (stops : Switches false s p j) (starts : Switches true x q j) where
    abbrev of : List ℕ → Settings
    of z = settings_of Cooling (settings_at z j)

    k : kind_at s j ≡ Cooling
    k = stops.1

    m : kind_at x j ≡ Cooling
    m = starts.1

    stopped : Acted (switching false (of s)) (of s) (of x)
    stopped = let h = switched false s p x a u j stops in rw k at h

    started : Acted (switching true (of x)) (of x) (of y)
    started = let h = switched true x q y b v j starts in rw m at h

    flags : (of y).flags3 ≡ (of s).flags3
    unfolding settings_of layout_of settings_at
    flags =
        started.flags3
        ∙ ap (λ (f : ℕ). bit_of 6 f * 64 + 1 * 32) stopped.flags3
        ∙ on_again (get_or (settings_at s j) 3 0) (byte_small s hs (element_place j + 3)) (rw k at was-on)

    back : of y ≡ of s
    back = λ i. record {
      prdfail = (started.prdfail ∙ stopped.prdfail) i;
      disabled = (started.disabled ∙ stopped.disabled) i;
      swap = (started.swap_kept refl ∙ stopped.swap_kept refl) i;
      flags1 = (started.flags1 ∙ stopped.flags1) i;
      flags2 = (started.flags2 ∙ stopped.flags2) i;
      flags3 = flags i;
      speed = (started.speed_kept refl ∙ stopped.speed_kept refl) i;
    }

    formed : settings_formed Cooling (settings_at s j) ≡ true
    formed = let h = (in_element s w j stops.0.0).0 in rw k at h

    pub settings_back : settings_at y j ≡ settings_at s j
    settings_back =
        let h = (control_exactly x q b v).no_more j starts.0 in
        let n : settings_at y j ≡ settings_bytes Cooling (of y) = rw m at h in
        n ∙ ap (settings_bytes Cooling) back ∙ stored
      where
        stored : settings_bytes Cooling (of s) ≡ settings_at s j
        stored =
            let z = element_place j in
            let h = byte_small s hs in
            unfold settings_at in settings_again Cooling (get_or s z 0) (get_or s (z + 1) 0) (get_or s (z + 2) 0) (get_or s (z + 3) 0) (h z) (h (z + 1)) (h (z + 2)) (h (z + 3)) formed

  -- if they choose the same elements, and each is such a fan, the shelf is as it was, and with it what it shows
  module _ (same : (j : ℕ) → Chosen x q j → Chosen s p j)
      (fans : (j : ℕ) → Chosen s p j → (is_on (record_in s s j) ≡ true) × Switches false s p j × Switches true x q j) where
    byte_back : (n : ℕ) → ChosenByte s p n → get_or y n 0 ≡ get_or s n 0
    unfolding settings_at
    byte_back n c =
        let z = element_place c.0 in
        let f = fans c.0 c.1 in
        let e : z + (n - z) ≡ n = omega (arith, c.2) in
        let h = four_byte y s z (settings_back c.0 f.0 f.1 f.2) (n - z) (omega (arith, c.2, c.3)) in
        rw e at h

    bytes_back : (n : ℕ) → get_or y n 0 ≡ get_or s n 0
    bytes_back n = go ((control_exactly x q b v).others n) ((control_exactly s p a u).others n)
      where
        go : (get_or y n 0 ≡ get_or x n 0) ⊎ ChosenByte x q n → (get_or x n 0 ≡ get_or s n 0) ⊎ ChosenByte s p n → get_or y n 0 ≡ get_or s n 0
        go (inl e) (inl f) = e ∙ f
        go (inl e) (inr c) = byte_back n c
        go (inr c) f = byte_back n (c.0, same c.0 c.1, c.2, c.3)

    pub as_before : y ≡ s
    as_before = ext_get_or 0 y s ((control_exactly x q b v).same_length ∙ (control_exactly s p a u).same_length) (λ n l. bytes_back n)

    pub status_as_before : status_page y ≡ status_page s
    status_as_before = ap status_page as_before
