-- The status page alone settles neither what a shelf stores nor which page the builder gives: A with its middle fan stopped shows the same
-- at SPEED 3 and at SPEED 5, and a sensor whose limit trips the same with FAIL stored and without. Assumes nothing.
use mathlib.Core.Path.{◌≡◌, refl, sym, ap, ◌∙◌}
use mathlib.Core.Bool.{Bool, true, true≢false}
use mathlib.Core.List.{List}
use Prim.Native.Nat.{ℕ}
use native.Mathlib.Omega.{arith}
use lib.ListN.{get_or, replicate}
use Rattle.element.specs.declared.types.Kind.TheVariants.{Temperature}
use Rattle.element.specs.Types.{has_fail, layout_of, verdict_of}
use Rattle.element.specs.Settings.{settings_of}
use Rattle.element.specs.Status.{entry_by, shown_by, status_bytes}
use Rattle.shelf.specs.Elements.{settings_at}
use Rattle.shelf_formed.specs.Formed.{well_formed}
use Rattle.status_page.specs.Page.{status_page}
use Rattle.paper.specs.Table.{shelf_a, OfA, HasStatus, Gets, middle_off, middle_on, stopped_page, control, requests, keeps, silent, none, failed, warning}
use Rattle.paper.proofs.Cases.{are_bytes, stopped_proved}

-- A without identification and names, its middle fan stopped with this SPEED stored
abbrev pub stopped_at : ℕ → List ℕ
stopped_at n = shelf_a (replicate 36 0) (middle_off n) (replicate 128 0)

it_is : (n : ℕ) (P : List ℕ → Type 0) → OfA (middle_off n) P → P (stopped_at n)
it_is n P h = h (replicate 36 0) (replicate 128 0) (are_bytes (replicate 36 0) refl) refl (are_bytes (replicate 128 0) refl) refl

-- two well-formed shelves with one status page, of which one stores SPEED 3 and the other SPEED 5
pub one_status : (well_formed (stopped_at 3) ≡ true)
    × (well_formed (stopped_at 5) ≡ true)
    × (status_page (stopped_at 3) ≡ status_page (stopped_at 5))
    × (get_or (settings_at (stopped_at 3) 1) 3 0 ≡ 3)
    × (get_or (settings_at (stopped_at 5) 1) 3 0 ≡ 5)
unfolding settings_at
one_status =
    let a = it_is 3 (HasStatus stopped_page) stopped_proved.0 in
    let b = it_is 5 (HasStatus stopped_page) stopped_proved.1.0 in
    (a.0, b.0, a.1 ∙ sym b.1, refl, refl)

-- so no function gives the stored settings from the status page
pub settings_not_told : (f : List ℕ → List ℕ) → ((s : List ℕ) → well_formed s ≡ true → f (status_page s) ≡ settings_at s 1) → ⊥
settings_not_told f h =
    let e = one_status in
    let c : ◌≡◌ {A = ℕ} 3 5 =
    sym e.3 ∙ ap (λ (x : List ℕ). get_or x 3 0) (sym (h (stopped_at 3) e.0) ∙ ap f e.2 ∙ h (stopped_at 5) e.1) ∙ e.4 in
    omega arith

-- and none that is fed with it keeps the builder's promise
pub builder_not_fed : (f : List ℕ → List ℕ → List ℕ) → ((s w p : List ℕ) (n : ℕ) → Gets w p n s → f (status_page s) w ≡ p) → ⊥
builder_not_fed f h =
    let a = h (stopped_at 3) middle_on (control silent silent requests silent) 1 (it_is 3 (Gets middle_on (control silent silent requests silent) 1) stopped_proved.1.1.0) in
    let b = h (stopped_at 5) middle_on (control silent silent keeps silent) 1 (it_is 5 (Gets middle_on (control silent silent keeps silent) 1) stopped_proved.1.1.1.0) in
    let c : ◌≡◌ {A = ℕ} 0x25 0x20 = ap (λ (x : List ℕ). get_or x 19 0) (sym a ∙ ap (λ (p : List ℕ). f p middle_on) one_status.2 ∙ b) in
    omega arith

-- temperature byte 65 with high warning 64
abbrev pub sensor_shows : List ℕ → List ℕ
sensor_shows e = status_bytes Temperature (shown_by Temperature (settings_of Temperature e) 65 0 (warning 64))

-- no function gives a sensor's stored FAIL from what it shows
pub fail_not_told : (f : List ℕ → Bool) → ((e : List ℕ) → f (sensor_shows e) ≡ has_fail (settings_of Temperature e)) → ⊥
unfolding settings_of layout_of verdict_of entry_by shown_by status_bytes
fail_not_told f h = true≢false (sym (h failed) ∙ h none)
