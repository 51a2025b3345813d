-- Each type keeps to the facts that theorems ask of its rules. Assumes nothing.
use mathlib.Core.Path.{◌≡◌, refl}
use mathlib.Core.Bool.{true, false, ◌&&◌}
use mathlib.Core.List.{List, [], ◌∷◌, ◌++◌}
use Prim.Native.Nat.{ℕ, ◌≤◌}
use native.Mathlib.Omega.{arith}
use lib.Bits.{and_le_r}
use lib.Dec.{eqb}
use lib.ListN.{length, get_or}
use borrow.Author.Tests.{leb-true}
use Rattle.bits.specs.Numbers.{big, bytes}
use Rattle.bits.specs.Places.{two_at, four_at}
use Rattle.bits.proofs.Logic.{by_case}
use Rattle.bits.proofs.Halves.{num_small}
use Rattle.element.specs.declared.types.Kind.{Kind}
use Rattle.element.specs.declared.types.Kind.TheVariants.{Cooling, Temperature, Voltage, Current}
use Rattle.element.specs.Verdict.{unlimited, above, below, over, under}
use Rattle.element.specs.Types.{fan_layout, is_on, speed_shown, fan_status, sensor_layout, fail_shown, temperature_status, voltage_status, current_status, rules_of, layout_of, reading_allowed, nominal_allowed, had, ordered}
use Rattle.element.specs.Settings.{settings_formed, fields_formed}
use Rattle.element.proofs.SettingsBothWays.{Sound, sound_tested}
use Rattle.element.proofs.StatusBothWays.{lays_tested}
use Rattle.element.proofs.Facts.{Facts, code_picked, code_judged, code_either}

-- computed once for the three sensors
sensor_sound : Sound sensor_layout
sensor_sound = sound_tested sensor_layout refl

pub facts : (k : Kind) → Facts (rules_of k)
facts Cooling = record {
  numbered = refl;
  sound = sound_tested fan_layout refl;
  reserves = λ e j. refl;
  judges = λ s r n t. code_picked (is_on s && eqb r 0) false;
  lays = lays_tested fan_status refl;
  hides = λ e j. refl;
  shows = λ s v r l p a.
      let h = leb-true r 2047 a in
      let n : s.speed ≤ 7 = rw (← p.3) (and_le_r s.speed 7) in
      let m : speed_shown s ≤ 7 = by_case (is_on s) (λ t. rw t n) (λ t. rw t (omega arith)) in
      (omega arith, (omega arith, (omega arith, (omega arith, (omega arith, (omega arith, (m, tt)))))));
}
facts Temperature = record {
  numbered = refl;
  sound = sensor_sound;
  reserves = λ e j. refl;
  judges = λ s r n t.
      code_either (eqb r 0) (unlimited 6) _ refl
      (code_judged (above r (get_or t 0 0)) (above r (get_or t 1 0)) (below r (get_or t 2 0)) (below r (get_or t 3 0)));
  lays = lays_tested temperature_status refl;
  hides = λ e j. refl;
  shows = λ s v r l p a.
      (omega arith, (num_small (fail_shown s v), (omega arith, (num_small v.highcrit, (num_small v.highwarn, (num_small v.lowcrit, (num_small v.lowwarn, tt)))))));
}
facts Voltage = record {
  numbered = refl;
  sound = sensor_sound;
  reserves = λ e j. refl;
  judges = λ s r n t.
      code_judged (over r n (get_or t 0 0)) (over r n (get_or t 1 0)) (under r n (get_or t 2 0)) (under r n (get_or t 3 0));
  lays = lays_tested voltage_status refl;
  hides = λ e j. refl;
  shows = λ s v r l p a.
      (omega arith, (num_small (fail_shown s v), (num_small v.highwarn, (num_small v.lowwarn, (num_small v.highcrit, (num_small v.lowcrit, (omega arith, (omega arith, tt))))))));
}
facts Current = record {
  numbered = refl;
  sound = sensor_sound;
  reserves = λ e j. refl;
  judges = λ s r n t. code_judged (over r n (get_or t 0 0)) (over r n (get_or t 1 0)) false false;
  lays = lays_tested current_status refl;
  hides = λ e j. refl;
  shows = λ s v r l p a.
      (omega arith, (num_small (fail_shown s v), (num_small v.highwarn, (num_small v.highcrit, (omega arith, (omega arith, tt))))));
}

-- an element of the type with the least that it may have: a speed where there is one, no thresholds, reading 0, the least nominal
abbrev pub least : Kind → List ℕ
least k =
    (0 ∷ 0 ∷ 0 ∷ (rules_of k).layout.speed ∷ [])
    ++ (0 ∷ 0 ∷ 0 ∷ 0 ∷ [])
    ++ (0 ∷ 0 ∷ bytes 2 (rules_of k).least_nominal)
    ++ (0 ∷ 0 ∷ 0 ∷ 0 ∷ [])

pub least_length : (k : Kind) → length (least k) ≡ 16
least_length k = refl

pub least_formed : (k : Kind) → fields_formed k (four_at (least k) 0) (four_at (least k) 4) (big (two_at (least k) 8)) (big (two_at (least k) 10)) ≡ true
unfolding settings_formed layout_of had ordered reading_allowed nominal_allowed
least_formed Cooling = refl
least_formed Temperature = refl
least_formed Voltage = refl
least_formed Current = refl
