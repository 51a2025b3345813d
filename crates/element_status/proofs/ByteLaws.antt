-- Byte 0 of a status element, flags side by side in one byte, and entries by the places of their fields. Assumes nothing.
use mathlib.Core.Path.{◌≡◌, refl, sym, ap, ◌∙◌}
use mathlib.Core.Bool.{Bool, true, false, ◌&&◌, ◌||◌}
use mathlib.Core.List.{List, [], ◌∷◌, ◌++◌}
use Prim.Native.Nat.{ℕ, ◌+◌, ◌*◌, ◌/◌, ◌%◌, ◌<◌}
use native.Mathlib.Omega.{arith}
use lib.Bits.{bit_or}
use lib.Dec.{eqb, leb}
use lib.ListN.{get_or}
use borrow.Author.Tests.{eqb-true}
use Rattle.bits.specs.Bits.{num, bit_of, bit, nibble, join}
use Rattle.bits.proofs.Logic.{below_at}
use Rattle.bits.specs.Places.{four_at}
use Rattle.bits.specs.Numbers.{big, bytes, Bytes}
use Rattle.element.specs.declared.types.Kind.{Kind}
use Rattle.element.specs.declared.settings.Settings.{Settings}
use Rattle.element.specs.declared.verdict.Verdict.{Verdict}
use Rattle.element.specs.Verdict.{over, judged, current_verdict}
use Rattle.element.specs.StatusLayout.{StatusLayout, most_of, shifts_of, cuts, puts, fit}
use Rattle.element.specs.Rules.{Numbers}
use Rattle.element.specs.Types.{rules_of, voltage_status, voltage_fields, current_status, current_fields}
use Rattle.element.specs.Status.{head_of, first_byte, status_with, entry_of, status_bytes, most_shown, most_overall}
use Rattle.element.proofs.SettingsBothWays.{four}
use Rattle.element.proofs.TypeFacts.{facts}
use Rattle.element.proofs.TypeShapes.{entry_cut, bytes_put_lem, first_word, next_word, last_word, twelve_listed, fits_words, overall_words}
use Rattle.element_status.specs.Words.{four_put, number_of, words_within}

first_made : (p d w : Bool) (n : ℕ) → join (nibble false p d w) n ≡ first_byte (n ∷ num p ∷ num d ∷ num w ∷ [])
first_made true true true n = refl
first_made true true false n = refl
first_made true false true n = refl
first_made true false false n = refl
first_made false true true n = refl
first_made false true false n = refl
first_made false false true n = refl
first_made false false false n = refl

pub first_is : (p d w : Bool) (n : ℕ) {h a : ℕ} → h ≡ nibble false p d w → a ≡ join h n → a ≡ first_byte (n ∷ num p ∷ num d ∷ num w ∷ [])
first_is p d w n q r = r ∙ ap (λ (h : ℕ). join h n) q ∙ first_made p d w n

-- bit 6 set or left in a byte
lit_made : (x : ℕ) → x < 256 → (d : Bool) → bit_or x (num d * 64) ≡ x / 128 * 128 + (num (bit 6 x || d) * 64 + x % 64)
lit_made x h true =
    eqb-true _ _ (below_at (λ b. eqb (bit_or b 64) (b / 128 * 128 + (num (bit 6 b || true) * 64 + b % 64))) 256 refl x h)
lit_made x h false =
    eqb-true _ _ (below_at (λ b. eqb (bit_or b 0) (b / 128 * 128 + (num (bit 6 b || false) * 64 + b % 64))) 256 refl x h)

-- two stored flags above a half byte, of which the lower is lit as well
pub second_lit : (f l : ℕ) (d : Bool) {x y : ℕ} → x ≡ join (f / 64 % 4 * 4) l → y ≡ num d * 64
    → bit_or x y ≡ bit_of 7 f * 128 + (num (bit 6 f || d) * 64 + l % 16)
second_lit f l d {x} p q =
    let h : f / 64 / 2 ≡ f / 128 = omega arith in
    let i : x / 128 ≡ f / 64 / 2 % 2 = omega (arith, p) in
    let b : x / 64 % 2 ≡ f / 64 % 2 = omega (arith, p) in
    let m : x % 64 ≡ l % 16 = omega (arith, p) in
    let e : bit 6 x ≡ bit 6 f = ap (λ (n : ℕ). eqb n 1) b in
    ap (bit_or x) q ∙ lit_made x (omega (arith, p)) d ∙ (λ t. (i ∙ ap (λ (n : ℕ). n % 2) h) t * 128 + (num (e t || d) * 64 + m t))

-- what an element shows, from the settings and the verdict that the calls say
pub status_by : (l : StatusLayout) (f : Settings → Verdict → ℕ → List ℕ) (r : ℕ) {s t : Settings} {v w : Verdict} {e : List ℕ} → s ≡ t → v ≡ w
    → e ≡ status_with l f s v r → e ≡ status_with l f t w r
status_by l f r p q h = h ∙ (λ i. status_with l f (p i) (q i) r)

-- a current shows what a voltage does without an UNDER bit
without_under : (s : Settings) (hc hw : Bool) (r : ℕ)
    → let v : Verdict = judged hc hw false false in
    status_with voltage_status voltage_fields s v r ≡ status_with current_status current_fields s v r
without_under s hc hw r = four refl (omega arith) refl refl

pub current_by : (r n : ℕ) (limits : List ℕ) {s t : Settings} {v : Verdict} {e : List ℕ} → s ≡ t → v ≡ current_verdict r n limits
    → e ≡ status_with voltage_status voltage_fields s v r → e ≡ status_with current_status current_fields t (current_verdict r n limits) r
current_by r n limits {s} {t} p q h =
    status_by voltage_status voltage_fields r p q h ∙ without_under t (over r n (get_or limits 0 0)) (over r n (get_or limits 1 0)) r

-- an entry four fields by four, as cut out of the number that four bytes say
pub entry_made : (k : Kind) (e a b c : List ℕ) → Bytes (four_at e 0)
    → let m : Numbers = (rules_of k).numbers in let n : ℕ = big (four_at e 0) in
    a ≡ cuts n (bytes 4 m.shifts_first) (bytes 4 m.shown_first) → b ≡ cuts n (bytes 4 m.shifts_next) (bytes 4 m.shown_next)
    → c ≡ cuts n (bytes 4 m.shifts_last) (bytes 4 m.shown_last) → head_of (get_or e 0 0) ++ (four_at a 0 ++ (four_at b 0 ++ four_at c 0)) ≡ entry_of k e
unfolding entry_of
entry_made k e a b c h p q r =
    let n = big (four_at e 0) in
    let x = p ∙ first_word k (cuts n) in
    let y = q ∙ next_word k (cuts n) in
    let z = r ∙ last_word k (cuts n) in
    (λ i. head_of (get_or e 0 0) ++ (four_at (x i) 0 ++ (four_at (y i) 0 ++ four_at (z i) 0)))
    ∙ sym (twelve_listed k (λ s m. head_of (get_or e 0 0) ++ cuts n s m))
    ∙ entry_cut (rules_of k).status (facts k).lays e h

-- and as put onto one
pub number_made : (k : Kind) (x : List ℕ) {a b c : ℕ}
    → let m : Numbers = (rules_of k).numbers in
    a ≡ four_put (four_at x 12) (bytes 4 m.shifts_last) (bytes 4 m.shown_last) 0 → b ≡ four_put (four_at x 8) (bytes 4 m.shifts_next) (bytes 4 m.shown_next) a
    → c ≡ four_put (four_at x 4) (bytes 4 m.shifts_first) (bytes 4 m.shown_first) b → c ≡ number_of k x
unfolding number_of
number_made k x {a} {b} {c} p q r =
    let u = p ∙ last_word k (λ s m. four_put (four_at x 12) s m 0) in
    let v = q ∙ next_word k (λ s m. four_put (four_at x 8) s m a) in
    let w = r ∙ first_word k (λ s m. four_put (four_at x 4) s m b) in
    let l = (rules_of k).status in
    w
    ∙ ap (four_put (four_at x 4) (four_at (shifts_of l) 0) (four_at (most_of l) 0)) (v ∙ ap (four_put (four_at x 8) (four_at (shifts_of l) 4) (four_at (most_of l) 4)) u)
    ∙ sym (twelve_listed k (λ s m. puts s m x 4))

-- the four bytes that show it
pub bytes_made : (k : Kind) (x : List ℕ) {n : ℕ} {e : List ℕ} → n ≡ number_of k x → e ≡ bytes 4 n
    → first_byte x ∷ get_or e 1 0 ∷ get_or e 2 0 ∷ get_or e 3 0 ∷ [] ≡ status_bytes k x
unfolding number_of status_bytes
bytes_made k x p q =
    ap (λ (e : List ℕ). first_byte x ∷ get_or e 1 0 ∷ get_or e 2 0 ∷ get_or e 3 0 ∷ []) (q ∙ ap (bytes 4) p ∙ bytes_put_lem (rules_of k).status (facts k).lays x)

-- and what an entry may have, four bytes by four
module _ (x : List ℕ) (h : (i : ℕ) → i < 16 → get_or x i 0 < 256) where
  pub words_fit : (k : Kind) → let m : Numbers = (rules_of k).numbers in words_within x 0x0f010101 m.shown_first m.shown_next m.shown_last && leb (get_or x 0 0) 8 ≡ fit (most_shown k) x 16
  unfolding words_within
  words_fit k = fits_words k x h

  pub words_alone : words_within x 0x0f000000 0 0 0 && leb (get_or x 0 0) 8 ≡ fit most_overall x 16
  unfolding words_within
  words_alone = overall_words x h
