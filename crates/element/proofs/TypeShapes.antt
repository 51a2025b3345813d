-- Status elements and entries of any type, as numbers, from the facts of its rules. Assumes nothing.
use mathlib.Core.Path.{◌≡◌, refl, sym, ap, subst, ◌∙◌}
use mathlib.Core.Bool.{Bool, true, false, ◌&&◌}
use mathlib.Core.List.{List, [], ◌∷◌, ◌++◌}
use Prim.Native.Nat.{ℕ, ◌+◌, ◌-◌, ◌/◌, ◌%◌, ◌^◌, ◌<◌, ◌≤◌}
use native.Mathlib.Nat.{mod-lt, mod-eq_of_lt}
use native.Mathlib.Omega.{arith}
use lib.Bits.{and_mask}
use lib.Dec.{leb}
use lib.ListN.{get_or, replicate}
use lib.Pow as pow
use borrow.Author.Tests.{eqb-true, eq-eqb, leb-true, le-leb}
use Rattle.bits.specs.Choice.{first_of}
use Rattle.bits.specs.Bits.{within, only}
use Rattle.bits.specs.Places.{four_at}
use Rattle.bits.specs.Numbers.{big, bytes, Each, Bytes}
use Rattle.bits.proofs.Logic.{and_left, and_right, and_both, and_four, below_at, four_pass, four_alike}
use Rattle.bits.proofs.Each.{each_at, four_small}
use Rattle.bits.proofs.Masks.{within_four}
use Rattle.bits.proofs.Widths.{bytes_big}
use Rattle.element.specs.declared.types.Kind.{Kind}
use Rattle.element.specs.StatusLayout.{Piece, StatusLayout, field, reserved, size, most_in, most_of, twelve, field_mask, shifts_of, cuts, puts, three, holds, fit}
use Rattle.element.specs.Rules.{Numbers, code_allowed, first_clear, shown_mask}
use Rattle.element.specs.Types.{rules_of}
use Rattle.element.specs.Status.{head_of, entry_in, status_offending, most_shown, most_overall}
use Rattle.element.proofs.Pieces.{mask_below, each_padded}
use Rattle.element.proofs.StatusBothWays.{Lays}
use Rattle.element.proofs.Shapes.{twelve_cut, three_back, all_shifts, listed, shifts_listed, mosts_listed}
use Rattle.element.proofs.TypeFacts.{facts}

-- the entry, and the bytes, by the places of the fields
module _ (l : StatusLayout) (h : Lays l) where
  pub entry_cut : (e : List ℕ) → Bytes (four_at e 0) → head_of (get_or e 0 0) ++ cuts (big (four_at e 0)) (shifts_of l) (most_of l) ≡ entry_in l e
  entry_cut e d =
      let n = big (four_at e 0) in
      let x : n / 2 ^ 16 % 256 ≡ get_or e 1 0 = omega (arith, d.1.0, d.1.1.0, d.1.1.1.0) in
      let y : n / 2 ^ 8 % 256 ≡ get_or e 2 0 = omega (arith, d.1.1.0, d.1.1.1.0) in
      let z : n % 256 ≡ get_or e 3 0 = omega (arith, d.1.1.1.0) in
      ap (λ (t : List ℕ). head_of (get_or e 0 0) ++ t) (twelve_cut l h.second h.third h.fourth n ∙ (λ i. twelve l (x i) (y i) (z i)))

  pub bytes_put_lem : (x : List ℕ) → bytes 4 (puts (shifts_of l) (most_of l) x 4) ≡ 0 ∷ three l x 4
  bytes_put_lem x = three_back l h.second h.third h.fourth h.few x 4

-- a number is at most 2 ^ w - 1 exactly if it has no bit above the lowest w
under_ones : (b w : ℕ) → leb b (2 ^ w - 1) ≡ true → within (2 ^ w - 1) b ≡ true
under_ones b w h = eq-eqb _ _ (and_mask b w ∙ mod-eq_of_lt (pow.lt_of_le_ones w (leb-true _ _ h)))

ones_over : (b w : ℕ) → within (2 ^ w - 1) b ≡ true → leb b (2 ^ w - 1) ≡ true
ones_over b w h =
    let e : b % 2 ^ w ≡ b = sym (and_mask b w) ∙ eqb-true _ _ h in
    le-leb _ _ (pow.le_ones w (let m : b % 2 ^ w < 2 ^ w = mod-lt b (pow.pow_pos w) in rw e at m))

-- such are the most that fields hold, and bytes
abbrev AllOnes : ℕ → Type 0
AllOnes m = (w : ℕ) × (w ≤ 8) × (m ≡ 2 ^ w - 1)

none : AllOnes 0
none = (0, omega arith, refl)

abbrev Ones : List ℕ → Type 0
Ones ms = Each AllOnes ms

ones_most : (ps : List Piece) → size ps ≤ 8 → Ones (most_in ps)
ones_most [] h = tt
ones_most (field w ∷ ps) h = ((w, omega arith, refl), ones_most ps (omega arith))
ones_most (reserved w ∷ ps) h = ones_most ps (omega arith)

ones_bytes : (ms : List ℕ) → Ones ms → Bytes ms
ones_bytes [] o = tt
ones_bytes (m ∷ ms) o =
    let w = o.0.0 in
    let a = pow.ones_lt w in
    let b : 2 ^ w ≤ 2 ^ 8 = pow.pow_mono o.0.1 in
    (rw o.0.2 (omega arith), ones_bytes ms o.1)

ones_at : (xs : List ℕ) (i : ℕ) → Ones xs → AllOnes (get_or xs i 0)
ones_at xs i p = each_at AllOnes xs i none p

all_ones : (l : StatusLayout) → Lays l → Ones (most_of l)
all_ones l h =
    each_padded AllOnes none (most_in l.second) (most_in l.third) (most_in l.fourth)
    (ones_most l.second (let e = h.second in omega arith))
    (ones_most l.third (let e = h.third in omega arith))
    (ones_most l.fourth (let e = h.fourth in omega arith))

module _ (m : List ℕ) (o : Ones m) (i : ℕ) where
  fit_within : (b : ℕ) → leb b (get_or m i 0) ≡ true → within (get_or m i 0) b ≡ true
  fit_within b h = let w = ones_at m i o in rw w.2 (under_ones b w.0 (rw w.2 at h))

  within_fit : (b : ℕ) → within (get_or m i 0) b ≡ true → leb b (get_or m i 0) ≡ true
  within_fit b h = let w = ones_at m i o in rw w.2 (ones_over b w.0 (rw w.2 at h))

-- four bytes by four
module _ (m x : List ℕ) (o : Ones m) (a b : ℕ) (h : Bytes (four_at x b)) where
  abbrev fits : ℕ → Bool
  fits i = leb (get_or x (b + i) 0) (get_or m (a + i) 0)

  four_masks : Bytes (four_at m a)
  four_masks = four_small m (ones_bytes m o) a

  word_in : leb (get_or x b 0) (get_or m a 0) ≡ true → fits 1 ≡ true → fits 2 ≡ true → fits 3 ≡ true → within (big (four_at m a)) (big (four_at x b)) ≡ true
  word_in p q r s =
      within_four _ _ _ _ _ _ _ _ four_masks h
      ∙ and_both
      (and_both (and_both (fit_within m o a (get_or x b 0) p) (fit_within m o (a + 1) (get_or x (b + 1) 0) q)) (fit_within m o (a + 2) (get_or x (b + 2) 0) r))
      (fit_within m o (a + 3) (get_or x (b + 3) 0) s)

  word_out : within (big (four_at m a)) (big (four_at x b)) ≡ true → (leb (get_or x b 0) (get_or m a 0) ≡ true) × (fits 1 ≡ true) × (fits 2 ≡ true) × (fits 3 ≡ true)
  word_out t =
      let w = and_four _ _ _ _ (sym (within_four _ _ _ _ _ _ _ _ four_masks h) ∙ t) in (
        within_fit m o a (get_or x b 0) w.0,
        within_fit m o (a + 1) (get_or x (b + 1) 0) w.1,
        within_fit m o (a + 2) (get_or x (b + 2) 0) w.2,
        within_fit m o (a + 3) (get_or x (b + 3) 0) w.3,
      )

both_ways : (a b : Bool) → (a ≡ true → b ≡ true) → (b ≡ true → a ≡ true) → a ≡ b
both_ways true b f g = sym (f refl)
both_ways false true f g = g refl
both_ways false false f g = refl

-- An entry whose code is at most 8, whose other bytes each have a mask that is a most.
module _ (p q r : ℕ) (m x : List ℕ) (o : Ones (15 ∷ p ∷ q ∷ r ∷ m)) (h : (i : ℕ) → i < 16 → get_or x i 0 < 256) where
  abbrev most : List ℕ
  most = 8 ∷ p ∷ q ∷ r ∷ m

  abbrev words : Bool
  words =
      ((within (big (15 ∷ p ∷ q ∷ r ∷ [])) (big (four_at x 0)) && within (big (four_at m 0)) (big (four_at x 4)))
      && within (big (four_at m 4)) (big (four_at x 8)))
      && within (big (four_at m 8)) (big (four_at x 12))

  four_known : (b : ℕ) → b + 3 < 16 → Bytes (four_at x b)
  four_known b l = (h b (omega arith), (h (b + 1) (omega arith), (h (b + 2) (omega arith), (h (b + 3) (omega arith), tt))))

  fit_in : fit most x 16 ≡ true → words && leb (get_or x 0 0) 8 ≡ true
  fit_in t =
      let at : (i : ℕ) → i < 16 → holds most x i ≡ true = below_at (holds most x) 16 t in
      let e : get_or x 0 0 ≤ 8 = leb-true _ _ (at 0 (omega arith)) in
      let k : List ℕ = 15 ∷ p ∷ q ∷ r ∷ m in
      let n = o.1.1.1.1 in
      and_both
      (and_both
      (and_both
      (and_both
      (word_in k x o 0 0 (four_known 0 (omega arith)) (le-leb (get_or x 0 0) 15 (omega arith)) (at 1 (omega arith)) (at 2 (omega arith)) (at 3 (omega arith)))
      (word_in m x n 0 4 (four_known 4 (omega arith)) (at 4 (omega arith)) (at 5 (omega arith)) (at 6 (omega arith)) (at 7 (omega arith))))
      (word_in m x n 4 8 (four_known 8 (omega arith)) (at 8 (omega arith)) (at 9 (omega arith)) (at 10 (omega arith)) (at 11 (omega arith))))
      (word_in m x n 8 12 (four_known 12 (omega arith)) (at 12 (omega arith)) (at 13 (omega arith)) (at 14 (omega arith)) (at 15 (omega arith))))
      (at 0 (omega arith))

  fit_out : words && leb (get_or x 0 0) 8 ≡ true → fit most x 16 ≡ true
  fit_out t =
      let k : List ℕ = 15 ∷ p ∷ q ∷ r ∷ m in
      let n = o.1.1.1.1 in
      let s = and_left words (leb (get_or x 0 0) 8) t in
      let w = and_four (within (big (15 ∷ p ∷ q ∷ r ∷ [])) (big (four_at x 0))) (within (big (four_at m 0)) (big (four_at x 4))) (within (big (four_at m 4)) (big (four_at x 8))) (within (big (four_at m 8)) (big (four_at x 12))) s in
      let a = word_out k x o 0 0 (four_known 0 (omega arith)) w.0 in
      let b = word_out m x n 0 4 (four_known 4 (omega arith)) w.1 in
      let c = word_out m x n 4 8 (four_known 8 (omega arith)) w.2 in
      let d = word_out m x n 8 12 (four_known 12 (omega arith)) w.3 in
      and_both (and_both (and_both (and_both (and_both (and_both (and_both (and_both (and_both (and_both (and_both (and_both (and_both (and_both (and_both (and_both refl
      (and_right words (leb (get_or x 0 0) 8) t)) a.1) a.2) a.3)
      b.0) b.1) b.2) b.3)
      c.0) c.1) c.2) c.3)
      d.0) d.1) d.2) d.3

  pub fit_words : words && leb (get_or x 0 0) 8 ≡ fit most x 16
  fit_words = both_ways (words && leb (get_or x 0 0) 8) (fit most x 16) fit_out fit_in

module _ (k : Kind) (x : List ℕ) (h : (i : ℕ) → i < 16 → get_or x i 0 < 256) where
  abbrev m : Numbers
  m = (rules_of k).numbers

  pub fits_words : (((within 0x0f010101 (big (four_at x 0)) && within m.shown_first (big (four_at x 4))) && within m.shown_next (big (four_at x 8))) && within m.shown_last (big (four_at x 12))) && leb (get_or x 0 0) 8 ≡ fit (most_shown k) x 16
  unfolding most_shown
  fits_words =
      let one : AllOnes 1 = (1, omega arith, refl) in
      let o : Ones (15 ∷ 1 ∷ 1 ∷ 1 ∷ most_of (rules_of k).status) = ((4, omega arith, refl), (one, (one, (one, all_ones (rules_of k).status (facts k).lays)))) in
      ap (λ (n : Numbers). (((within 0x0f010101 (big (four_at x 0)) && within n.shown_first (big (four_at x 4))) && within n.shown_next (big (four_at x 8))) && within n.shown_last (big (four_at x 12))) && leb (get_or x 0 0) 8) (facts k).numbered
      ∙ fit_words 1 1 1 (most_of (rules_of k).status) x o h

pub overall_words : (x : List ℕ) → ((i : ℕ) → i < 16 → get_or x i 0 < 256)
    → (((within 0x0f000000 (big (four_at x 0)) && within 0 (big (four_at x 4))) && within 0 (big (four_at x 8))) && within 0 (big (four_at x 12))) && leb (get_or x 0 0) 8 ≡ fit most_overall x 16
overall_words x h =
    let o : Ones (15 ∷ 0 ∷ 0 ∷ 0 ∷ replicate 12 0) = ((4, omega arith, refl), (none, (none, (none, each_padded AllOnes none [] [] [] tt tt tt)))) in
    fit_words 0 0 0 (replicate 12 0) x o h

-- the first refused byte
module _ (k : Kind) where
  abbrev l : StatusLayout
  l = (rules_of k).status

  byte_mask_lem : (ps : List Piece) → size ps ≡ 8 → field_mask ps < 256
  byte_mask_lem ps e = subst (λ (n : ℕ). field_mask ps < 2 ^ n) e (mask_below ps)

  shown_bytes : Bytes (shown_mask l)
  shown_bytes =
      let h = (facts k).lays in
      (omega arith, (byte_mask_lem l.second h.second, (byte_mask_lem l.third h.third, (byte_mask_lem l.fourth h.fourth, tt))))

  shown_is : (rules_of k).numbers.shown ≡ big (shown_mask l)
  shown_is = ap (λ (m : Numbers). m.shown) (facts k).numbered

  pub shown_four : bytes 4 (rules_of k).numbers.shown ≡ shown_mask l
  shown_four = ap (bytes 4) shown_is ∙ bytes_big (shown_mask l) shown_bytes

  module _ (e : List ℕ) where
    pub none_hidden : Bytes (four_at e 0) → within (rules_of k).numbers.shown (big (four_at e 0)) && code_allowed (get_or e 0 0 % 16) ≡ true → 4 ≡ status_offending k e
    unfolding status_offending
    none_hidden h t =
        let c = and_right (within (rules_of k).numbers.shown (big (four_at e 0))) (code_allowed (get_or e 0 0 % 16)) t in
        let s = and_left (within (rules_of k).numbers.shown (big (four_at e 0))) (code_allowed (get_or e 0 0 % 16)) t in
        let q : within (big (shown_mask l)) (big (four_at e 0)) ≡ true = ap (λ (n : ℕ). within n (big (four_at e 0))) (sym shown_is) ∙ s in
        let w = and_four (only (6 ∷ 5 ∷ 4 ∷ 3 ∷ 2 ∷ 1 ∷ 0 ∷ []) (get_or e 0 0)) (within (field_mask l.second) (get_or e 1 0)) (within (field_mask l.third) (get_or e 2 0)) (within (field_mask l.fourth) (get_or e 3 0)) (sym (within_four _ _ _ _ _ _ _ _ shown_bytes h) ∙ q) in
        sym (four_alike ((facts k).hides e) ∙ four_pass (and_both w.0 c) w.1 w.2 w.3)

    pub first_hidden : first_of (first_clear (get_or e 0 0)) (within (get_or (bytes 4 (rules_of k).numbers.shown) 1 0) (get_or e 1 0)) (within (get_or (bytes 4 (rules_of k).numbers.shown) 2 0) (get_or e 2 0)) (within (get_or (bytes 4 (rules_of k).numbers.shown) 3 0) (get_or e 3 0)) ≡ status_offending k e
    unfolding status_offending
    first_hidden =
        ap (λ (m : List ℕ). first_of (first_clear (get_or e 0 0)) (within (get_or m 1 0) (get_or e 1 0)) (within (get_or m 2 0) (get_or e 2 0)) (within (get_or m 3 0) (get_or e 3 0))) shown_four
        ∙ sym (four_alike ((facts k).hides e))

-- the numbers that four fields each have
module _ (k : Kind) where
  abbrev shifts : List ℕ
  shifts = shifts_of (rules_of k).status

  abbrev mosts : List ℕ
  mosts = most_of (rules_of k).status

  shifts_word : (i : ℕ) → bytes 4 (big (four_at shifts i)) ≡ four_at shifts i
  shifts_word i = let h = (facts k).lays in bytes_big (four_at shifts i) (four_small shifts (all_shifts (rules_of k).status h.second h.third h.fourth) i)

  mosts_word : (i : ℕ) → bytes 4 (big (four_at mosts i)) ≡ four_at mosts i
  mosts_word i = bytes_big (four_at mosts i) (four_small mosts (ones_bytes mosts (all_ones (rules_of k).status (facts k).lays)) i)

  abbrev n : Numbers
  n = (rules_of k).numbers

  -- four fields at once, of any that are made by the lowest bits and the most that each holds
  module _ {A : Type 0} (make : List ℕ → List ℕ → A) where
    pub first_word : make (bytes 4 n.shifts_first) (bytes 4 n.shown_first) ≡ make (four_at shifts 0) (four_at mosts 0)
    first_word = ap (λ (m : Numbers). make (bytes 4 m.shifts_first) (bytes 4 m.shown_first)) (facts k).numbered ∙ (λ i. make (shifts_word 0 i) (mosts_word 0 i))

    pub next_word : make (bytes 4 n.shifts_next) (bytes 4 n.shown_next) ≡ make (four_at shifts 4) (four_at mosts 4)
    next_word = ap (λ (m : Numbers). make (bytes 4 m.shifts_next) (bytes 4 m.shown_next)) (facts k).numbered ∙ (λ i. make (shifts_word 4 i) (mosts_word 4 i))

    pub last_word : make (bytes 4 n.shifts_last) (bytes 4 n.shown_last) ≡ make (four_at shifts 8) (four_at mosts 8)
    last_word = ap (λ (m : Numbers). make (bytes 4 m.shifts_last) (bytes 4 m.shown_last)) (facts k).numbered ∙ (λ i. make (shifts_word 8 i) (mosts_word 8 i))

    -- and all twelve
    pub twelve_listed : make shifts mosts ≡ make (listed shifts 0 12) (listed mosts 0 12)
    twelve_listed = λ i. make (shifts_listed (rules_of k).status i) (mosts_listed (rules_of k).status i)
