-- The offset that a page of thresholds is refused with: the first byte that offends, and only the bytes up to it decide. Assumes nothing.
use mathlib.Core.Path.{◌≡◌, refl, sym, ap, ◌∙◌}
use mathlib.Core.Bool.{Bool, true, false}
use mathlib.Core.List.{List}
use Prim.Native.Nat.{ℕ, ◌+◌, ◌<◌, ◌≤◌}
use native.Mathlib.Omega.{arith}
use lib.Dec.{eqb}
use lib.ListN.{get_or}
use Rattle.bits.specs.Choice.{pick, first_of, first_of_four, all_below, first_below, refused_in}
use Rattle.bits.specs.Places.{AlikeTo}
use Rattle.bits.proofs.Logic.{fails, below_all, four_first}
use Rattle.bits.proofs.Offence.{refused_none, offence_alike, four_alike_to}
use Rattle.page.specs.Slots.{slot_at, slot_place}
use Rattle.page.proofs.FirstOffence as page
use Rattle.threshold_rows.specs.Rows.{on_page, row_at, first_set, row_offending, offence, first_allows, slot_allows, offends, byte_offends}

-- it is found in byte 1, else behind it at k
abbrev pub byte_offence : List ℕ → ℕ → ℕ
byte_offence p k = pick (first_allows p) k 1

row_first : (c p : List ℕ) (i : ℕ) → row_offending c p on_page i ≡ first_of_four (slot_allows c p i)
unfolding row_offending first_set first_of
row_first c p i = go (slot_at c i).overall
  where
    f : ℕ → Bool
    f j = eqb (get_or (row_at p on_page i) j 0) 0

    go : (t : Bool) → pick t (first_below (fails f) 4) 4 ≡ first_of_four (λ j. pick t (f j) true)
    go true = sym (four_first f)
    go false = refl

pub found : (c p : List ℕ) (n : ℕ) → byte_offence p (offence c p on_page n) ≡ first_below (offends c p) (slot_place n)
unfolding offence offends
found c p n =
    ap (λ (m : ℕ). pick (first_allows p) m 1) (offence_alike slot_place n (row_first c p)) ∙ page.first_offence_lem (first_allows p) (slot_allows c p) n

pub byte_found : (p : List ℕ) (n : ℕ) → byte_offence p (slot_place n) ≡ first_below (byte_offends p) (slot_place n)
unfolding byte_offends first_of
byte_found p n =
    let e : all_below (fails (refused_in (λ i. 4))) n ≡ true = below_all (fails (refused_in (λ i. 4))) n (λ i l. refl) in
    ap (λ (m : ℕ). pick (first_allows p) m 1) (refused_none slot_place (λ i. 4) n e refl) ∙ page.first_offence_lem (first_allows p) (λ i j. true) n

module _ (p q : List ℕ) (k : ℕ) (h : AlikeTo k p q) where
  pub offends_alike : (c : List ℕ) (m : ℕ) → m ≤ k → offends c p m ≡ offends c q m
  unfolding offends
  offends_alike c = page.offends_alike (first_allows p) (first_allows q) (slot_allows c p) (slot_allows c q) k (λ l. ap (λ (b : ℕ). eqb b 0) (h 1 l)) slots
    where
      slots : (i j : ℕ) → j < 4 → slot_place i + j ≤ k → slot_allows c p i j ≡ slot_allows c q i j
      slots i j n l =
          ap (λ (b : ℕ). pick (slot_at c i).overall (eqb b 0) true) (four_alike_to p q (slot_place i) j n (λ m w. h m (omega arith)))

  pub byte_alike : (m : ℕ) → m ≤ k → byte_offends p m ≡ byte_offends q m
  unfolding byte_offends
  byte_alike = page.offends_alike (first_allows p) (first_allows q) (λ i j. true) (λ i j. true) k (λ l. ap (λ (b : ℕ). eqb b 0) (h 1 l)) (λ i j n l. refl)
