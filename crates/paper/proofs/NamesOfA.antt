-- What antt computes of names: searches from the front, byte by byte, and the names of a shelf like A from its bytes. Assumes nothing.
use Rattle.std.specs.Prelude.{Ok}
use mathlib.Core.Path.{◌≡◌, refl, sym, ap, ◌∙◌}
use mathlib.Core.Bool.{Bool, true, ◌&&◌}
use mathlib.Core.List.{List, []}
use Prim.Native.Nat.{ℕ, zero, suc, ◌+◌, ◌<◌}
use native.Mathlib.Nat.{add-zero, zero-add}
use native.Mathlib.Omega.{arith}
use lib.Dec.{eqb}
use Rattle.bits.specs.Choice.{pick, all_below, first_below}
use Rattle.bits.specs.Texts.{same_bytes}
use Rattle.bits.proofs.Logic.{by_case, pick_yes, pick_no, and_left, and_right, and_both, fails, below_at, first_at, first_none, first_same}
use Rattle.bits.proofs.Texts.{same_at}
use Rattle.refusals.specs.Outcomes.{offence_tested, page_next}
use Rattle.shelf.specs.Limits.{most_text, name_place}
use Rattle.shelf.specs.Types.{elements_of}
use Rattle.shelf_formed.specs.Formed.{well_formed, configuration_formed}
use Rattle.page.specs.Slots.{slots_of}
use Rattle.page.specs.Places.{own_slot}
use Rattle.names.specs.Name.{name_in, is_name, padded, equal}
use Rattle.names.specs.Names.{name_of}
use Rattle.names.specs.Found.{named, first_named, found_at, found, FindAnswer}
use Rattle.names.proofs.NameBack.{name_back}
use Rattle.descriptor_page.specs.Page.{descriptor_page, names_page}
use Rattle.descriptor_page.proofs.SamePages.{page_same}
use Rattle.descriptor_record.specs.Read.{place_on, offends, head_tested, bytes_tested, page_tested, names_read}
use Rattle.refusals.specs.Answers.{PageAnswer}

-- the first number from k on at which the test passes, of m numbers: that takes a step for each
abbrev pub seek : (ℕ → Bool) → ℕ → ℕ → ℕ
seek f zero k = k
seek f (suc m) k = pick (f k) k (seek f m (suc k))

seek_first : (f : ℕ → Bool) (m k : ℕ) → all_below (fails f) k ≡ true → seek f m k ≡ first_below f (k + m)
seek_first f zero k t = sym (ap (first_below f) (add-zero k) ∙ first_none f k t)
seek_first f (suc m) k t =
    by_case (f k) (λ h. pick_yes _ _ _ h ∙ sym (first_at f (k + suc m) k (omega arith) t h))
    (λ h.
    let e : suc k + m ≡ k + suc m = omega arith in
    pick_no _ _ _ h ∙ seek_first f m (suc k) (and_both t (rw h)) ∙ ap (first_below f) e)

-- a page of names read, the first offending byte sought so
abbrev pub read_rest : List ℕ → List ℕ → PageAnswer
read_rest c p =
    let n : ℕ = slots_of c in
    page_next (head_tested c p n) (offence_tested (seek (offends p n) (place_on p n) 0) (place_on p n) (Ok tt))

pub read_so : (c p : List ℕ) → configuration_formed c ≡ true → names_read c p ≡ read_rest c p
unfolding names_read page_tested bytes_tested
read_so c p w =
    let n = slots_of c in
    let e = ap (first_below (offends p n)) (sym (zero-add (place_on p n))) ∙ sym (seek_first (offends p n) (place_on p n) 0 refl) in
    rw w (ap (λ (k : ℕ). page_next (head_tested c p n) (offence_tested k (place_on p n) (Ok tt))) e)

-- the name of slot i, if the second element of the first type is called x and nothing else has a name
abbrev pub middle_name : List ℕ → ℕ → List ℕ
middle_name x i = pick (eqb i 2) x []

-- so it stands in a shelf of three elements
abbrev pub stands_at : List ℕ → List ℕ → ℕ → Bool
stands_at s x i = same_bytes s (name_place 3 i) (padded (middle_name x i)) most_text

abbrev pub standing : List ℕ → List ℕ → Bool
standing s x = is_name x && all_below (stands_at s x) 4

module _ (s x : List ℕ) (t : standing s x ≡ true) (n : elements_of s ≡ 3) where
  is_name_lem : (i : ℕ) → is_name (middle_name x i) ≡ true
  unfolding is_name
  is_name_lem i =
      by_case (eqb i 2) (λ h. ap is_name (pick_yes _ _ _ h) ∙ and_left (is_name x) (all_below (stands_at s x) 4) t)
      (λ h. ap is_name (pick_no _ _ _ h))

  pub name_so : (i : ℕ) → i < 4 → name_of s i ≡ middle_name x i
  unfolding name_of name_in
  name_so i l =
      let e = below_at (stands_at s x) 4 (and_right (is_name x) (all_below (stands_at s x) 4) t) i l in
      rw n (name_back (middle_name x i) (is_name_lem i) s (name_place 3 i) (λ k m. same_at s (name_place 3 i) (padded (middle_name x i)) most_text k e m))

  pub described_so : slots_of s ≡ 4 → names_page s ≡ descriptor_page s (middle_name x) 4
  unfolding names_page
  described_so e = rw e (page_same s s (name_of s) (middle_name x) 4 refl name_so)

-- what the text y finds there
abbrev pub named_so : List ℕ → List ℕ → ℕ → Bool
named_so x y j = equal (middle_name x (j + 1)) y

abbrev pub found_so : List ℕ → List ℕ → FindAnswer
found_so x y = found_at (first_below (named_so x y) 3) 3

pub found_so_lem : (s x y : List ℕ) → standing s x ≡ true → elements_of s ≡ 3 → well_formed s ≡ true → ((j : ℕ) → j < 3 → own_slot s j ≡ j + 1)
    → found s y ≡ found_so x y
unfolding found first_named named
found_so_lem s x y t n w own =
    rw (w, n)
    (ap (λ (k : ℕ). found_at k 3)
    (first_same (named s y) (named_so x y) 3
    (λ j l. ap (λ (r : List ℕ). equal r y) (ap (name_of s) (own j l) ∙ name_so s x t n (j + 1) (omega arith)))))
