-- The search finds the first element that has the name exactly, and nothing if none has it. Assumes nothing.
use Rattle.std.specs.Prelude.{Ok, Err, Some, None}
use mathlib.Core.Path.{◌≡◌, refl, sym, ap, ◌∙◌}
use mathlib.Core.Bool.{Bool, true, false, not}
use mathlib.Core.List.{List, []}
use Prim.Native.Nat.{ℕ, ◌<◌, ◌≤◌}
use native.Mathlib.Omega.{arith}
use lib.Dec.{ltb}
use lib.ListN.{length}
use lib.Seq.{ext_get_or}
use borrow.Author.Tests.{lt-ltb, le-ltb, ltb-true, ltb-false}
use Rattle.bits.specs.Choice.{pick}
use Rattle.bits.proofs.Logic.{never, by_case, pick_yes, pick_no, fails, below_all, first_at, first_none, first_passes, first_fails}
use Rattle.refusals.specs.declared.Refusal.{Refusal}
use Rattle.refusals.specs.declared.Refusal.TheVariants.{ShelfNotWellFormed}
use Rattle.shelf.specs.Limits.{name_place}
use Rattle.shelf.specs.Types.{elements_of}
use Rattle.shelf_formed.specs.Formed.{well_formed}
use Rattle.names.specs.Name.{name_in, is_name}
use Rattle.names.specs.Names.{name_of, element_name}
use Rattle.names.specs.Found.{FindAnswer, named, first_named, found_at, found}
use Rattle.names.proofs.NameBack.{name_is}
use Rattle.names.proofs.Equal.{equal_same, same_equal}

-- every name is a name, whatever bytes stand there
pub always_name : (s : List ℕ) (i : ℕ) → is_name (name_of s i) ≡ true
unfolding name_of name_in
always_name s i = name_is s (name_place (elements_of s) i)

-- of element j: it has the name, or not
module _ (s x : List ℕ) (j : ℕ) where
  has : named s x j ≡ true → element_name s j ≡ x
  unfolding named
  has t = equal_same (element_name s j) x t

  has_not : named s x j ≡ false → element_name s j ≡ x → ⊥
  unfolding named
  has_not t e = never (sym (same_equal (element_name s j) x e) ∙ t)

  is_named : element_name s j ≡ x → named s x j ≡ true
  unfolding named
  is_named e = same_equal (element_name s j) x e

  not_named : (element_name s j ≡ x → ⊥) → named s x j ≡ false
  not_named h = by_case (named s x j) (λ t. absurd (h (has t))) (λ t. t)

-- what is told of a search that stopped at k of n
told : (k n j : ℕ) → found_at k n ≡ Ok (Some j) → (k < n) × (k ≡ j)
told k n j e = go (ltb k n) refl e
  where
    go : (t : Bool) → ltb k n ≡ t → pick {A = FindAnswer} t (Ok (Some k)) (Ok None) ≡ Ok (Some j) → (k < n) × (k ≡ j)
    go true q h = (ltb-true k n q, let z : k ≡ j = cc in z)
    go false q h = let z : ◌≡◌ {A = ℕ} 0 1 = cc in absurd (omega arith)

told_none : (k n : ℕ) → found_at k n ≡ Ok None → n ≤ k
told_none k n e = go (ltb k n) refl e
  where
    go : (t : Bool) → ltb k n ≡ t → pick {A = FindAnswer} t (Ok (Some k)) (Ok None) ≡ Ok None → n ≤ k
    go true q h = let z : ◌≡◌ {A = ℕ} 0 1 = cc in absurd (omega arith)
    go false q h = ltb-false k n q

never_refused : (k n : ℕ) (r : Refusal) → found_at k n ≡ Err r → ⊥
never_refused k n r e = go (ltb k n) e
  where
    go : (t : Bool) → pick {A = FindAnswer} t (Ok (Some k)) (Ok None) ≡ Err r → ⊥
    go true h = let z : ◌≡◌ {A = ℕ} 0 1 = cc in omega arith
    go false h = let z : ◌≡◌ {A = ℕ} 0 1 = cc in omega arith

-- a shelf that is not well formed is refused
pub found_refused : (s x : List ℕ) → well_formed s ≡ false → found s x ≡ Err ShelfNotWellFormed
unfolding found
found_refused s x w = pick_no _ _ _ w

module _ (s x : List ℕ) (w : well_formed s ≡ true) where
  searched : found s x ≡ found_at (first_named s x) (elements_of s)
  unfolding found
  searched = pick_yes _ _ _ w

  -- and no other
  pub found_answered : (r : Refusal) → found s x ≡ Err r → ⊥
  found_answered r e = never_refused (first_named s x) (elements_of s) r (sym searched ∙ e)

  -- the element found has the name, and none before it
  pub found_first : (j : ℕ) → found s x ≡ Ok (Some j) → (j < elements_of s) × (element_name s j ≡ x) × ((i : ℕ) → i < j → element_name s i ≡ x → ⊥)
  unfolding first_named
  found_first j e =
      let q = told (first_named s x) (elements_of s) j (sym searched ∙ e) in
      let l : j < elements_of s = rw q.1 at q.0 in
      (l, has s x j (ap (named s x) (sym q.1) ∙ first_passes (named s x) (elements_of s) q.0), λ i b. has_not s x i (first_fails (named s x) (elements_of s) i (rw q.1 b)))

  -- where nothing is found, none has it
  pub found_nothing : found s x ≡ Ok None → (j : ℕ) → j < elements_of s → element_name s j ≡ x → ⊥
  unfolding first_named
  found_nothing e j l =
      let q = told_none (first_named s x) (elements_of s) (sym searched ∙ e) in
      has_not s x j (first_fails (named s x) (elements_of s) j (omega (arith, q, l)))

  -- the first that has the name is found
  pub first_found : (j : ℕ) → j < elements_of s → element_name s j ≡ x → ((i : ℕ) → i < j → element_name s i ≡ x → ⊥) → found s x ≡ Ok (Some j)
  unfolding first_named
  first_found j l e h =
      let q = first_at (named s x) (elements_of s) j l (below_all (fails (named s x)) j (λ i b. ap not (not_named s x i (h i b)))) (is_named s x j e) in
      searched ∙ ap (λ (k : ℕ). found_at k (elements_of s)) q ∙ pick_yes _ _ _ (lt-ltb j (elements_of s) l)

  -- so where some element has it, one is found, and not behind that
  pub some_found : (j : ℕ) → j < elements_of s → element_name s j ≡ x → (i : ℕ) × (i ≤ j) × (found s x ≡ Ok (Some i))
  unfolding first_named
  some_found j l e =
      let k = first_named s x in
      let b : k ≤ j =
      by_case (ltb j k) (λ t. absurd (has_not s x j (first_fails (named s x) (elements_of s) j (ltb-true j k t)) e)) (λ t. ltb-false j k t) in
      (k, b, searched ∙ pick_yes _ _ _ (lt-ltb k (elements_of s) (omega arith)))

  -- and where none has it, nothing
  pub nothing_found : ((j : ℕ) → j < elements_of s → element_name s j ≡ x → ⊥) → found s x ≡ Ok None
  unfolding first_named
  nothing_found h =
      let q = first_none (named s x) (elements_of s) (below_all (fails (named s x)) (elements_of s) (λ j l. ap not (not_named s x j (h j l)))) in
      searched ∙ ap (λ (k : ℕ). found_at k (elements_of s)) q ∙ pick_no _ _ _ (le-ltb (elements_of s) (elements_of s) (omega arith))

  -- a text that is longer than a name, or has a byte that a name cannot have, finds nothing
  pub no_name_found : is_name x ≡ false → found s x ≡ Ok None
  no_name_found f = nothing_found (λ j l e. never (sym (always_name s _) ∙ ap is_name e ∙ f))

-- the empty text finds the first element without a name
pub empty_found : (s : List ℕ) → well_formed s ≡ true → (j : ℕ) → j < elements_of s → length (element_name s j) ≡ 0
    → ((i : ℕ) → i < j → length (element_name s i) ≡ 0 → ⊥) → found s [] ≡ Ok (Some j)
empty_found s w j l e h = first_found s [] w j l (ext_get_or 0 (element_name s j) [] e (λ i b. absurd (omega arith))) (λ i b q. h i b (ap length q))
