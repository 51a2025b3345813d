-- Setting a name changes that name and nothing else. Assumes nothing.
use Rattle.std.specs.Prelude.{Ok, Some}
use mathlib.Core.Path.{◌≡◌, sym, ap, ◌∙◌}
use mathlib.Core.Bool.{true}
use mathlib.Core.List.{List}
use mathlib.Core.Logic.{inl, inr}
use Prim.Native.Nat.{ℕ, ◌+◌, ◌<◌, ◌≤◌}
use native.Mathlib.Omega.{arith}
use lib.Dec.{ltb}
use lib.ListN.{length, get_or}
use borrow.Author.Tests.{ltb-true, ltb-false}
use Rattle.bits.proofs.Logic.{by_case}
use Rattle.bits.proofs.BytesPut.{Beside, length-put_bytes, bytes_other, bytes_put_lem, take_put}
use Rattle.refusals.specs.declared.Refusal.TheVariants.{ShelfNotWellFormed}
use Rattle.refusals.specs.Outcomes.{next}
use Rattle.refusals.proofs.AcceptedTests.{held, held_both}
use Rattle.shelf.specs.Limits.{most_types, most_text, element_place, name_place}
use Rattle.shelf.specs.Types.{types_of, elements_of}
use Rattle.shelf_formed.specs.Formed.{well_formed}
use Rattle.shelf_formed.proofs.ElementTypes.{front_formed_lem}
use Rattle.shelf_formed.proofs.FormedShelf.{few_types}
use Rattle.shelf_formed.proofs.FrontOfShelf.{front, elements_alike}
use Rattle.shelf_formed.proofs.AnyNames.{names_free}
use Rattle.page.specs.Slots.{slots_of, start_of}
use Rattle.page.specs.Places.{own_slot}
use Rattle.page.specs.Header.{shelf_tested}
use Rattle.page.proofs.ElementSlots.{own_there}
use Rattle.names.specs.Name.{name_in, is_name, padded}
use Rattle.names.specs.Names.{name_of, element_name, overall_name}
use Rattle.names.specs.Found.{found}
use Rattle.names.specs.Setting.{number_tested, name_set, element_tested, element_named, overall_tested, overall_named}
use Rattle.names.proofs.NameBack.{length-padded, name_same, name_back}
use Rattle.names.proofs.SlotsApart.{own_apart, start_apart, own_not_start}
use Rattle.names.proofs.NamesKept.{own_alike, start_alike}
use Rattle.names.proofs.FoundExactly.{first_found}
use Rattle.names.proofs.SettingTests.{number_held, name_room, overall_there}

-- a byte is none of the 32 of name i
abbrev pub BesideName : List ℕ → ℕ → ℕ → Type 0
BesideName s i k = Beside k (name_place (elements_of s) i) most_text

module _ (s : List ℕ) (i : ℕ) (x : List ℕ) (w : well_formed s ≡ true) (l : i < slots_of s) (h : is_name x ≡ true) where
  pub set_length : length (name_set s i x) ≡ length s
  unfolding name_set
  set_length = length-put_bytes s (name_place (elements_of s) i) (padded x)

  -- bytes beside it
  pub set_beside : (k : ℕ) → BesideName s i k → get_or (name_set s i x) k 0 ≡ get_or s k 0
  unfolding name_set
  set_beside k b = bytes_other s (name_place (elements_of s) i) (padded x) k (rw (length-padded x h) b)

  -- the front, and with it the types, the number of elements and all slots
  pub set_front : front (name_set s i x) ≡ front s
  unfolding name_set
  set_front = take_put s (name_place (elements_of s) i) (padded x) (element_place 0) (omega arith)

  pub set_formed : well_formed (name_set s i x) ≡ true
  set_formed = names_free s (name_set s i x) set_front set_length (λ k b. set_beside k (inl (omega arith))) w

  set_bytes : (k : ℕ) → k < most_text → get_or (name_set s i x) (name_place (elements_of s) i + k) 0 ≡ get_or (padded x) k 0
  unfolding name_set
  set_bytes k b =
      let e = length-padded x h in
      bytes_put_lem s (name_place (elements_of s) i) (padded x) k (rw e b) (rw e (name_room s w i l))

  -- the name itself
  pub set_back : name_of (name_set s i x) i ≡ x
  unfolding name_of name_in
  set_back = rw (elements_alike s (name_set s i x) set_front) (name_back x h (name_set s i x) (name_place (elements_of s) i) set_bytes)

  -- every other name
  pub set_other : (k : ℕ) → (k ≡ i → ⊥) → name_of (name_set s i x) k ≡ name_of s k
  unfolding name_of name_in
  set_other k d =
      rw (elements_alike s (name_set s i x) set_front)
      (name_same (name_set s i x) s (name_place (elements_of s) k) (name_place (elements_of s) k) (λ b m. set_beside (name_place (elements_of s) k + b) (apart b m)))
    where
      apart : (b : ℕ) → b < most_text → BesideName s i (name_place (elements_of s) k + b)
      apart b m =
          by_case (ltb k i) (λ t. inl (let u = ltb-true k i t in omega arith)) (λ t. inr (let u = ltb-false k i t in omega (arith, d)))

-- the shelf o is s, but that the name of slot i is x
abbrev pub OnlyNamed : List ℕ → ℕ → List ℕ → List ℕ → Type 0
OnlyNamed s i x o =
    (name_of o i ≡ x)
    × ((k : ℕ) → (k ≡ i → ⊥) → name_of o k ≡ name_of s k)
    × ((k : ℕ) → BesideName s i k → get_or o k 0 ≡ get_or s k 0)
    × (length o ≡ length s)
    × (front o ≡ front s)
    × (well_formed o ≡ true)

only_named : (s : List ℕ) (i : ℕ) (x : List ℕ) → well_formed s ≡ true → i < slots_of s → is_name x ≡ true → OnlyNamed s i x (name_set s i x)
only_named s i x w l h =
    (set_back s i x w l h, set_other s i x w l h, set_beside s i x w l h, set_length s i x w l h, set_front s i x w l h, set_formed s i x w l h)

-- what the tests say where they accept
module _ (s : List ℕ) (j : ℕ) (x : List ℕ) where
  accepted : (n : ℕ) → next (shelf_tested s) (number_tested j n x) ≡ Ok tt → (well_formed s ≡ true) × (j < n) × (is_name x ≡ true)
  accepted n a =
      let p = held_both (shelf_tested s) (number_tested j n x) a in
      let q = number_held j n x p.1 in
      ((held (well_formed s) ShelfNotWellFormed (Ok tt) p.0).0, q.0, q.1)

  pub element_accepted : element_tested s j x ≡ Ok tt → (well_formed s ≡ true) × (j < elements_of s) × (is_name x ≡ true)
  unfolding element_tested
  element_accepted a = accepted (elements_of s) a

  pub overall_accepted : overall_tested s j x ≡ Ok tt → (well_formed s ≡ true) × (j < types_of s) × (is_name x ≡ true)
  unfolding overall_tested
  overall_accepted a = accepted (types_of s) a

  -- an accepted call sets exactly the name of its element
  pub sets_exactly : (element_tested s j x ≡ Ok tt → OnlyNamed s (own_slot s j) x (element_named s j x))
      × (overall_tested s j x ≡ Ok tt → OnlyNamed s (start_of s j) x (overall_named s j x))
  sets_exactly = (
    λ a.
        let h = element_accepted a in
        rw a (only_named s (own_slot s j) x h.0 (own_there s j h.1 (front_formed_lem s h.0)) h.2),
    λ a.
        let h = overall_accepted a in
        rw a (only_named s (start_of s j) x h.0 (overall_there s h.0 j h.1) h.2),
  )

-- the same by elements: the name that was set, the names of the others, and those of the overall elements
module _ (s : List ℕ) (j : ℕ) (x : List ℕ) (a : element_tested s j x ≡ Ok tt) where
  abbrev element_only : OnlyNamed s (own_slot s j) x (element_named s j x)
  element_only = (sets_exactly s j x).0 a

  pub element_back : element_name (element_named s j x) j ≡ x
  element_back = ap (name_of (element_named s j x)) (own_alike s (element_named s j x) element_only.4 j) ∙ element_only.0

  pub element_others : (i : ℕ) → i < elements_of s → (i ≡ j → ⊥) → element_name (element_named s j x) i ≡ element_name s i
  element_others i l d =
      ap (name_of (element_named s j x)) (own_alike s (element_named s j x) element_only.4 i)
      ∙ element_only.1 (own_slot s i) (own_apart s i j l (element_accepted s j x a).1 d)

  pub element_overalls : (t : ℕ) → t ≤ most_types → overall_name (element_named s j x) t ≡ overall_name s t
  element_overalls t l =
      ap (name_of (element_named s j x)) (start_alike s (element_named s j x) element_only.4 t l)
      ∙ element_only.1 (start_of s t) (λ e. own_not_start s j t (element_accepted s j x a).1 (sym e))

module _ (s : List ℕ) (t : ℕ) (x : List ℕ) (a : overall_tested s t x ≡ Ok tt) where
  abbrev overall_only : OnlyNamed s (start_of s t) x (overall_named s t x)
  overall_only = (sets_exactly s t x).1 a

  pub overall_back : overall_name (overall_named s t x) t ≡ x
  overall_back =
      let h = overall_accepted s t x a in
      let l = few_types s (front_formed_lem s h.0) in
      ap (name_of (overall_named s t x)) (start_alike s (overall_named s t x) overall_only.4 t (omega (arith, l, h.1))) ∙ overall_only.0

  pub overall_others : (u : ℕ) → u ≤ most_types → (u ≡ t → ⊥) → overall_name (overall_named s t x) u ≡ overall_name s u
  overall_others u l d =
      ap (name_of (overall_named s t x)) (start_alike s (overall_named s t x) overall_only.4 u l) ∙ overall_only.1 (start_of s u) (start_apart s u t d)

  pub overall_elements : (j : ℕ) → j < elements_of s → element_name (overall_named s t x) j ≡ element_name s j
  overall_elements j l =
      ap (name_of (overall_named s t x)) (own_alike s (overall_named s t x) overall_only.4 j) ∙ overall_only.1 (own_slot s j) (own_not_start s j t l)

-- an element that was named is found by its name, unless one before it has the same
pub set_found : (s : List ℕ) (j : ℕ) (x : List ℕ) → element_tested s j x ≡ Ok tt → ((i : ℕ) → i < j → element_name s i ≡ x → ⊥)
    → found (element_named s j x) x ≡ Ok (Some j)
set_found s j x a h =
    let o = element_named s j x in
    let n = element_only s j x a in
    let l = (element_accepted s j x a).1 in
    let e : elements_of o ≡ elements_of s = elements_alike s o n.4 in
    first_found o x n.5 j (rw e l) (element_back s j x a)
    (λ i b q. h i b (sym (element_others s j x a i (omega (arith, l)) (λ z. omega arith)) ∙ q))
