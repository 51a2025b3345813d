-- The page put whole into an output buffer that holds it, and the page of a shelf. Assumes nothing.
use Rattle.std.specs.Prelude.{Ok, Err, Some, None, Option}
use mathlib.Core.Path.{◌≡◌, refl, sym, ap, ap₂, ◌∙◌}
use mathlib.Core.List.{List}
use Prim.Native.Nat.{ℕ, ◌+◌, ◌<◌, ◌≤◌}
use native.Mathlib.Omega.{arith}
use lib.ListN.{length}
use Rattle.bits.specs.Rows.{rows_put}
use Rattle.bits.proofs.Rows.{rows_end}
use Rattle.bits.proofs.RowStarts.{start_first, start_behind}
use Rattle.bits.proofs.RowsPut.{rows_behind}
use Rattle.refusals.specs.declared.Refusal.TheVariants.{ShelfNotWellFormed}
use Rattle.refusals.specs.Outcomes.{placed, WritesPage}
use Rattle.shelf.specs.Limits.{element_place, HasTypes}
use Rattle.shelf_formed.specs.declared.Sizes.{Sizes}
use Rattle.shelf_formed.specs.Formed.{opened}
use Rattle.shelf_formed.proofs.FormedShelf.{few_types, few_elements}
use Rattle.shelf_formed.proofs.ElementPut.{length-formed, shelf_there}
use Rattle.shelf_formed.proofs.Opening.{formed_sizes, not_formed}
use Rattle.page.specs.Header.{shelf_tested, head_of, head_of_put}
use Rattle.page.proofs.HeaderTests.{head_of_put_lem}
use Rattle.page.proofs.SlotsBefore.{slots_are}
use Rattle.names.specs.Name.{name_in}
use Rattle.names.specs.Names.{name_of}
use Rattle.descriptor_page.specs.Page.{descriptor, width, start_of, descriptor_page, names_page, HasNames}
use Rattle.descriptor_page.proofs.DescriptorRows.{descriptor_rows}
use Rattle.refusals.specs.Answers.{Counted}

-- behind a header of 8 bytes
pub page_behind : (f : ℕ → List ℕ) (n : ℕ) → 8 ≤ start_of f n
page_behind f n = start_behind 8 (width f) n

module _ (c : List ℕ) (f : ℕ → List ℕ) (n : ℕ) where
  pub length-page : length (descriptor_page c f n) ≡ start_of f n
  unfolding descriptor_page
  length-page =
      rows_end (start_of f) (width f) (λ i. descriptor (f i)) (descriptor_rows f) (head_of c 0x07 0 (start_of f n)) (sym (start_first 8 (width f))) n

  -- from what the calls say
  pub page_placed : (out : List ℕ) {m : ℕ} {o1 o2 : List ℕ} → m ≡ start_of f n → m ≤ length out → o1 ≡ head_of_put c out 0x07 0 m
      → o2 ≡ rows_put (start_of f) (λ i. descriptor (f i)) o1 n → o2 ≡ placed (descriptor_page c f n) out
  unfolding descriptor_page
  page_placed out e l e1 e2 =
      let head = head_of c 0x07 0 (start_of f n) in
      let row : ℕ → List ℕ = λ i. descriptor (f i) in
      let there = ap (head_of_put c out 0x07 0) e ∙ head_of_put_lem c out 0x07 0 (start_of f n) (omega (arith, page_behind f n)) in
      e2
      ∙ ap (λ (o : List ℕ). rows_put (start_of f) row o n) (e1 ∙ there)
      ∙ rows_behind (start_of f) (width f) row (descriptor_rows f) head (sym (start_first 8 (width f))) out n (omega (arith, e))

-- a shelf, as it was opened
module _ (s : List ℕ) {o : Option Sizes} (h : o ≡ opened s) where
  pub no_shelf : (out : List ℕ) → o ≡ None → WritesPage (shelf_tested s) (names_page s) out (Err ShelfNotWellFormed) out
  no_shelf out u = rw (not_formed s (sym h ∙ u)) (refl, refl)

  module _ {z : Sizes} (u : o ≡ Some z) where
    pub shelf_sum : z.types + z.elements < 65536
    shelf_sum =
        let q = formed_sizes s (sym h ∙ u) in
        let f = (shelf_there s q.0).0 in
        omega (arith, q.1, q.2, few_types s f, few_elements s f)

    pub shelf_names : {first : ℕ} → first ≤ element_place z.elements → HasTypes s × HasNames s first (z.types + z.elements)
    shelf_names l =
        let q = formed_sizes s (sym h ∙ u) in
        let t = shelf_there s q.0 in
        let a = few_types s t.0 in
        let b = few_elements s t.0 in
        (t.1, (omega (arith, l, q.2, b), omega (arith, q.1, q.2, a, b), omega (arith, l, q.1, q.2, length-formed s q.0)))

    module _ {first : ℕ} (e : first ≡ element_place z.elements) where
      shelf_page : descriptor_page s (name_in s first) (z.types + z.elements) ≡ names_page s
      unfolding names_page name_of
      shelf_page =
          let q = formed_sizes s (sym h ∙ u) in
          ap₂ (λ (k n : ℕ). descriptor_page s (name_in s k) n) (e ∙ ap element_place q.2) (slots_are s q.1 q.2)

      pub shelf_written : (out : List ℕ) {w : Counted} {r : List ℕ}
          → WritesPage (Ok tt) (descriptor_page s (name_in s first) (z.types + z.elements)) out w r → WritesPage (shelf_tested s) (names_page s) out w r
      shelf_written out p = rw (formed_sizes s (sym h ∙ u)).0 (rw shelf_page at p)
