-- How many slots a page of a well-formed shelf or configuration has. Assumes nothing.
use Rattle.std.specs.Prelude.{Ok}
use mathlib.Core.Path.{◌≡◌, sym, ◌∙◌}
use mathlib.Core.Bool.{true}
use mathlib.Core.List.{List}
use Prim.Native.Nat.{ℕ, ◌+◌, ◌≤◌}
use native.Mathlib.Omega.{arith}
use lib.Dec.{eqb}
use lib.ListN.{length}
use borrow.Author.Tests.{eqb-true}
use Rattle.bits.proofs.Logic.{and_left, and_right}
use Rattle.refusals.specs.declared.Refusal.TheVariants.{ShelfNotWellFormed}
use Rattle.refusals.specs.Outcomes.{next, page_next}
use Rattle.refusals.proofs.AcceptedTests.{held, held_both, held_page}
use Rattle.shelf.specs.Limits.{most_types, most_elements, element_place}
use Rattle.shelf_formed.specs.Formed.{front_formed, HasFront, configuration_formed}
use Rattle.shelf_formed.proofs.FormedShelf.{few_types, few_elements}
use Rattle.page.specs.Slots.{slots_of}
use Rattle.page.specs.Header.{configuration_tested}
use Rattle.refusals.specs.Answers.{Answer, PageAnswer}

module _ (c : List ℕ) where
  pub configuration_front : configuration_formed c ≡ true → front_formed c ≡ true
  unfolding configuration_formed
  configuration_front h = and_left (front_formed c) (eqb (length c) (element_place 0)) h

  -- of a configuration all types are there
  pub configuration_there : configuration_formed c ≡ true → HasFront c
  unfolding configuration_formed
  configuration_there h =
      (configuration_front h, omega (arith, eqb-true (length c) (element_place 0) (and_right (front_formed c) (eqb (length c) (element_place 0)) h)))

  formed : configuration_tested c ≡ Ok tt → configuration_formed c ≡ true
  formed a = (held (configuration_formed c) ShelfNotWellFormed (Ok tt) a).0

  -- a call that tests the configuration first was accepted, with a page or with a record
  pub configuration_passed : (rest : PageAnswer) → page_next (configuration_tested c) rest ≡ Ok tt → (configuration_formed c ≡ true) × (rest ≡ Ok tt)
  configuration_passed rest a = let h = held_page (configuration_tested c) rest a in (formed h.0, h.1)

  pub accepted_there : (rest : Answer) {a : Answer} → a ≡ next (configuration_tested c) rest → a ≡ Ok tt → HasFront c
  accepted_there rest h u = configuration_there (formed (held_both (configuration_tested c) rest (sym h ∙ u)).0)

  module _ (h : front_formed c ≡ true) where
    pub slots_bound : slots_of c ≤ most_types + most_elements
    unfolding slots_of
    slots_bound = omega (arith, few_types c h, few_elements c h)
