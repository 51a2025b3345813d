-- The first stage of a call, which counts the slots of a page for the shelf or the configuration that it is given. Assumes nothing.
use Rattle.std.specs.Prelude.{Ok, Err, Some, None, Option}
use mathlib.Core.Path.{◌≡◌, refl, sym, ap, ◌∙◌}
use mathlib.Core.Bool.{Bool, true}
use mathlib.Core.List.{List}
use Prim.Native.Nat.{ℕ, ◌+◌, ◌<◌, ◌≤◌}
use native.Mathlib.Omega.{arith}
use lib.ListN.{length}
use Rattle.refusals.specs.declared.Refusal.TheVariants.{ShelfNotWellFormed}
use Rattle.refusals.specs.Outcomes.{unless, next, page_next, telling, answer_of}
use Rattle.refusals.proofs.AcceptedTests.{held, held_both}
use Rattle.refusals.proofs.Stages.{slots_told}
use Rattle.shelf.specs.Types.{types_of, elements_of}
use Rattle.shelf_formed.specs.declared.Sizes.{Sizes}
use Rattle.shelf_formed.specs.Formed.{HasFront, well_formed, configuration_formed, opened, configuration_opened}
use Rattle.shelf_formed.proofs.FormedShelf.{few_types, few_elements}
use Rattle.shelf_formed.proofs.Opening.{formed_sizes, not_formed, configuration_sizes, not_configuration}
use Rattle.page.specs.Slots.{slots_of, slot_place}
use Rattle.page.proofs.HeaderBothWays.{length-tested}
use Rattle.page.specs.Header.{shelf_tested, configuration_tested, headed, read_tested}
use Rattle.shelf_formed.proofs.ElementPut.{shelf_there}
use Rattle.page.proofs.SlotBounds.{configuration_there}
use Rattle.page.proofs.SlotsBefore.{slots_are}
use Rattle.refusals.specs.Answers.{Answer, PageAnswer, Counted}

-- a block that a test b opens, a shelf or a configuration
module _ (s : List ℕ) (b : Bool) (there : b ≡ true → HasFront s) where
  abbrev test : Answer
  test = unless b ShelfNotWellFormed (Ok tt)

  -- what was counted of it
  module _ {z : Sizes} (e : (b ≡ true) × (z.types ≡ types_of s) × (z.elements ≡ elements_of s)) where
    opened_sum : z.types + z.elements < 65536
    opened_sum = let f = (there e.0).0 in omega (arith, e.1, e.2, few_types s f, few_elements s f)

    opened_slots : Ok (z.types + z.elements) ≡ telling test (slots_of s)
    opened_slots = ap Ok (slots_are s e.1 e.2) ∙ sym (rw e.0)

  -- what an accepted stage says
  counted : {t : Counted} {n : ℕ} → t ≡ Ok n → t ≡ telling test (slots_of s) → (b ≡ true) × HasFront s × (n ≡ slots_of s)
  counted u h =
      let e = slots_told test (slots_of s) h u in
      let f = (held b ShelfNotWellFormed (Ok tt) e.0).0 in
      (f, there f, e.1)

module _ (s : List ℕ) {o : Option Sizes} where
  -- a shelf
  module _ (h : o ≡ opened s) where
    pub no_shelf : o ≡ None → Err ShelfNotWellFormed ≡ telling (shelf_tested s) (slots_of s)
    no_shelf u = rw (not_formed s (sym h ∙ u))

    module _ {z : Sizes} (u : o ≡ Some z) where
      pub shelf_sum : z.types + z.elements < 65536
      shelf_sum = opened_sum s (well_formed s) (shelf_there s) (formed_sizes s (sym h ∙ u))

      pub shelf_slots : Ok (z.types + z.elements) ≡ telling (shelf_tested s) (slots_of s)
      shelf_slots = opened_slots s (well_formed s) (shelf_there s) (formed_sizes s (sym h ∙ u))

  -- a configuration
  module _ (h : o ≡ configuration_opened s) where
    pub no_configuration : o ≡ None → Err ShelfNotWellFormed ≡ telling (configuration_tested s) (slots_of s)
    no_configuration u = rw (not_configuration s (sym h ∙ u))

    module _ {z : Sizes} (u : o ≡ Some z) where
      pub configuration_sum : z.types + z.elements < 65536
      configuration_sum = opened_sum s (configuration_formed s) (configuration_there s) (configuration_sizes s (sym h ∙ u))

      pub configuration_slots : Ok (z.types + z.elements) ≡ telling (configuration_tested s) (slots_of s)
      configuration_slots = opened_slots s (configuration_formed s) (configuration_there s) (configuration_sizes s (sym h ∙ u))

module _ (s : List ℕ) {t : Counted} {n : ℕ} (u : t ≡ Ok n) where
  pub shelf_counted : t ≡ telling (shelf_tested s) (slots_of s) → (well_formed s ≡ true) × HasFront s × (n ≡ slots_of s)
  shelf_counted h = counted s (well_formed s) (shelf_there s) u h

  pub configuration_counted : t ≡ telling (configuration_tested s) (slots_of s) → (configuration_formed s ≡ true) × HasFront s × (n ≡ slots_of s)
  configuration_counted h = counted s (configuration_formed s) (configuration_there s) u h

-- the answer without the count
pub count_dropped : (a : Answer) (m : ℕ) → answer_of (telling a m) ≡ a
count_dropped (Ok x) m = refl
count_dropped (Err r) m = refl

-- a page read under a configuration: its tests one after the other, and what is there once they passed
module _ (c p : List ℕ) (code : ℕ) where
  pub read_stages : (rest : PageAnswer) → page_next (read_tested c p code) rest ≡ page_next (configuration_tested c) (page_next (headed c p code (slots_of c)) rest)
  unfolding read_tested
  read_stages rest = go (configuration_tested c)
    where
      go : (a : Answer) → page_next (next a (headed c p code (slots_of c))) rest ≡ page_next a (page_next (headed c p code (slots_of c)) rest)
      go (Ok x) = refl
      go (Err r) = refl

  pub read_there : {t : Counted} {n : ℕ} → t ≡ Ok n → t ≡ telling (read_tested c p code) (slots_of c)
      → HasFront c × (n ≤ slots_of c) × (slot_place n ≤ length p)
  unfolding read_tested
  read_there u h =
      let e = slots_told (read_tested c p code) (slots_of c) h u in
      let b = held_both (configuration_tested c) (headed c p code (slots_of c)) e.0 in
      let f = (held (configuration_formed c) ShelfNotWellFormed (Ok tt) b.0).0 in
      (configuration_there c f, omega (arith, e.1), omega (arith, e.1, length-tested c p code (slots_of c) b.1))
