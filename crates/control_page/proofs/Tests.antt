-- What each test of a control page comes to, from what the calls say. Assumes nothing.
use Rattle.std.specs.Prelude.{Ok}
use mathlib.Core.Path.{◌≡◌, refl, ◌∙◌}
use mathlib.Core.List.{List}
use Prim.Native.Nat.{ℕ, ◌≤◌}
use native.Mathlib.Omega.{arith}
use lib.ListN.{length}
use Rattle.refusals.specs.Outcomes.{telling, offence_tested}
use Rattle.refusals.proofs.Stages.{slots_told}
use Rattle.shelf_formed.specs.Formed.{HasFront}
use Rattle.page.specs.Slots.{slots_of, slot_place}
use Rattle.page.specs.Header.{page_tested}
use Rattle.page.proofs.ElementSlots.{page_has, page_front}
use Rattle.refusals.specs.Answers.{Counted, PageAnswer}
use Rattle.control_page.specs.Tests.{offence, bytes_tested}

-- the bytes that they read, behind the tests of the shelf and the header
pub page_room : (s p : List ℕ) {t : Counted} {n : ℕ} → t ≡ telling (page_tested s p 0x02) (slots_of s) → t ≡ Ok n
    → HasFront s × ((n ≤ slots_of s) × (slot_place n ≤ length p))
page_room s p h u =
    let e = slots_told (page_tested s p 0x02) (slots_of s) h u in
    (page_front s p 0x02 refl e.0, (omega (arith, e.1), omega (arith, e.1, (page_has s p 0x02 refl e.0).1)))

-- the page's own tests, from where the first refused byte stands
pub bytes_tested_lem : (s p : List ℕ) (n : ℕ) {k m : ℕ} {r : PageAnswer} → k ≡ offence s p n → m ≡ slot_place n → r ≡ offence_tested k m (Ok tt)
    → r ≡ bytes_tested s p n
unfolding bytes_tested
bytes_tested_lem s p n a b e = e ∙ rw (a, b)
