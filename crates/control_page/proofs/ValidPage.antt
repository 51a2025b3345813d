-- What the tests of a control page say of its parts, and the other way round. Assumes nothing.
use Rattle.std.specs.Prelude.{Ok}
use mathlib.Core.Path.{◌≡◌, refl, sym, ap, ◌∙◌}
use mathlib.Core.Bool.{true, false, not}
use mathlib.Core.List.{List}
use Prim.Native.Nat.{ℕ, ◌<◌}
use native.Mathlib.Omega.{arith}
use borrow.Author.Tests.{eq-eqb}
use Rattle.bits.specs.Choice.{refused_in}
use Rattle.bits.proofs.Logic.{pick_yes, fails, below_all}
use Rattle.bits.proofs.Offence.{first_fine, refused_none, row_fine}
use Rattle.refusals.proofs.AcceptedTests.{accepted, held_page, held_offence}
use Rattle.shelf_formed.specs.Formed.{well_formed}
use Rattle.page.specs.Slots.{slots_of, slot_place}
use Rattle.page.specs.Header.{page_tested}
use Rattle.page.proofs.HeaderTests.{tested_formed}
use Rattle.control_page.specs.Tests.{first_allows, offence, bytes_tested, control_tested, valid}
use Rattle.control_page.proofs.FirstOffence.{slot_offending, found}

module _ (s p : List ℕ) where
  own_fine : (n : ℕ) → offence s p n ≡ slot_place n → first_allows p ≡ true
  own_fine n h = first_fine slot_place (slot_offending s p) n (first_allows p) (λ e. omega (arith, e)) (found s p n ∙ h)

  module _ (v : valid s p ≡ true) where
    parts : (page_tested s p 0x02 ≡ Ok tt) × (offence s p (slots_of s) ≡ slot_place (slots_of s))
    unfolding valid control_tested bytes_tested
    parts =
        let n = slots_of s in
        let h = held_page (page_tested s p 0x02) (bytes_tested s p n) (accepted (control_tested s p) v) in
        (h.0, (held_offence (offence s p n) (slot_place n) (Ok tt) h.1).0)

    pub valid_headed : page_tested s p 0x02 ≡ Ok tt
    valid_headed = parts.0

    pub valid_formed : well_formed s ≡ true
    valid_formed = tested_formed s p 0x02 valid_headed

    pub valid_first : first_allows p ≡ true
    valid_first = own_fine (slots_of s) parts.1

    pub valid_slot : (i : ℕ) → i < slots_of s → refused_in (slot_offending s p) i ≡ false
    valid_slot i l =
        row_fine slot_place (slot_offending s p) (slots_of s) (λ j m. omega arith) (sym (pick_yes _ _ _ valid_first) ∙ found s p (slots_of s) ∙ parts.1) i l

  pub parts_valid : page_tested s p 0x02 ≡ Ok tt → first_allows p ≡ true → ((i : ℕ) → i < slots_of s → refused_in (slot_offending s p) i ≡ false) → valid s p ≡ true
  unfolding valid control_tested bytes_tested
  parts_valid h e g =
      let n = slots_of s in
      let a = below_all (fails (refused_in (slot_offending s p))) n (λ i l. ap not (g i l)) in
      let o : offence s p n ≡ slot_place n = sym (found s p n) ∙ pick_yes _ _ _ e ∙ sym (refused_none slot_place (slot_offending s p) n a refl) in
      rw (h, eq-eqb (offence s p n) (slot_place n) o)
