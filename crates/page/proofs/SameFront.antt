-- Shelves with the same front have the same pages for them: slots, header, tests. Assumes nothing.
use Rattle.std.specs.Prelude.{Ok}
use mathlib.Core.Path.{◌≡◌, ap, ◌∙◌}
use mathlib.Core.Bool.{true}
use mathlib.Core.List.{List, ◌++◌}
use Prim.Native.Nat.{ℕ, ◌<◌}
use native.Mathlib.Omega.{arith}
use lib.Dec.{eqb}
use lib.ListN.{length}
use Rattle.bits.specs.Rows.{joined}
use Rattle.refusals.specs.declared.Refusal.TheVariants.{Generation}
use Rattle.refusals.specs.Outcomes.{unless, next}
use Rattle.shelf_formed.specs.Formed.{front_formed, well_formed}
use Rattle.shelf_formed.proofs.FrontOfShelf.{front, front_get, alike, front_alike}
use Rattle.page.specs.Slots.{slots_of, slot_at, slot_place}
use Rattle.page.specs.Header.{generation_on, generation_of, framed, length_tested, generation_tested, headed, page_tested, header}
use Rattle.page.proofs.SlotsOfFront.{slots_same, slot_same, header_same}
use Rattle.page.proofs.HeaderBothWays.{head_written}

generation_same : (s : List ℕ) → generation_of (front s) ≡ generation_of s
generation_same s = rw (front_get s 0 (omega arith), front_get s 1 (omega arith), front_get s 2 (omega arith), front_get s 3 (omega arith))

module _ (s x : List ℕ) (e : front x ≡ front s) where
  pub slots_alike : slots_of x ≡ slots_of s
  slots_alike = alike s x e slots_of (slots_same x) (slots_same s)

  pub slot_alike : front_formed s ≡ true → (i : ℕ) → i < slots_of s → slot_at x i ≡ slot_at s i
  slot_alike w i l =
      alike s x e (λ (c : List ℕ). slot_at c i) (slot_same x (front_alike s x e ∙ w) i (rw slots_alike l)) (slot_same s w i l)

  module _ (p : List ℕ) (code : ℕ) where
    headed_alike : (n : ℕ) → headed x p code n ≡ headed s p code n
    unfolding headed generation_tested
    headed_alike n =
        ap
        (λ (g : ℕ). next (framed p code) (next (length_tested p (slot_place n)) (unless (eqb (generation_on p) g) Generation (Ok tt))))
        (alike s x e generation_of (generation_same x) (generation_same s))

    pub tested_alike : well_formed s ≡ true → well_formed x ≡ true → page_tested x p code ≡ page_tested s p code
    unfolding page_tested
    tested_alike w v = rw (w, v, slots_alike) (headed_alike (slots_of s))

-- a page that was written for a shelf passes under its front
pub told_headed : (f : ℕ → List ℕ) → ((i : ℕ) → length (f i) ≡ 4) → (s : List ℕ) (code own : ℕ) → slot_place (slots_of s) < 65540
    → headed (front s) (header s code own (slots_of s) ++ joined f (slots_of s)) code (slots_of s) ≡ Ok tt
told_headed f h s code own l = rw (← (header_same s code own (slots_of s))) (head_written f h (front s) code own (slots_of s) l)
