-- A page longer than the largest is refused, and its first bytes and their number tell why. Assumes nothing.
use Rattle.std.specs.Prelude.{Ok, Err}
use mathlib.Core.Path.{◌≡◌, refl, sym, ap, ap₂, ◌∙◌}
use mathlib.Core.Bool.{Bool, true, false, ◌||◌}
use mathlib.Core.List.{List}
use Prim.Native.Nat.{ℕ, ◌+◌, ◌<◌, ◌≤◌}
use native.Mathlib.Omega.{arith}
use lib.Dec.{eqb}
use lib.ListN.{length, get_or}
use borrow.Author.Tests.{eqb-true, ne_eqb, le-leb}
use Rattle.bits.specs.Numbers.{big}
use Rattle.bits.specs.Places.{two_at}
use Rattle.bits.proofs.Logic.{by_case, pick_yes, pick_no}
use Rattle.refusals.specs.declared.Refusal.{Refusal}
use Rattle.refusals.specs.declared.Refusal.TheVariants.{ShelfNotWellFormed, PageCode, PageLength, NeededLength}
use Rattle.refusals.specs.Outcomes.{unless, next, of_page, page_next, accepts}
use Rattle.shelf_formed.specs.Formed.{well_formed}
use Rattle.shelf_formed.proofs.ElementTypes.{front_formed_lem}
use Rattle.shelf_formed.proofs.FormedShelf.{few_types, few_elements}
use Rattle.page.specs.Slots.{slots_of, slot_place}
use Rattle.page.specs.Header.{shelf_tested, size_tested, code_tested, given_tested, said_tested, framed, length_tested, generation_tested, headed, page_tested}
use Rattle.control_page.specs.Tests as control
use Rattle.threshold_page_out.specs.Tests as thresholds
use Rattle.collector.specs.Collector.{most_kept}
use Rattle.collected_page.specs.Meant.{other_tested, meant_tested, meant_after, meant_code, long_tested}
use Rattle.refusals.specs.Answers.{Answer, PageAnswer}

-- no shelf needs more bytes than the largest page has
needs_few : (s : List ℕ) → well_formed s ≡ true → slot_place (slots_of s) ≤ most_kept
unfolding slots_of
needs_few s w = let f = front_formed_lem s w in omega (arith, few_types s f, few_elements s f)

-- stages one after the other
next_next : (a b rest : Answer) → next (next a b) rest ≡ next a (next b rest)
next_next (Ok _) b rest = refl
next_next (Err r) b rest = refl

where_formed : (t : Bool) {x y : Answer} → (t ≡ true → x ≡ y) → next (unless t ShelfNotWellFormed (Ok tt)) x ≡ next (unless t ShelfNotWellFormed (Ok tt)) y
where_formed true f = f refl
where_formed false f = refl

-- which end with a refusal
module _ (r : Refusal) where
  no_more : (a b c : Answer) (rest : PageAnswer) → page_next (next a (next b (next c (Err r)))) rest ≡ of_page (next a (next b (next c (Err r))))
  no_more (Ok _) (Ok _) (Ok _) rest = refl
  no_more (Ok _) (Ok _) (Err x) rest = refl
  no_more (Ok _) (Err x) c rest = refl
  no_more (Err x) b c rest = refl

  never_accepts : (a b c : Answer) → accepts (of_page (next a (next b (next c (Err r))))) ≡ false
  never_accepts (Ok _) (Ok _) (Ok _) = refl
  never_accepts (Ok _) (Ok _) (Err x) = refl
  never_accepts (Ok _) (Err x) c = refl
  never_accepts (Err x) b c = refl

module _ (s p : List ℕ) (l : most_kept < length p) where
  size_passed : size_tested p ≡ Ok tt
  unfolding size_tested
  size_passed = rw (le-leb 4 (length p) (omega arith))

  length-refused : well_formed s ≡ true → length_tested p (slot_place (slots_of s)) ≡ Err NeededLength
  unfolding length_tested
  length-refused w = let n = needs_few s w in rw (ne_eqb (length p) (slot_place (slots_of s)) (λ e. omega (arith, n, e, l)))

  long_head : (code : ℕ) → page_tested s p code ≡ next (shelf_tested s) (next (code_tested p code) (next (given_tested p (length p)) (Err NeededLength)))
  unfolding page_tested headed framed said_tested
  long_head code =
      where_formed (well_formed s)
      (λ w.
      ap₂ next
      (ap (λ (a : Answer). next a (next (code_tested p code) (given_tested p (length p)))) size_passed)
      (ap (λ (a : Answer). next a (generation_tested s p)) (length-refused w))
      ∙ next_next (code_tested p code) (given_tested p (length p)) (Err NeededLength))

  long_page : (code : ℕ) (own : PageAnswer)
      → page_next (page_tested s p code) own ≡ of_page (next (shelf_tested s) (next (code_tested p code) (next (given_tested p (length p)) (Err NeededLength))))
  long_page code own =
      ap (λ (a : Answer). page_next a own) (long_head code) ∙ no_more NeededLength (shelf_tested s) (code_tested p code) (given_tested p (length p)) own

  long_control : control.control_tested s p ≡ of_page (long_tested s p (length p) 0x02)
  unfolding control.control_tested long_tested meant_code
  long_control = long_page 0x02 (control.bytes_tested s p (slots_of s))

  long_thresholds : thresholds.thresholds_tested s p ≡ of_page (long_tested s p (length p) 0x05)
  unfolding thresholds.thresholds_tested long_tested meant_code
  long_thresholds = long_page 0x05 (thresholds.bytes_tested s p (slots_of s))

  long_other : (code : ℕ) → eqb code 0x02 ≡ false → eqb code 0x05 ≡ false → other_tested s p ≡ long_tested s p (length p) code
  unfolding other_tested long_tested meant_code
  long_other code a b = rw (size_passed, a, b)

  long_refused : (code : ℕ) → accepts (of_page (long_tested s p (length p) code)) ≡ false
  unfolding long_tested
  long_refused code = never_accepts NeededLength (shelf_tested s) (meant_code p code) (given_tested p (length p))

  pub long_tested_lem : (code : ℕ) → meant_tested code s p ≡ of_page (long_tested s p (length p) code)
  long_tested_lem code =
      by_case (eqb code 0x02)
      (λ a. pick_yes _ _ _ a ∙ long_control ∙ ap told (sym (eqb-true code 0x02 a)))
      (λ a.
      pick_no _ _ _ a
      ∙ by_case (eqb code 0x05)
      (λ b. pick_yes _ _ _ b ∙ long_thresholds ∙ ap told (sym (eqb-true code 0x05 b)))
      (λ b. pick_no _ _ _ b ∙ ap of_page (long_other code a b)))
    where
      told : ℕ → PageAnswer
      told k = of_page (long_tested s p (length p) k)

  -- and leaves the shelf
  pub long_after : (code : ℕ) → meant_after code s p ≡ s
  unfolding control.valid thresholds.valid
  long_after code =
      by_case (eqb code 0x02)
      (λ a. pick_yes _ _ _ a ∙ pick_no _ _ _ (ap accepts long_control ∙ long_refused 0x02))
      (λ a.
      pick_no _ _ _ a
      ∙ by_case (eqb code 0x05)
      (λ b. pick_yes _ _ _ b ∙ pick_no _ _ _ (ap accepts long_thresholds ∙ long_refused 0x05))
      (λ b. pick_no _ _ _ b))

-- of its bytes only the page code and the length field are looked at
pub by_front : (s p q : List ℕ) (n code : ℕ) → get_or p 0 0 ≡ get_or q 0 0 → two_at p 2 ≡ two_at q 2 → long_tested s p n code ≡ long_tested s q n code
unfolding long_tested meant_code code_tested
by_front s p q n code a b =
    ap₂ (λ (x : ℕ) (t : Bool).
    next (shelf_tested s)
    (next (unless (eqb code 0x02 || eqb code 0x05) PageCode (unless (eqb x code) PageCode (Ok tt))) (next (unless t PageLength (Ok tt)) (Err NeededLength))))
    a
    (ap (λ (f : List ℕ). eqb n (big f + 4)) b)
