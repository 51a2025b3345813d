-- The tests of a header one after the other, and the header written. Assumes nothing.
use Rattle.std.specs.Prelude.{Ok, Err}
use mathlib.Core.Path.{◌≡◌, refl, sym, ap, ◌∙◌}
use mathlib.Core.Bool.{true}
use mathlib.Core.List.{List, [], ◌∷◌}
use Prim.Native.Nat.{ℕ, ◌+◌, ◌-◌, ◌<◌, ◌≤◌}
use native.Mathlib.Omega.{arith}
use lib.Dec.{eqb, leb}
use lib.ListN.{length, get_or}
use borrow.Author.Tests.{leb-true, eq-eqb, ne_eqb, eqb-true}
use Rattle.bits.specs.Numbers.{big, bytes}
use Rattle.bits.specs.Places.{two_at, four_at, put_four}
use Rattle.bits.proofs.FourPut.{length_put}
use Rattle.bits.proofs.RowsPut.{four_behind}
use Rattle.refusals.specs.declared.Refusal.TheVariants.{ShelfNotWellFormed, PageTooShort, Generation, NeededLength}
use Rattle.refusals.specs.declared.Refusal.{Refusal}
use Rattle.refusals.specs.Outcomes.{next, placed}
use Rattle.refusals.proofs.AcceptedTests.{held, held_both}
use Rattle.refusals.proofs.Stages.{stopped, gone_on}
use Rattle.shelf.specs.Limits.{HasTypes}
use Rattle.shelf_formed.specs.Formed.{well_formed}
use Rattle.shelf_formed.proofs.ElementPut.{length-formed}
use Rattle.page.specs.Slots.{slots_of, slot_place}
use Rattle.page.specs.Header.{shelf_tested, page_tested, says, most_said, length_said, generation_on, generation_of, size_tested, code_tested, given_tested, said_tested, framed, length_tested, generation_tested, headed, head_of, head_of_put, header, head_put}
use Rattle.refusals.specs.Answers.{Answer}

-- the frame
module _ (p : List ℕ) (code : ℕ) where
  abbrev named : Answer
  named = next (code_tested p code) (said_tested p)

  pub frame_passed : leb 4 (length p) ≡ true → eqb (get_or p 0 0) code ≡ true → length_said p ≡ true → (Ok tt) ≡ framed p code
  unfolding framed size_tested code_tested said_tested length_said
  frame_passed l e t = rw (l, e, t)

  module _ {a : Answer} (h : a ≡ size_tested p) where
    pub too_short : {r : Refusal} → a ≡ Err r → a ≡ framed p code
    unfolding framed
    too_short u = stopped (size_tested p) named h u

    module _ (u : a ≡ Ok tt) where
      pub has_frame : 4 ≤ length p
      unfolding size_tested
      has_frame = leb-true 4 (length p) (held (leb 4 (length p)) PageTooShort (Ok tt) (sym h ∙ u)).0

      module _ {b : Answer} (k : b ≡ code_tested p code) where
        pub other_code : {r : Refusal} → b ≡ Err r → b ≡ framed p code
        unfolding framed
        other_code v = gone_on (size_tested p) named h u (stopped (code_tested p code) (said_tested p) k v)

        pub said_last : {d : Answer} → b ≡ Ok tt → d ≡ given_tested p (length p) → d ≡ framed p code
        unfolding framed said_tested
        said_last v q = gone_on (size_tested p) named h u (gone_on (code_tested p code) (said_tested p) k v q)

-- no page says more bytes than its length field can
pub says_most : (p : List ℕ) (n : ℕ) → get_or p 2 0 < 256 → get_or p 3 0 < 256 → says p n ≡ true → n ≤ most_said
says_most p n a b e = omega (arith, eqb-true n (big (two_at p 2) + 4) e, a, b)

-- the length that the type list needs
module _ (p : List ℕ) (n : ℕ) where
  pub length_differs : (length p ≡ n → ⊥) → Err NeededLength ≡ length_tested p n
  unfolding length_tested
  length_differs e = rw (ne_eqb (length p) n e)

  pub length-passed : length p ≡ n → (Ok tt) ≡ length_tested p n
  unfolding length_tested
  length-passed e = rw (eq-eqb (length p) n e)

  pub length-needed : length_tested p n ≡ Ok tt → length p ≡ n
  unfolding length_tested
  length-needed e = eqb-true (length p) n (held (eqb (length p) n) NeededLength (Ok tt) e).0

-- the generation code
module _ (c p : List ℕ) where
  pub generation_differs : (generation_on p ≡ generation_of c → ⊥) → Err Generation ≡ generation_tested c p
  unfolding generation_tested
  generation_differs e = rw (ne_eqb (generation_on p) (generation_of c) e)

  pub generation_passed : generation_on p ≡ generation_of c → (Ok tt) ≡ generation_tested c p
  unfolding generation_tested
  generation_passed e = rw (eq-eqb (generation_on p) (generation_of c) e)

  pub generation_tested_lem : generation_tested c p ≡ Ok tt → generation_on p ≡ generation_of c
  unfolding generation_tested
  generation_tested_lem e =
      let t = eqb (generation_on p) (generation_of c) in
      eqb-true (generation_on p) (generation_of c) (held t Generation (Ok tt) e).0

-- the three one after the other
module _ (c p : List ℕ) (code n : ℕ) where
  abbrev rest : Answer
  rest = next (length_tested p (slot_place n)) (generation_tested c p)

  pub head_passed : framed p code ≡ Ok tt → length p ≡ slot_place n → generation_on p ≡ generation_of c → headed c p code n ≡ Ok tt
  unfolding headed
  head_passed f l g = rw (f, ← length-passed p (slot_place n) l, ← generation_passed c p g)

  pub head_parts : headed c p code n ≡ Ok tt → (framed p code ≡ Ok tt) × (length p ≡ slot_place n) × (generation_on p ≡ generation_of c)
  unfolding headed
  head_parts e =
      let h = held_both (framed p code) rest e in
      let g = held_both (length_tested p (slot_place n)) (generation_tested c p) h.1 in
      (h.0, length-needed p (slot_place n) g.0, generation_tested_lem c p g.1)

  module _ {a : Answer} (f : a ≡ framed p code) where
    pub frame_refused : {r : Refusal} → a ≡ Err r → a ≡ headed c p code n
    unfolding headed
    frame_refused u = stopped (framed p code) rest f u

    module _ (u : a ≡ Ok tt) {b : Answer} {k : ℕ} (q : k ≡ slot_place n) (l : b ≡ length_tested p k) where
      needed : b ≡ length_tested p (slot_place n)
      needed = l ∙ ap (length_tested p) q

      pub length-refused : {r : Refusal} → b ≡ Err r → b ≡ headed c p code n
      unfolding headed
      length-refused v = gone_on (framed p code) rest f u (stopped (length_tested p (slot_place n)) (generation_tested c p) needed v)

      module _ (v : b ≡ Ok tt) where
        pub has_header : 8 ≤ length p
        has_header = omega (arith, length-needed p (slot_place n) (sym needed ∙ v))

        pub generation_last : {d : Answer} → d ≡ generation_tested c p → d ≡ headed c p code n
        unfolding headed
        generation_last g = gone_on (framed p code) rest f u (gone_on (length_tested p (slot_place n)) (generation_tested c p) needed v g)

-- the header, from what the calls say
pub head_is : (c out : List ℕ) (code own m : ℕ) {f o1 o2 : List ℕ} → o1 ≡ put_four out 0 (code ∷ own ∷ bytes 2 (m - 4)) → f ≡ four_at c 0
    → o2 ≡ put_four o1 4 f → o2 ≡ head_of_put c out code own m
head_is c out code own m q r s = s ∙ rw (q, r)

pub head_of_slots : (c out : List ℕ) (code own n : ℕ) {m : ℕ} {o : List ℕ} → m ≡ slot_place n → o ≡ head_of_put c out code own m → o ≡ head_put c out code own n
unfolding head_put
head_of_slots c out code own n p q = q ∙ ap (head_of_put c out code own) p

pub head_length : (c out : List ℕ) (code own n : ℕ) {o : List ℕ} → o ≡ head_put c out code own n → length o ≡ length out
unfolding head_put
head_length c out code own n e =
    let f : List ℕ = code ∷ own ∷ bytes 2 (slot_place n - 4) in
    ap length e ∙ length_put (put_four out 0 f) 4 (four_at c 0) ∙ length_put out 0 f

-- it stands before what stood behind it
pub head_of_put_lem : (c out : List ℕ) (code own m : ℕ) → 8 ≤ length out → head_of_put c out code own m ≡ placed (head_of c code own m) out
head_of_put_lem c out code own m h =
    let first : List ℕ = code ∷ own ∷ bytes 2 (m - 4) in
    ap (λ (o : List ℕ). put_four o 4 (four_at c 0)) (four_behind [] out first 0 refl refl (omega arith))
    ∙ four_behind first out (four_at c 0) 4 refl refl (omega arith)

pub head_put_lem : (c out : List ℕ) (code own n : ℕ) → 8 ≤ length out → head_put c out code own n ≡ placed (header c code own n) out
unfolding head_put header
head_put_lem c out code own n h = head_of_put_lem c out code own (slot_place n) h

-- an accepted shelf is well formed, and has all its types
pub shelf_formed : (s : List ℕ) {a : Answer} → a ≡ shelf_tested s → a ≡ Ok tt → well_formed s ≡ true
shelf_formed s h u = (held (well_formed s) ShelfNotWellFormed (Ok tt) (sym h ∙ u)).0

pub shelf_has : (s : List ℕ) {a : Answer} → a ≡ shelf_tested s → a ≡ Ok tt → HasTypes s
shelf_has s h u = omega (arith, length-formed s (shelf_formed s h u))

-- what an accepted page says of the shelf
pub tested_formed : (s p : List ℕ) (code : ℕ) → page_tested s p code ≡ Ok tt → well_formed s ≡ true
unfolding page_tested
tested_formed s p code e =
    (held (well_formed s) ShelfNotWellFormed (Ok tt) (held_both (shelf_tested s) (headed s p code (slots_of s)) e).0).0
