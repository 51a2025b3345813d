-- A header that passed its tests is the one that would be written, and one that was written passes them. Assumes nothing.
use Rattle.std.specs.Prelude.{Ok}
use mathlib.Core.Path.{◌≡◌, refl, sym, ap, ap₂, ◌∙◌}
use mathlib.Core.Bool.{true}
use mathlib.Core.List.{List, ◌∷◌, ◌++◌}
use Prim.Native.Nat.{ℕ, ◌+◌, ◌<◌, ◌≤◌, ◌-◌}
use native.Mathlib.Omega.{arith}
use lib.Dec.{eqb}
use lib.ListN.{length, get_or, take}
use borrow.Author.Tests.{eqb-true, le-leb, eq-eqb}
use Rattle.bits.specs.Numbers.{big, bytes, Bytes}
use Rattle.bits.specs.Places.{two_at, four_at}
use Rattle.bits.specs.Rows.{joined}
use Rattle.bits.proofs.Each.{byte_small, four_small}
use Rattle.bits.proofs.Widths.{big_bytes, bytes_big}
use Rattle.bits.proofs.Rows.{take-four}
use Rattle.refusals.specs.declared.Refusal.TheVariants.{PageCode, PageLength}
use Rattle.refusals.specs.Outcomes.{next}
use Rattle.refusals.proofs.AcceptedTests.{held, held_both}
use Rattle.page.specs.Slots.{slots_of, slot_place}
use Rattle.page.specs.Header.{shelf_tested, page_tested, HasPage, length_said, generation_on, generation_of, size_tested, code_tested, said_tested, framed, headed, head_of, header}
use Rattle.page.proofs.HeaderTests.{frame_passed, head_passed, head_parts, tested_formed}
use Rattle.page.proofs.PagePut.{length-page}

-- equal numbers are said by equal bytes
same_four : (s p : List ℕ) (j k : ℕ) → Bytes s → Bytes p → big (four_at s j) ≡ big (four_at p k) → four_at s j ≡ four_at p k
same_four s p j k hs hp e = sym (bytes_big (four_at s j) (four_small s hs j)) ∙ ap (bytes 4) e ∙ bytes_big (four_at p k) (four_small p hp k)

-- a frame that passed has the code, and says the length
pub frame_parts : (p : List ℕ) (code : ℕ) → framed p code ≡ Ok tt → (get_or p 0 0 ≡ code) × (length_said p ≡ true)
unfolding framed code_tested said_tested length_said
frame_parts p code a =
    let h1 = held_both (size_tested p) (next (code_tested p code) (said_tested p)) a in
    let h2 = held_both (code_tested p code) (said_tested p) h1.1 in
    let e = (held (eqb (get_or p 0 0) code) PageCode (Ok tt) h2.0).0 in
    (eqb-true (get_or p 0 0) code e, (held (length_said p) PageLength (Ok tt) h2.1).0)

-- the header of a page of m bytes that passed, again
pub head_again : (c p : List ℕ) (code own m : ℕ) → framed p code ≡ Ok tt → length p ≡ m → 8 ≤ m → generation_on p ≡ generation_of c → Bytes c → Bytes p
    → own ≡ get_or p 1 0 → head_of c code own m ≡ take 8 p
head_again c p code own m f lp lm g hc hp o =
    let y = byte_small p hp in
    let a = frame_parts p code f in
    let said : big (two_at p 2) ≡ m - 4 = unfold length_said in let e = eqb-true (length p) (big (two_at p 2) + 4) a.1 in omega (arith, e, lp) in
    let l : bytes 2 (m - 4) ≡ two_at p 2 = ap (bytes 2) (sym said) ∙ bytes_big (two_at p 2) (y 2, (y 3, tt)) in
    let q = same_four c p 0 4 hc hp (sym g) in
    let t0 : take 4 p ≡ four_at p 0 = take-four p 0 (omega (arith, lp)) in
    let t1 : take 8 p ≡ four_at p 0 ++ four_at p 4 = take-four p 4 (omega (arith, lp)) ∙ ap (λ (x : List ℕ). x ++ four_at p 4) t0 in
    ap (λ (x : ℕ). x ∷ own ∷ (bytes 2 (m - 4) ++ four_at c 0)) (sym a.0)
    ∙ ap (λ (x : ℕ). get_or p 0 0 ∷ x ∷ (bytes 2 (m - 4) ++ four_at c 0)) o
    ∙ ap₂ (λ (x y : List ℕ). get_or p 0 0 ∷ get_or p 1 0 ∷ (x ++ y)) l q
    ∙ sym t1

-- a page that starts with the header of its own length has the frame
module _ (c rest : List ℕ) (code own m : ℕ) (e : length (head_of c code own m ++ rest) ≡ m) where
  pub frame_written : 4 ≤ m → m < 65540 → framed (head_of c code own m ++ rest) code ≡ Ok tt
  unfolding length_said
  frame_written l h =
      let p : List ℕ = head_of c code own m ++ rest in
      sym (frame_passed p code (le-leb 4 (length p) (omega (arith, e))) (eq-eqb code code refl) says)
    where
      says : length_said (head_of c code own m ++ rest) ≡ true
      says = eq-eqb _ _ (e ∙ sym (ap (λ (x : ℕ). x + 4) (big_bytes 2 (m - 4) (omega arith)) ∙ omega arith))

module _ (c p : List ℕ) (code n : ℕ) (a : headed c p code n ≡ Ok tt) where
  parts : (framed p code ≡ Ok tt) × (length p ≡ slot_place n) × (generation_on p ≡ generation_of c)
  parts = head_parts c p code n a

  pub length-tested : length p ≡ slot_place n
  length-tested = parts.1

  -- the header again
  pub header_again : (own : ℕ) → Bytes c → Bytes p → own ≡ get_or p 1 0 → header c code own n ≡ take 8 p
  unfolding header
  header_again own hc hp o = head_again c p code own (slot_place n) parts.0 length-tested (omega arith) parts.2 hc hp o

-- an accepted page and its shelf have all the bytes that are read after the tests
pub tested_has : (s p : List ℕ) (code : ℕ) → page_tested s p code ≡ Ok tt → HasPage s p
unfolding page_tested
tested_has s p code e =
    let h = (held_both (shelf_tested s) (headed s p code (slots_of s)) e).1 in
    (tested_formed s p code e, omega (arith, length-tested s p code (slots_of s) h))

-- a page that was written under the same generation code passes
pub head_written : (f : ℕ → List ℕ) → ((i : ℕ) → length (f i) ≡ 4) → (c : List ℕ) (code own n : ℕ) → slot_place n < 65540
    → headed c (header c code own n ++ joined f n) code n ≡ Ok tt
unfolding header
head_written f h c code own n l =
    let p : List ℕ = header c code own n ++ joined f n in
    let e : length p ≡ slot_place n = length-page f h c code own n in
    head_passed c p code n (frame_written c (joined f n) code own (slot_place n) e (omega arith) l) e refl
