-- The tests of a configuration page: of one byte, and all of them one after the other. Assumes nothing.
use Rattle.bits.specs.Choice.{first_below}
use Rattle.std.specs.Prelude.{Some, None, Ok, Err}
use mathlib.Core.Path.{◌≡◌, refl, sym, ap, ap₂, ◌∙◌}
use mathlib.Core.Bool.{true, false}
use mathlib.Core.Logic.{◌⊎◌, inl, inr}
use mathlib.Core.List.{List}
use Prim.Native.Nat.{ℕ, ◌+◌, ◌-◌, ◌/◌, ◌%◌, ◌<◌, ◌≤◌}
use native.Mathlib.Omega.{arith}
use lib.Dec.{leb}
use lib.ListN.{length, get_or}
use borrow.Author.Tests.{lt-ltb, le-ltb, le-leb, leb-true, leb-false, eq-eqb, ne_eqb}
use mir.Val.{Fits}
use mir.Syntax.{w8, w32}
use Rattle.bits.specs.Found.{found_below}
use Rattle.refusals.proofs.Searches.{offence_found, no_offence}
use Rattle.bits.proofs.Logic.{pick_yes, pick_no}
use Rattle.bits.proofs.RowStarts.{start_behind}
use Rattle.refusals.specs.declared.Refusal.TheVariants.{NeededLength}
use Rattle.refusals.specs.declared.Refusal.{Refusal}
use Rattle.refusals.specs.Outcomes.{of_page, not_allowed_at, page_next, offence_tested}
use Rattle.refusals.proofs.AcceptedTests.{held, not_held, held_page, held_offence}
use Rattle.refusals.proofs.Stages.{page_stopped, page_gone_on}
use Rattle.page.specs.Header.{length_said, framed, length_tested}
use Rattle.page.proofs.HeaderTests.{frame_passed, says_most, length-passed, length-needed}
use Rattle.page.proofs.HeaderBothWays.{frame_parts}
use Rattle.configuration_page.specs.Page.{header_place}
use Rattle.configuration_page.specs.Read.{types_on, header_byte, needed_length, fixed_offends, header_offends, text_offends, offends, first_offence, room_tested, bytes_tested, configuration_read}
use Rattle.refusals.specs.Answers.{Answer, PageAnswer}

pub none_offends : (k b : ℕ) → ((k ≡ 1) ⊎ (k ≡ 9) → ⊥) → (k ≡ 8 → ⊥) → (k ≡ 10 → ⊥) → (k ≡ 11 → ⊥) → false ≡ fixed_offends k b
unfolding fixed_offends
none_offends k b h i j l = rw (ne_eqb k 1 (λ e. h (inl e)), ne_eqb k 9 (λ e. h (inr e)), ne_eqb k 8 i, ne_eqb k 10 j, ne_eqb k 11 l)

-- the three parts in which a byte may offend: before the headers, byte j of the header of type t, in a text
pub fixed_at : (p : List ℕ) (k : ℕ) → k < 48 → offends p k ≡ fixed_offends k (get_or p k 0)
unfolding offends
fixed_at p k h = pick_yes _ _ _ (lt-ltb k 48 h)

pub header_at : (p : List ℕ) (t j : ℕ) → t < types_on p → j < 4 → offends p (header_place t + j) ≡ header_offends p t j (header_byte p j t)
unfolding offends
header_at p t j h l =
    let k : ℕ = header_place t + j in
    let q : (k - 48) / 4 ≡ t = omega arith in
    let r : (k - 48) % 4 ≡ j = omega arith in
    pick_no _ _ _ (le-ltb k 48 (omega arith))
    ∙ pick_yes _ _ _ (lt-ltb k (header_place (types_on p)) (omega arith))
    ∙ ap₂ (λ (x y : ℕ). header_offends p x y (get_or p k 0)) q r

pub text_at : (p : List ℕ) (k : ℕ) → header_place (types_on p) ≤ k → offends p k ≡ text_offends (get_or p k 0)
unfolding offends
text_at p k h = pick_no _ _ _ (le-ltb k 48 (omega arith)) ∙ pick_no _ _ _ (le-ltb k (header_place (types_on p)) h)

-- the headers stand before what else is needed
pub headers_there : (p : List ℕ) → length p ≡ needed_length p → header_place (types_on p) ≤ length p
unfolding needed_length
headers_there p e = omega (arith, start_behind (header_place (types_on p)) (header_byte p 3) (types_on p))

-- a page without all its headers is shorter than they need
module _ (p : List ℕ) {n : ℕ} {a : Answer} (h : a ≡ room_tested p n) where
  pub room_there : a ≡ Ok tt → n ≤ length p
  room_there u = leb-true n (length p) (held (leb n (length p)) NeededLength (Ok tt) (sym h ∙ u)).0

  pub no_headers : {r : Refusal} → n ≤ header_place (types_on p) → a ≡ Err r → a ≡ length_tested p (needed_length p)
  unfolding length_tested
  no_headers l u =
      let e = not_held (leb n (length p)) NeededLength h u in
      let f = leb-false n (length p) e.0 in
      u ∙ ap Err e.1 ∙ sym (pick_no _ _ _ (ne_eqb (length p) (needed_length p) (λ k. omega (arith, headers_there p k))))

-- a length that two bytes say
pub length-small : (p : List ℕ) → ((i : ℕ) → Fits w8 (get_or p i 0)) → length_said p ≡ true → Fits w32 (length p)
unfolding length_said
length-small p f e = record { fits = omega (arith, says_most p (length p) (f 2).fits (f 3).fits e) }

-- the search ends where the page does
pub found : (p : List ℕ) {n : ℕ} → length p ≡ n → first_below (offends p) n ≡ first_offence p
unfolding first_offence
found p e = rw e

-- the page's own tests
pub bytes_tested_lem : (p : List ℕ) {n k : ℕ} {r : PageAnswer} → length p ≡ n → k ≡ first_below (offends p) n → r ≡ offence_tested k n (Ok tt) → r ≡ bytes_tested p
unfolding bytes_tested
bytes_tested_lem p e x q = q ∙ rw (x ∙ found p e, ← e)

-- from what the search found
module _ (p : List ℕ) {r : PageAnswer} where
  pub bytes_found : {k : ℕ} → Some k ≡ found_below (offends p) (length p) → r ≡ not_allowed_at k → r ≡ bytes_tested p
  bytes_found e q = bytes_tested_lem p refl refl (offence_found (offends p) (length p) e q)

  pub bytes_passed : None ≡ found_below (offends p) (length p) → r ≡ Ok tt → r ≡ bytes_tested p
  bytes_passed e q = bytes_tested_lem p refl refl (no_offence (offends p) (length p) e q)

-- all of them, one after the other
module _ (p : List ℕ) where
  abbrev rest : PageAnswer
  rest = page_next (length_tested p (needed_length p)) (bytes_tested p)

  module _ {a : Answer} (f : a ≡ framed p 0x01) where
    pub frame_refused : {r : Refusal} {o : PageAnswer} → a ≡ Err r → o ≡ of_page a → o ≡ configuration_read p
    unfolding configuration_read
    frame_refused u q = page_stopped (framed p 0x01) rest f u q

    module _ (u : a ≡ Ok tt) {b : Answer} (l : b ≡ length_tested p (needed_length p)) where
      pub length-refused : {r : Refusal} {o : PageAnswer} → b ≡ Err r → o ≡ of_page b → o ≡ configuration_read p
      unfolding configuration_read
      length-refused v q = page_gone_on (framed p 0x01) rest f u (page_stopped (length_tested p (needed_length p)) (bytes_tested p) l v q)

      module _ (v : b ≡ Ok tt) where
        -- what the page's own tests are given
        pub length_known : (length_said p ≡ true) × (length p ≡ needed_length p)
        length_known = ((frame_parts p 0x01 (sym f ∙ u)).1, length-needed p (needed_length p) (sym l ∙ v))

        pub bytes_last : {d : PageAnswer} → d ≡ bytes_tested p → d ≡ configuration_read p
        unfolding configuration_read
        bytes_last e = page_gone_on (framed p 0x01) rest f u (page_gone_on (length_tested p (needed_length p)) (bytes_tested p) l v e)

  pub read_parts : configuration_read p ≡ Ok tt
      → (get_or p 0 0 ≡ 0x01) × (length_said p ≡ true) × (length p ≡ needed_length p) × (first_offence p ≡ length p)
  unfolding configuration_read bytes_tested
  read_parts e =
      let h1 = held_page (framed p 0x01) rest e in
      let h2 = held_page (length_tested p (needed_length p)) (bytes_tested p) h1.1 in
      let f = frame_parts p 0x01 h1.0 in
      (f.0, f.1, length-needed p (needed_length p) h2.0, (held_offence (first_offence p) (length p) (Ok tt) h2.1).0)

  pub parts_read : 4 ≤ length p → get_or p 0 0 ≡ 0x01 → length_said p ≡ true → length p ≡ needed_length p → first_offence p ≡ length p
      → configuration_read p ≡ Ok tt
  unfolding configuration_read bytes_tested
  parts_read h c s l o =
      let f = frame_passed p 0x01 (le-leb 4 (length p) h) (eq-eqb (get_or p 0 0) 0x01 c) s in
      rw (← f, ← length-passed p (needed_length p) l, eq-eqb (first_offence p) (length p) o)
