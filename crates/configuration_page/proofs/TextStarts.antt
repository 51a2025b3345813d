-- What a page tells of a type that it has and past its last, and where the text of each starts. Assumes nothing.
use Rattle.std.specs.Prelude.{Ok}
use mathlib.Core.Path.{◌≡◌, sym, ap, ◌∙◌}
use mathlib.Core.List.{List, [], ◌∷◌, ◌++◌}
use Prim.Native.Nat.{ℕ, ◌+◌, ◌*◌, ◌-◌, ◌<◌, ◌≤◌}
use native.Mathlib.Nat.{add-zero}
use native.Mathlib.Omega.{arith}
use lib.Dec.{ltb}
use lib.ListN.{length, get_or, replicate}
use borrow.Author.Tests.{leb-true, lt-ltb, le-ltb, ltb-true, ltb-false}
use Rattle.bits.specs.Choice.{sum_below}
use Rattle.bits.specs.Places.{four_at}
use Rattle.bits.specs.Rows.{joined, one_at, bytes_at, row_start}
use Rattle.bits.proofs.Logic.{by_case, pick_yes, pick_no}
use Rattle.bits.proofs.Parts.{zeros_behind}
use Rattle.bits.proofs.Rows.{joined_same}
use Rattle.bits.proofs.RowStarts.{row_in, start_bound, start_same}
use Rattle.bits.proofs.Sums.{sum_same, sum_past}
use Rattle.shelf.specs.Limits.{most_types, most_text}
use Rattle.configuration_page.specs.Page.{header_place}
use Rattle.configuration_page.specs.Read.{types_on, header_byte, text_place_on, configuration_read}
use Rattle.configuration_page.specs.Configuration.{told_byte, told_start, text_byte, one_told, head_told, text_told}
use Rattle.configuration_page.proofs.AcceptedPage.{needed_passed, types_passed, text_short}

pub told_byte_lem : (p : List ℕ) (t j : ℕ) → t < types_on p → told_byte p j t ≡ header_byte p j t
unfolding told_byte
told_byte_lem p t j h = pick_yes _ _ _ (lt-ltb t (types_on p) h)

-- past the last type a page tells zeros
pub past_byte : (p : List ℕ) (t j : ℕ) → types_on p ≤ t → told_byte p j t ≡ 0
unfolding told_byte
past_byte p t j h = pick_no _ _ _ (le-ltb t (types_on p) h)

pub told_head : (p : List ℕ) (t : ℕ) {e : List ℕ} → t < types_on p → e ≡ four_at p (header_place t)
    → get_or e 0 0 ∷ get_or e 1 0 ∷ get_or e 3 0 ∷ 0 ∷ [] ≡ head_told p t
unfolding head_told
told_head p t h e =
    let z : get_or p (header_place t + 0) 0 ≡ get_or p (header_place t) 0 = ap (λ (k : ℕ). get_or p k 0) (add-zero (header_place t)) in
    rw (e, told_byte_lem p t 0 h ∙ z, told_byte_lem p t 1 h, told_byte_lem p t 3 h)

pub past_head : (p : List ℕ) (t : ℕ) → types_on p ≤ t → 0 ∷ 0 ∷ 0 ∷ 0 ∷ [] ≡ head_told p t
unfolding head_told
past_head p t h = rw (past_byte p t 0 h, past_byte p t 1 h, past_byte p t 3 h)

pub head_length : (p : List ℕ) (t : ℕ) {e : List ℕ} → e ≡ head_told p t → get_or e 2 0 ≡ told_byte p 3 t
unfolding head_told
head_length p t e = ap (λ (l : List ℕ). get_or l 2 0) e

-- so the sum over all types is that over the types that the page has
pub told_sum : (p : List ℕ) (j m : ℕ) → types_on p ≤ m → sum_below (told_byte p j) m ≡ sum_below (header_byte p j) (types_on p)
told_sum p j m h =
    sum_past (told_byte p j) (types_on p) m h (λ t l k. past_byte p t j l)
    ∙ sum_same (told_byte p j) (header_byte p j) (types_on p) (λ t l. told_byte_lem p t j l)

-- the texts start where the page has them, and past the last type where they end
start_there : (p : List ℕ) (t : ℕ) → t < types_on p → told_start p t ≡ text_place_on p t
start_there p t h = start_same (header_place (types_on p)) (told_byte p 3) (header_byte p 3) t (λ i l. told_byte_lem p i 3 (omega arith))

start_past : (p : List ℕ) (m : ℕ) → types_on p ≤ m → told_start p m ≡ text_place_on p (types_on p)
unfolding row_start
start_past p m h = ap (λ (k : ℕ). header_place (types_on p) + k) (told_sum p 3 m h)

text_byte_lem : (p : List ℕ) (t i : ℕ) → i < told_byte p 3 t → text_byte p t i ≡ get_or p (told_start p t + i) 0
unfolding text_byte
text_byte_lem p t i h =
    pick_yes _ _ _ (lt-ltb i (told_byte p 3 t) h)
    ∙ by_case (ltb t (types_on p)) (λ e. ap (λ (k : ℕ). get_or p (k + i) 0) (sym (start_there p t (ltb-true t (types_on p) e))))
    (λ e. absurd (omega (arith, past_byte p t 3 (ltb-false t (types_on p) e))))

-- a text and the zeros behind it
pub told_text : (p : List ℕ) (t : ℕ) → told_byte p 3 t ≤ most_text
    → text_told p t ≡ bytes_at p (told_start p t) (told_byte p 3 t) ++ replicate (most_text - told_byte p 3 t) 0
unfolding text_told text_byte bytes_at
told_text p t h =
    let n = told_byte p 3 t in
    let e : most_text ≡ n + (most_text - n) = omega arith in
    ap (joined (one_told p t)) e
    ∙ zeros_behind (one_told p t) n (most_text - n) (λ i l. ap (λ (b : ℕ). b ∷ []) (pick_no _ _ _ (le-ltb i n l)))
    ∙ ap (λ (r : List ℕ). r ++ replicate (most_text - n) 0)
    (joined_same (one_told p t) (one_at p (told_start p t)) n (λ i l. ap (λ (b : ℕ). b ∷ []) (text_byte_lem p t i l)))

-- an accepted page has all its texts, and none is too long
module _ (p : List ℕ) (a : configuration_read p ≡ Ok tt) where
  pub few_types : types_on p ≤ most_types
  few_types = leb-true (types_on p) most_types (types_passed p a).1

  pub told_short : (t : ℕ) → told_byte p 3 t ≤ most_text
  told_short t =
      by_case (ltb t (types_on p))
      (λ e. let l = ltb-true t (types_on p) e in rw (told_byte_lem p t 3 l) (leb-true (header_byte p 3 t) most_text (text_short p a t l)))
      (λ e. rw (past_byte p t 3 (ltb-false t (types_on p) e)) (omega arith))

  pub told_in : (t : ℕ) → t < most_types → told_start p t + told_byte p 3 t ≤ length p
  told_in t h =
      omega (arith, needed_passed p a, start_past p most_types few_types, row_in (header_place (types_on p)) (told_byte p 3) most_types t h)

  pub start_small : (t : ℕ) → told_start p t ≤ header_place most_types + most_text * t
  start_small t = omega (arith, few_types, start_bound (header_place (types_on p)) (told_byte p 3) most_text t (λ i l. told_short i))

  pub text_done : (t : ℕ) {x : List ℕ} {k n : ℕ} → k ≡ told_start p t → n ≡ told_byte p 3 t → x ≡ bytes_at p k n ++ replicate (most_text - n) 0 → x ≡ text_told p t
  text_done t ek en ex = ex ∙ rw (ek, en) (sym (told_text p t (told_short t)))
