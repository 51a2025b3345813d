-- A name and its descriptor: how long they are, and how a descriptor is put. The descriptors of a page are rows, one after the other.
-- Assumes nothing.
use mathlib.Core.Path.{◌≡◌, refl, sym, ap, ap₂, ◌∙◌}
use mathlib.Core.List.{List, ◌∷◌}
use Prim.Native.Nat.{ℕ, ◌+◌, ◌*◌, ◌/◌, ◌%◌, ◌<◌, ◌≤◌}
use native.Mathlib.Omega.{arith}
use lib.ListN.{length}
use Rattle.bits.specs.Numbers.{bytes}
use Rattle.bits.specs.Places.{put_four}
use Rattle.bits.specs.Rows.{bytes_at, put_bytes}
use Rattle.bits.proofs.Rows.{EndToEnd, four_put_lem}
use Rattle.bits.proofs.RowStarts.{start_step, row_in, start_bound}
use Rattle.bits.proofs.RowsPut.{put_two}
use Rattle.shelf.specs.Limits.{most_text}
use Rattle.names.specs.Name.{name_length, name_at, name_in}
use Rattle.names.proofs.NameBack.{name_bound, length_name}
use Rattle.descriptor_page.specs.Page.{descriptor, width, start_of, HasNames}

pub length-descriptor : (x : List ℕ) → length (descriptor x) ≡ 4 + length x
unfolding descriptor
length-descriptor x = omega arith

pub descriptor_rows : (f : ℕ → List ℕ) → EndToEnd (start_of f) (width f) (λ i. descriptor (f i))
descriptor_rows f i = (length-descriptor (f i), start_step 8 (width f) i)

-- the name at a place
name_bytes : (s : List ℕ) (k : ℕ) {n : ℕ} → n ≡ name_length s k → bytes_at s k n ≡ name_at s k
unfolding name_at
name_bytes s k e = ap (bytes_at s k) e

-- one of those that stand from a place on
module _ (s : List ℕ) (first i : ℕ) where
  pub name_short : length (name_in s first i) ≤ most_text
  unfolding name_in
  name_short = let k = first + most_text * i in omega (arith, length_name s k, name_bound s k)

  module _ {k : ℕ} (e : k ≡ first + most_text * i) where
    pub name_is : name_at s k ≡ name_in s first i
    unfolding name_in
    name_is = ap (name_at s) e

    pub width_is : {n : ℕ} → n ≡ name_length s k → 4 + n ≡ width (name_in s first) i
    width_is q = ap (λ (m : ℕ). 4 + m) (q ∙ sym (length_name s k) ∙ ap length name_is)

    pub put_width : {n : ℕ} → n ≡ 4 + length (name_at s k) → n ≡ width (name_in s first) i
    put_width q = q ∙ ap (λ (x : List ℕ). 4 + length x) name_is

    pub name_there : (n : ℕ) → HasNames s first n → i < n → k + most_text ≤ length s
    name_there n h l = omega (arith, h.2)

-- descriptor i of n stands on the page
pub row_there : (f : ℕ → List ℕ) (n i : ℕ) → i < n → start_of f i + length (descriptor (f i)) ≤ start_of f n
row_there f n i l = omega (arith, length-descriptor (f i), row_in 8 (width f) n i l)

-- the descriptors of names, of which none is too long
pub short_page : (f : ℕ → List ℕ) (n : ℕ) → ((i : ℕ) → i < n → length (f i) ≤ most_text) → start_of f n ≤ 8 + 36 * n
short_page f n h = start_bound 8 (width f) 36 n (λ i l. omega (arith, h i l))

pub names_short : (s : List ℕ) (first n : ℕ) → start_of (name_in s first) n ≤ 8 + 36 * n
names_short s first n = short_page (name_in s first) n (λ i l. name_short s first i)

-- the four bytes of a small number
four_small : (n : ℕ) → n ≤ most_text → bytes 4 n ≡ 0 ∷ 0 ∷ bytes 2 n
four_small n h =
    let a : n / 256 / 256 / 256 % 256 ≡ 0 = omega arith in
    let b : n / 256 / 256 % 256 ≡ 0 = omega arith in
    rw (a, b)

-- from what the calls say: a descriptor is put
module _ (s : List ℕ) (at : ℕ) (out : List ℕ) (place : ℕ) where
  pub descriptor_room : place + length (descriptor (name_at s at)) ≤ length out → place + 4 + name_length s at ≤ length out
  descriptor_room h = omega (arith, length-descriptor (name_at s at), length_name s at)

  pub descriptor_put : {n : ℕ} {h o1 o2 : List ℕ} → place + length (descriptor (name_at s at)) ≤ length out → n ≡ name_length s at
      → h ≡ bytes 4 n → o1 ≡ put_four out place h → o2 ≡ put_bytes o1 (place + 4) (bytes_at s at n)
      → o2 ≡ put_bytes out place (descriptor (name_at s at))
  unfolding descriptor
  descriptor_put {n} h e eh e1 e2 =
      let x = name_at s at in
      let head : List ℕ = 0 ∷ 0 ∷ bytes 2 (length x) in
      let l : n ≡ length x = e ∙ sym (length_name s at) in
      let small = four_small n (omega (arith, e, name_bound s at)) in
      let q = e1 ∙ ap (put_four out place) (eh ∙ small ∙ ap (λ (m : ℕ). 0 ∷ 0 ∷ bytes 2 m) l) ∙ four_put_lem out place head refl in
      e2
      ∙ ap₂ (λ (o r : List ℕ). put_bytes o (place + 4) r) q (name_bytes s at e)
      ∙ put_two out head x place (place + 4) refl (omega (arith, descriptor_room h, length_name s at))
