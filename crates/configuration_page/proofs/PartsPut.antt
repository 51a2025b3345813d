-- The parts of a page, and those of a configuration, put one after the other. Assumes nothing.
use mathlib.Core.Path.{◌≡◌, refl, sym, ap₂, ◌∙◌}
use mathlib.Core.List.{List, [], ◌∷◌, ◌++◌}
use Prim.Native.Nat.{ℕ, ◌+◌, ◌<◌, ◌≤◌, ◌-◌}
use native.Mathlib.Omega.{arith}
use mathlib.Core.Bool.{true}
use lib.ListN.{length, get_or, length-append}
use Rattle.bits.specs.Numbers.{bytes}
use Rattle.bits.specs.Places.{four_at, put_four, fours_put}
use Rattle.bits.specs.Rows.{joined, bytes_at, put_bytes, rows_put}
use Rattle.bits.proofs.Rows.{EndToEnd, rows_end, four_put_lem, length-joined, length-bytes_at, bytes_whole}
use Rattle.bits.proofs.RowStarts.{start_first, start_step, start_behind, row_in, start_bound}
use Rattle.bits.proofs.RowsPut.{put_behind, four_behind, put_two, fours_rows, rows_behind}
use Rattle.refusals.specs.Outcomes.{placed}
use Rattle.shelf.specs.Limits.{most_types, most_text, type_size, type_place, text_place, HasTypes}
use Rattle.shelf.specs.Types.{types_of, text_length}
use Rattle.shelf_formed.specs.Formed.{front_formed}
use Rattle.shelf_formed.proofs.FormedShelf.{few_types, short_text}
use Rattle.configuration_page.specs.Page.{header_place, type_header, text_of, text_start, configuration_length, fixed_part, configuration_page}
use Rattle.configuration_page.specs.Read.{types_on}
use Rattle.configuration_page.specs.Configuration.{one_told, head_told, text_told, type_told, configuration_of}

-- of a well-formed front, each text stands in its place and on its page
module _ (s : List ℕ) (w : front_formed s ≡ true) where
  pub text_there : (t : ℕ) → t < types_of s → text_place t + text_length s t ≤ type_place most_types
  text_there t h = omega (arith, few_types s w, short_text s w t h)

  pub short : configuration_length s ≤ 336
  unfolding configuration_length
  short =
      omega
      (arith, few_types s w, start_bound (header_place (types_of s)) (text_length s) most_text (types_of s) (λ t l. short_text s w t l))

pub text_in : (s : List ℕ) (t : ℕ) → t < types_of s → text_start s t + text_length s t ≤ configuration_length s
unfolding configuration_length
text_in s t h = row_in (header_place (types_of s)) (text_length s) (types_of s) t h

-- all headers stand before the first text
pub headers_first : (s : List ℕ) {n : ℕ} → n ≡ configuration_length s → header_place (types_of s) ≤ n
unfolding configuration_length
headers_first s e = omega (arith, start_behind (header_place (types_of s)) (text_length s) (types_of s))

-- the fixed part, behind it a header for each type, and behind them a text for each
pub length-fixed : (s : List ℕ) (n : ℕ) → length (fixed_part s n) ≡ 48
unfolding fixed_part
length-fixed s n = simp length-bytes_at

pub header_rows : (s : List ℕ) → EndToEnd header_place (λ t. 4) (type_header s)
header_rows s t = (refl, omega arith)

pub text_rows : (s : List ℕ) → EndToEnd (text_start s) (text_length s) (text_of s)
unfolding text_of
text_rows s t = (length-bytes_at s (text_place t) (text_length s t), start_step (header_place (types_of s)) (text_length s) t)

module _ (s : List ℕ) (n : ℕ) where
  pub headers_end : length (fixed_part s n ++ joined (type_header s) (types_of s)) ≡ header_place (types_of s)
  headers_end = rows_end header_place (λ t. 4) (type_header s) (header_rows s) (fixed_part s n) (length-fixed s n) (types_of s)

  pub texts_begin : length (fixed_part s n ++ joined (type_header s) (types_of s)) ≡ text_start s 0
  texts_begin = headers_end ∙ sym (start_first (header_place (types_of s)) (text_length s))

pub length-page : (s : List ℕ) → length (configuration_page s) ≡ configuration_length s
unfolding configuration_page configuration_length
length-page s =
    let n = configuration_length s - 4 in
    rows_end (text_start s) (text_length s) (text_of s) (text_rows s) (fixed_part s n ++ joined (type_header s) (types_of s)) (texts_begin s n) (types_of s)

-- from what the calls say: the fixed part, and the page whole
pub fixed_placed : (s : List ℕ) (n : ℕ) (out : List ℕ) {k : ℕ} {g f o1 o2 o3 o4 : List ℕ}
    → 48 ≤ length out → k ≡ types_of s → g ≡ bytes 4 n → o1 ≡ put_four out 0 (0x01 ∷ 0 ∷ get_or g 2 0 ∷ get_or g 3 0 ∷ []) → f ≡ four_at s 0 → o2 ≡ put_four o1 4 f
    → o3 ≡ put_four o2 8 (0x11 ∷ 0 ∷ k ∷ 0x24 ∷ []) → o4 ≡ put_bytes o3 12 (bytes_at s 4 36) → o4 ≡ placed (fixed_part s n) out
unfolding fixed_part
fixed_placed s n out {k} {g} {f} {o1} {o2} {o3} h ek eg e1 ef e2 e3 e4 =
    let a : List ℕ = 0x01 ∷ 0 ∷ bytes 2 n in
    let b : List ℕ = a ++ four_at s 0 in
    let types : List ℕ = 0x11 ∷ 0 ∷ types_of s ∷ 0x24 ∷ [] in
    let p1 : o1 ≡ placed a out = e1 ∙ rw eg (four_behind [] out a 0 refl refl (omega arith)) in
    let p2 : o2 ≡ placed b out = e2 ∙ rw (p1, ef) (four_behind a out (four_at s 0) 4 refl refl (omega arith)) in
    let p3 : o3 ≡ placed (b ++ types) out = e3 ∙ rw (p2, ek) (four_behind b out types 8 refl refl (omega arith)) in
    e4 ∙ rw p3 (put_behind (b ++ types) out (bytes_at s 4 36) 12 refl (rw (length-bytes_at s 4 36) (omega arith)))

pub page_placed : (s out : List ℕ) {n k : ℕ} {o1 o2 o3 : List ℕ}
    → n ≡ configuration_length s → n ≤ length out → k ≡ types_of s → o1 ≡ placed (fixed_part s (n - 4)) out → o2 ≡ fours_put header_place (type_header s) o1 k
    → o3 ≡ rows_put (text_start s) (text_of s) o2 k → o3 ≡ placed (configuration_page s) out
unfolding configuration_page configuration_length
page_placed s out {n} {k} {o1} {o2} en l ek e1 e2 e3 =
    let m = types_of s in
    let f = fixed_part s (configuration_length s - 4) in
    let headers = joined (type_header s) m in
    let p1 : o1 ≡ placed f out = rw en at e1 in
    let p2 : o2 ≡ placed (f ++ headers) out =
    e2
    ∙ rw (p1, ek)
    (fours_rows header_place (type_header s) (placed f out) (λ t. refl) m
    ∙ rows_behind header_place (λ t. 4) (type_header s) (header_rows s) f (length-fixed s (configuration_length s - 4)) out m (omega (arith, headers_first s en))) in
    e3
    ∙ rw (p2, ek)
    (rows_behind (text_start s) (text_length s) (text_of s) (text_rows s) (f ++ headers) (texts_begin s (configuration_length s - 4)) out m (rw en at l))

-- what a page tells of each type
length-told : (p : List ℕ) (t : ℕ) → length (text_told p t) ≡ most_text
unfolding text_told
length-told p t = length-joined (one_told p t) 1 (λ i. refl) most_text

pub length_type : (p : List ℕ) (t : ℕ) → length (type_told p t) ≡ type_size
unfolding type_told head_told
length_type p t = length-append (head_told p t) (text_told p t) ∙ rw (length-told p t)

pub type_rows : (p : List ℕ) → EndToEnd type_place (λ t. type_size) (type_told p)
type_rows p t = (length_type p t, omega arith)

-- what stands before them
module _ (p : List ℕ) where
  pub identification_end : length (four_at p 4 ++ bytes_at p 12 36) ≡ 40
  identification_end = length-append (four_at p 4) (bytes_at p 12 36) ∙ rw (length-bytes_at p 12 36)

  pub types_begin : length (four_at p 4 ++ bytes_at p 12 36 ++ (types_on p ∷ 0 ∷ 0 ∷ 0 ∷ [])) ≡ type_place 0
  types_begin = length-append (four_at p 4 ++ bytes_at p 12 36) (types_on p ∷ 0 ∷ 0 ∷ 0 ∷ []) ∙ rw identification_end

pub length-configuration : (p : List ℕ) → length (configuration_of p) ≡ type_place most_types
unfolding configuration_of
length-configuration p =
    let front = four_at p 4 ++ bytes_at p 12 36 ++ (types_on p ∷ 0 ∷ 0 ∷ 0 ∷ []) in
    rows_end type_place (λ t. type_size) (type_told p) (type_rows p) front (types_begin p) most_types

-- from what the calls say: a type, and the configuration whole
pub type_put : (p : List ℕ) (t : ℕ) (c : List ℕ) {a b : ℕ} {h x o1 o2 : List ℕ}
    → t < most_types → HasTypes c → h ≡ head_told p t → x ≡ text_told p t → a ≡ type_place t → o1 ≡ put_four c a h → b ≡ text_place t
    → o2 ≡ put_bytes o1 b (bytes_at x 0 32) → o2 ≡ put_bytes c (type_place t) (type_told p t)
unfolding type_told head_told
type_put p t c l r eh ex ea e1 eb e2 =
    let head = head_told p t in
    let text = text_told p t in
    let n = length-told p t in
    e2
    ∙ rw (e1, ea, eb, eh, ex)
    (ap₂ (λ (o f : List ℕ). put_bytes o (text_place t) f) (four_put_lem c (type_place t) head refl) (bytes_whole text 32 n)
    ∙ put_two c head text (type_place t) (text_place t) refl (rw n (omega arith)))

pub record_placed : (p c : List ℕ) {n : ℕ} {f o1 o2 o3 o4 : List ℕ}
    → HasTypes c → n ≡ types_on p → f ≡ four_at p 4 → o1 ≡ put_four c 0 f → o2 ≡ put_bytes o1 4 (bytes_at p 12 36) → o3 ≡ put_four o2 40 (n ∷ 0 ∷ 0 ∷ 0 ∷ [])
    → o4 ≡ rows_put type_place (type_told p) o3 most_types → o4 ≡ placed (configuration_of p) c
unfolding configuration_of
record_placed p c {n} {f} {o1} {o2} {o3} h en ef e1 e2 e3 e4 =
    let named = four_at p 4 ++ bytes_at p 12 36 in
    let types : List ℕ = types_on p ∷ 0 ∷ 0 ∷ 0 ∷ [] in
    let p1 : o1 ≡ placed (four_at p 4) c = e1 ∙ rw ef (four_behind [] c (four_at p 4) 0 refl refl (omega arith)) in
    let p2 : o2 ≡ placed named c = e2 ∙ rw p1 (put_behind (four_at p 4) c (bytes_at p 12 36) 4 refl (rw (length-bytes_at p 12 36) (omega arith))) in
    let p3 : o3 ≡ placed (named ++ types) c = e3 ∙ rw (p2, en) (four_behind named c types 40 (identification_end p) refl (omega arith)) in
    e4 ∙ rw p3 (rows_behind type_place (λ t. type_size) (type_told p) (type_rows p) (named ++ types) (types_begin p) c most_types h)
