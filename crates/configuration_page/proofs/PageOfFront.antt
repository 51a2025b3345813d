-- A shelf and its front have the same configuration page; so every page that is accepted is one that some well-formed shelf writes.
-- Assumes nothing.
use Rattle.std.specs.Prelude.{Ok}
use mathlib.Core.Path.{◌≡◌, sym, ap, ap₂, ◌∙◌}
use mathlib.Core.Bool.{true}
use mathlib.Core.List.{List, ◌++◌}
use Prim.Native.Nat.{ℕ, ◌+◌, ◌-◌, ◌<◌}
use native.Mathlib.Omega.{arith}
use Rattle.bits.specs.Numbers.{Bytes}
use Rattle.bits.specs.Rows.{joined, bytes_at}
use Rattle.bits.proofs.Rows.{joined_same, bytes_same}
use Rattle.bits.proofs.RowStarts.{start_same}
use Rattle.shelf.specs.Limits.{most_types, text_place}
use Rattle.shelf.specs.Types.{types_of, text_length}
use Rattle.shelf_formed.specs.Formed.{front_formed, well_formed}
use Rattle.shelf_formed.proofs.ElementTypes.{front_formed_lem}
use Rattle.shelf_formed.proofs.FormedShelf.{few_types, short_text}
use Rattle.shelf_formed.proofs.FrontOfShelf.{front, front_get, types_same, code_same, count_same, text_same}
use Rattle.shelf_formed.proofs.SomeShelf.{some_shelf, some_front, some_shelf_lem}
use Rattle.configuration_page.specs.Page.{header_place, type_header, text_of, configuration_length, fixed_part, configuration_page}
use Rattle.configuration_page.specs.Read.{configuration_read}
use Rattle.configuration_page.specs.Configuration.{configuration_of}
use Rattle.configuration_page.proofs.ReadAndRewritten.{again}

module _ (s : List ℕ) (h : front_formed s ≡ true) where
  abbrev c : List ℕ
  c = front s

  below : (t : ℕ) → t < types_of s → t < most_types
  below t l = omega (arith, few_types s h)

  same_header : (t : ℕ) → t < types_of s → type_header c t ≡ type_header s t
  same_header t l = rw (code_same s t (below t l), count_same s t (below t l), text_same s t (below t l))

  same_text : (t : ℕ) → t < types_of s → text_of c t ≡ text_of s t
  unfolding text_of
  same_text t l =
      ap (bytes_at c (text_place t)) (text_same s t (below t l))
      ∙ bytes_same c s (text_place t) (text_place t) (text_length s t)
      (λ i m. front_get s (text_place t + i) (omega (arith, below t l, short_text s h t l)))

  same_length_lem : configuration_length c ≡ configuration_length s
  unfolding configuration_length
  same_length_lem = rw (types_same s) (start_same (header_place (types_of s)) (text_length c) (text_length s) (types_of s) (λ t l. text_same s t (below t l)))

  same_fixed : (n : ℕ) → fixed_part c n ≡ fixed_part s n
  unfolding fixed_part
  same_fixed n =
      rw (
        front_get s 0 (omega arith),
        front_get s 1 (omega arith),
        front_get s 2 (omega arith),
        front_get s 3 (omega arith),
        types_same s,
        bytes_same c s 4 4 36 (λ i l. front_get s (4 + i) (omega arith)),
      )

  pub page_front : configuration_page c ≡ configuration_page s
  unfolding configuration_page
  page_front =
      let n = types_of s in
      ap₂ (λ (x y : List ℕ). x ++ joined (type_header c) (types_of c) ++ y) (same_fixed (configuration_length c - 4) ∙ ap (λ (m : ℕ). fixed_part s (m - 4)) same_length_lem)
      (ap (joined (text_of c)) (types_same s) ∙ joined_same (text_of c) (text_of s) n same_text)
      ∙ ap (λ (x : List ℕ). fixed_part s (configuration_length s - 4) ++ x ++ joined (text_of s) n)
      (ap (joined (type_header c)) (types_same s) ∙ joined_same (type_header c) (type_header s) n same_header)

-- so what a well-formed shelf couldn't have written is refused
pub some_writes : (p : List ℕ) → Bytes p → configuration_read p ≡ Ok tt → (s : List ℕ) × (well_formed s ≡ true) × (configuration_page s ≡ p)
some_writes p b a =
    let e = again p b a in
    let s = some_shelf (configuration_of p) in
    let w = some_shelf_lem (configuration_of p) e.0 in
    (s, w, sym (page_front s (front_formed_lem s w)) ∙ ap configuration_page (some_front (configuration_of p) e.0) ∙ e.1)
