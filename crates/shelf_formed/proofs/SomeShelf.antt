-- Every well-formed configuration is the front of a well-formed shelf. Assumes nothing.
use mathlib.Core.Path.{◌≡◌, sym, ap, ap₂, ◌∙◌}
use mathlib.Core.Bool.{true}
use mathlib.Core.List.{List, ◌++◌, append_assoc}
use Prim.Native.Nat.{ℕ, ◌+◌, ◌*◌, ◌<◌}
use native.Mathlib.Nat.{add-zero}
use native.Mathlib.Omega.{arith}
use lib.Dec.{eqb}
use lib.ListN.{length, get_or, take, replicate, length-append, length-replicate}
use lib.Seq.{take_at, take_all}
use borrow.Author.Tests.{eqb-true, eq-eqb}
use Rattle.bits.specs.Choice.{all_below}
use Rattle.bits.specs.Numbers.{big}
use Rattle.bits.specs.Places.{two_at, four_at}
use Rattle.bits.specs.Rows.{joined}
use Rattle.bits.proofs.Logic.{and_left, and_right, and_both, below_all}
use Rattle.bits.proofs.Rows.{EndToEnd, rows_end, row_get}
use Rattle.element.specs.declared.types.Kind.{Kind}
use Rattle.element.specs.Settings.{fields_formed}
use Rattle.element.proofs.TypeFacts.{least, least_length, least_formed}
use Rattle.shelf.specs.Limits.{most_text, element_place, block_length}
use Rattle.shelf.specs.Types.{types_of, elements_of, kind_at}
use Rattle.shelf.specs.Elements.{settings_at, thresholds_at, reading_at, nominal_at, spare_at}
use Rattle.shelf_formed.specs.Formed.{zeros, spare_clear, element_formed, elements_formed, front_formed, configuration_formed, well_formed}
use Rattle.shelf_formed.proofs.FrontOfShelf.{front, types_alike, elements_alike, kind_alike, front_alike}

module _ (c : List ℕ) where
  -- of each element the least that its type may have
  abbrev row : ℕ → List ℕ
  row j = least (kind_at c j)

  -- and no name
  unfoldable pub no_names : List ℕ
  no_names = replicate (most_text * (types_of c + elements_of c)) 0

  abbrev pub some_shelf : List ℕ
  some_shelf = c ++ joined row (elements_of c) ++ no_names

  rows : EndToEnd element_place (λ i. 16) row
  rows i = (least_length (kind_at c i), omega arith)

  module _ (h : configuration_formed c ≡ true) where
    length_is : length c ≡ element_place 0
    unfolding configuration_formed
    length_is = eqb-true (length c) (element_place 0) (and_right (front_formed c) (eqb (length c) (element_place 0)) h)

    pub some_front : front some_shelf ≡ c
    some_front =
        ap (λ (x : List ℕ). take (element_place 0) x) (append_assoc c (joined row (elements_of c)) no_names)
        ∙ take_at c (joined row (elements_of c) ++ no_names) (element_place 0) length_is

    front_is : front some_shelf ≡ front c
    front_is = some_front ∙ sym (take_all (element_place 0) c (omega (arith, length_is)))

    byte : (j q : ℕ) → j < elements_of c → q < 16 → get_or some_shelf (element_place j + q) 0 ≡ get_or (row j) q 0
    byte j q l m = row_get element_place (λ i. 16) row rows c length_is (elements_of c) no_names j q l m

    four : (j q : ℕ) → j < elements_of c → q + 3 < 16 → four_at some_shelf (element_place j + q) ≡ four_at (row j) q
    four j q l m = rw (byte j q l (omega arith), at 1 (omega arith), at 2 (omega arith), at 3 (omega arith))
      where
        at : (k : ℕ) → k < 4 → get_or some_shelf (element_place j + q + k) 0 ≡ get_or (row j) (q + k) 0
        at k b =
            let e : element_place j + q + k ≡ element_place j + (q + k) = omega arith in
            ap (λ (x : ℕ). get_or some_shelf x 0) e ∙ byte j (q + k) l (omega arith)

    element : (j : ℕ) → j < elements_of c → element_formed some_shelf j ≡ true
    unfolding element_formed spare_clear settings_at thresholds_at reading_at nominal_at spare_at
    element j l =
        let k : kind_at some_shelf j ≡ kind_at c j = kind_alike c some_shelf front_is j l in
        let a = four j 4 l (omega arith) in
        let b = ap (λ (e : List ℕ). big (two_at e 0)) (four j 8 l (omega arith)) in
        let d = ap (λ (e : List ℕ). big (two_at e 0)) (four j 10 l (omega arith)) in
        let s = ap (four_at some_shelf) (sym (add-zero (element_place j))) ∙ four j 0 l (omega arith) in
        and_both (fields k a b d s) (ap zeros (four j 12 l (omega arith)))
      where
        fields : {x : Kind} {e t : List ℕ} {r n : ℕ} → x ≡ kind_at c j → t ≡ four_at (row j) 4 → r ≡ big (two_at (row j) 8) → n ≡ big (two_at (row j) 10)
            → e ≡ four_at (row j) 0 → fields_formed x e t r n ≡ true
        fields p q u v w = rw (p, q, u, v, w) (least_formed (kind_at c j))

    length_some : length some_shelf ≡ block_length (types_of c) (elements_of c)
    unfolding no_names
    length_some =
        length-append (c ++ joined row (elements_of c)) no_names
        ∙ rw (rows_end element_place (λ i. 16) row rows c length_is (elements_of c), length-replicate {A = ℕ} (most_text * (types_of c + elements_of c)) 0)

    pub some_shelf_lem : well_formed some_shelf ≡ true
    unfolding well_formed elements_formed configuration_formed
    some_shelf_lem =
        let n : elements_of some_shelf ≡ elements_of c = elements_alike c some_shelf front_is in
        and_both
        (and_both (front_alike c some_shelf front_is ∙ and_left (front_formed c) (eqb (length c) (element_place 0)) h)
        (eq-eqb (length some_shelf) (block_length (types_of some_shelf) (elements_of some_shelf)) (length_some ∙ ap₂ block_length (sym (types_alike c some_shelf front_is)) (sym n))))
        (ap (all_below (element_formed some_shelf)) n ∙ below_all (element_formed some_shelf) (elements_of c) element)
