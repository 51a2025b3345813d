-- The part of a control page for the elements of one type, m of them: stored settings e i and wanted ones w i. Assumes nothing.
use Rattle.std.specs.Prelude.{List, ◌++◌, ℕ, ◌%◌, eqb, leb}
use Rattle.bits.specs.Choice.{pick}
use Rattle.bits.specs.Bits.{num}
use Rattle.bits.specs.Rows.{joined}
use Rattle.build_order.specs.Search.{Search}
use Rattle.element.specs.declared.types.Kind.{Kind}
use Rattle.element.specs.declared.settings.Settings.{Settings}
use Rattle.element.specs.Settings.{settings_of}
use Rattle.element_control.specs.Control.{selected, control_of}
use Rattle.build_element.specs.Wishes.{silent, request_bytes, request_for, brings, one}

-- SELECT as a number
abbrev pub selects : List ℕ → ℕ
selects c = num (selected c)

-- the individual elements under the overall element o
abbrev pub under : Kind → (ℕ → List ℕ) → (ℕ → List ℕ) → List ℕ → ℕ → List ℕ
under k e w o i = one k (control_of k o) (e i) (w i)

-- the part: the overall element, and those under it
abbrev pub part : Kind → (ℕ → List ℕ) → (ℕ → List ℕ) → ℕ → List ℕ → List ℕ
part k e w m o = o ++ joined (under k e w o) m

-- what is tried for a wanted record: speed code 0 and the wanted one, each with RST SWAP 0 and 1
unfoldable pub tried : Kind → List ℕ → ℕ → List ℕ
tried k x v = let s : Settings = settings_of k x in request_bytes k (request_for s (eqb (v % 2) 1) (pick (leb 2 v) s.speed 0))

-- how many of these differ: a record without a speed has only the first two
unfoldable pub tries : Kind → List ℕ → ℕ
tries k x = pick (eqb (settings_of k x).speed 0) 2 4

-- the overall element is searched: from the unselected one on, by the SELECTs of the part
abbrev pub overall_search : Kind → (ℕ → List ℕ) → (ℕ → List ℕ) → ℕ → Search
overall_search k e w m = record {
  many = m;
  wanted = w;
  start = silent;
  tried = tried k;
  tries = tries k;
  serves = λ o i. brings k (control_of k o) (e i) (w i);
  alone = selects;
}
