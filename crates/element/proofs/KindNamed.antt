-- What a code names, beside what reads it as a type and what tests it. Assumes nothing.
use mathlib.Core.Path.{◌≡◌, refl, sym}
use mathlib.Core.Bool.{Bool, true, false}
use Prim.Native.Nat.{ℕ}
use lib.Dec.{eqb}
use borrow.Author.Tests.{eqb-true, eq-eqb, ne_eqb}
use Rattle.std.proofs.Common.{Some, None}
use Rattle.std.specs.Option.{unwrap_or, is_some}
use Rattle.bits.specs.Choice.{pick}
use Rattle.bits.proofs.Logic.{by_case}
use Rattle.element.specs.declared.types.Kind.TheVariants.{Cooling, Temperature, Voltage, Current}
use Rattle.element.specs.Types.{kind_named, kind_of, served}

picked : (p q r s : Bool) → unwrap_or (pick p (Some Cooling) (pick q (Some Temperature) (pick r (Some Voltage) (pick s (Some Current) None)))) Current
    ≡ pick p Cooling (pick q Temperature (pick r Voltage Current))
picked true q r s = refl
picked false true r s = refl
picked false false true s = refl
picked false false false true = refl
picked false false false false = refl

-- another code reads as Current
pub named_or : (code : ℕ) → unwrap_or (kind_named code) Current ≡ kind_of code
unfolding kind_named kind_of
named_or code = picked (eqb code 3) (eqb code 4) (eqb code 18) (eqb code 19)

-- a code names a type exactly if it is served
pub named_served : (code : ℕ) → is_some (kind_named code) ≡ served code
unfolding kind_named kind_of served
named_served code =
    by_case (eqb code 3) (λ t. rw (eqb-true code 3 t)) (λ p.
    by_case (eqb code 4) (λ t. rw (eqb-true code 4 t)) (λ q.
    by_case (eqb code 18) (λ t. rw (eqb-true code 18 t)) (λ r.
    by_case (eqb code 19) (λ t. rw (eqb-true code 19 t)) (λ s.
    rw (p, q, r, s) (sym (ne_eqb 19 code (λ (e : 19 ≡ code). cc (s, eq-eqb code 19 (sym e)))))))))
