-- What request One changed of the answers, and what not: a length that the types do not need was 4, and 6 told no offset. Assumes nothing.
use Rattle.std.specs.Prelude.{Ok, Err}
use mathlib.Core.Path.{◌≡◌, refl}
use mathlib.Core.Bool.{Bool, true, false, ◌&&◌}
use Prim.Native.Nat.{ℕ}
use lib.Dec.{eqb}
use Rattle.bits.specs.Choice.{pick, first_below}
use Rattle.refusals.specs.declared.Refusal.{Refusal}
use Rattle.refusals.specs.declared.Refusal.TheVariants.{ShelfNotWellFormed, PageTooShort, PageCode, PageLength, Generation, NotAllowed, NoSuchThreshold, ThresholdOrder, WantedList, Unreachable, OutputTooShort, NeededLength, NoSuchElement}
use Rattle.refusals.specs.Outcomes.{unless, not_allowed_at}
use Rattle.promises.specs.Order.{Tests, own_order, order, in_order}
use Rattle.refusals.specs.Answers.{Answer, PageAnswer}

-- the tests as they were: 4 is given for either length
pub before : Tests → Answer
before t =
    unless t.formed ShelfNotWellFormed
    (unless t.size PageTooShort
    (unless t.code PageCode
    (unless (t.said && t.needed) PageLength
    (unless t.generation Generation
    (unless (eqb (first_below t.offends t.end) t.end) NotAllowed
    (unless t.had NoSuchThreshold
    (unless t.ordered ThresholdOrder (Ok tt))))))))

-- an answer as it would have been given
pub older : Refusal → Refusal
older ShelfNotWellFormed = ShelfNotWellFormed
older PageTooShort = PageTooShort
older PageCode = PageCode
older PageLength = PageLength
older Generation = Generation
older NotAllowed = NotAllowed
older NoSuchThreshold = NoSuchThreshold
older ThresholdOrder = ThresholdOrder
older WantedList = WantedList
older Unreachable = Unreachable
older OutputTooShort = OutputTooShort
older NeededLength = PageLength
older NoSuchElement = NoSuchElement

pub was : PageAnswer → Answer
was (Ok _) = Ok tt
was (Err r) = Err (older r.refusal)

-- 4 is 4 or 12 now, and every other answer is as it was
pub as_before : (t : Tests) → was (in_order t) ≡ before t
unfolding before older was
as_before t = go t.formed t.size t.code t.said t.needed t.generation
  where
    k : ℕ
    k = first_below t.offends t.end

    own : (d h o : Bool) → was (pick d (own_order 0 0 h o) (not_allowed_at k))
        ≡ unless d NotAllowed (unless h NoSuchThreshold (unless o ThresholdOrder (Ok tt)))
    own true true true = refl
    own true true false = refl
    own true false o = refl
    own false h o = refl

    go : (f s c a n g : Bool) → was (order f s c a n g (own_order k t.end t.had t.ordered))
        ≡ unless f ShelfNotWellFormed
        (unless s PageTooShort
        (unless c PageCode
        (unless (a && n) PageLength
        (unless g Generation
        (unless (eqb k t.end) NotAllowed
        (unless t.had NoSuchThreshold
        (unless t.ordered ThresholdOrder (Ok tt))))))))
    go true true true true true true = own (eqb k t.end) t.had t.ordered
    go true true true true true false = refl
    go true true true true false g = refl
    go true true true false n g = refl
    go true true false a n g = refl
    go true false c a n g = refl
    go false s c a n g = refl
