-- Each of the six pages is answered by the one order of tests, and so is a page by the code meant. Assumes nothing.
use Rattle.std.specs.Prelude.{Ok, Err}
use mathlib.Core.Path.{◌≡◌, refl, sym, ap, ◌∙◌}
use mathlib.Core.Bool.{Bool, true, false}
use mathlib.Core.List.{List}
use Prim.Native.Nat.{ℕ}
use lib.Dec.{eqb, leb}
use lib.ListN.{length, get_or}
use Rattle.bits.specs.Choice.{pick, first_below}
use Rattle.refusals.specs.declared.Refusal.TheVariants.{ShelfNotWellFormed, PageTooShort, PageCode, PageLength, Generation, NoSuchThreshold, ThresholdOrder, NeededLength}
use Rattle.refusals.specs.Outcomes.{unless, next, of_page, not_allowed_at, offence_tested, page_next}
use Rattle.shelf_formed.specs.Formed.{well_formed, configuration_formed}
use Rattle.page.specs.Slots.{slots_of, slot_place}
use Rattle.page.specs.Header.{length_said, generation_on, generation_of, size_tested, code_tested, said_tested, framed, length_tested, generation_tested, headed, page_tested, configuration_tested}
use Rattle.configuration_page.specs.Read as configuration
use Rattle.descriptor_record.specs.Read as names
use Rattle.status_reading.specs.Read as status
use Rattle.threshold_rows.specs.Rows as rows
use Rattle.threshold_record.specs.Read as limits
use Rattle.control_page.specs.Tests as control
use Rattle.threshold_page_out.specs.Tests as thresholds
use Rattle.collected_page.specs.Meant.{other_tested, meant_tested}
use Rattle.promises.specs.Order.{own_order, order, in_order, configuration_tests, descriptor_tests, status_tests, limit_tests, control_tests, taken_tests, other_tests, meant_tests}
use Rattle.refusals.specs.Answers.{Answer, PageAnswer}

-- the stages of the header, as a list of tests
head_stages : Bool → Bool → Bool → Bool → Bool → Answer
head_stages size code said needed generation =
    next (next (unless size PageTooShort (Ok tt)) (next (unless code PageCode (Ok tt)) (unless said PageLength (Ok tt))))
    (next (unless needed NeededLength (Ok tt)) (unless generation Generation (Ok tt)))

head_order : (size code said needed generation : Bool) (own : PageAnswer)
    → page_next (head_stages size code said needed generation) own ≡ order true size code said needed generation own
unfolding head_stages
head_order true true true true true own = refl
head_order true true true true false own = refl
head_order true true true false g own = refl
head_order true true false n g own = refl
head_order true false s n g own = refl
head_order false c s n g own = refl

join : (a b : Answer) (rest : PageAnswer) → page_next (next a b) rest ≡ page_next a (page_next b rest)
join (Ok _) b rest = refl
join (Err r) b rest = refl

all_order : (formed size code said needed generation : Bool) (own : PageAnswer)
    → page_next (unless formed ShelfNotWellFormed (Ok tt)) (page_next (head_stages size code said needed generation) own)
    ≡ order formed size code said needed generation own
all_order true size code said needed generation own = head_order size code said needed generation own
all_order false size code said needed generation own = refl

-- behind it 7, 8
own_order_lem : (k end : ℕ) (had ordered : Bool)
    → offence_tested k end (next (unless had NoSuchThreshold (Ok tt)) (unless ordered ThresholdOrder (Ok tt))) ≡ own_order k end had ordered
own_order_lem k end had ordered = go (eqb k end) had ordered
  where
    go : (t h o : Bool) → pick t (of_page (next (unless h NoSuchThreshold (Ok tt)) (unless o ThresholdOrder (Ok tt)))) (not_allowed_at k)
        ≡ pick t (pick h (pick o (of_page (Ok tt)) (of_page (Err ThresholdOrder))) (of_page (Err NoSuchThreshold))) (not_allowed_at k)
    go true true true = refl
    go true true false = refl
    go true false o = refl
    go false h o = refl

module _ (c p : List ℕ) (code : ℕ) (own : PageAnswer) where
  abbrev size : Bool
  size = leb 4 (length p)

  abbrev coded : Bool
  coded = eqb (get_or p 0 0) code

  abbrev needed : Bool
  needed = eqb (length p) (slot_place (slots_of c))

  abbrev generation : Bool
  generation = eqb (generation_on p) (generation_of c)

  shelf_order : page_next (page_tested c p code) own ≡ order (well_formed c) size coded (length_said p) needed generation own
  unfolding page_tested headed framed size_tested code_tested said_tested length_said length_tested generation_tested head_stages
  shelf_order =
      let h = head_stages size coded (length_said p) needed generation in
      join (unless (well_formed c) ShelfNotWellFormed (Ok tt)) h own ∙ all_order (well_formed c) size coded (length_said p) needed generation own

  page_order : page_next (configuration_tested c) (page_next (headed c p code (slots_of c)) own)
      ≡ order (configuration_formed c) size coded (length_said p) needed generation own
  unfolding headed framed size_tested code_tested said_tested length_said length_tested generation_tested head_stages
  page_order = all_order (configuration_formed c) size coded (length_said p) needed generation own

pub configuration_order : (p : List ℕ) → configuration.configuration_read p ≡ in_order (configuration_tests p)
unfolding configuration.configuration_read configuration.bytes_tested configuration.first_offence framed size_tested code_tested said_tested length_said length_tested head_stages
configuration_order p =
    let k = first_below (configuration.offends p) (length p) in
    let said = length_said p in
    let needed = eqb (length p) (configuration.needed_length p) in
    let frame = next (unless (leb 4 (length p)) PageTooShort (Ok tt)) (next (unless (eqb (get_or p 0 0) 0x01) PageCode (Ok tt)) (unless said PageLength (Ok tt))) in
    let own = offence_tested k (length p) (Ok tt) in
    sym (join frame (unless needed NeededLength (Ok tt)) own)
    ∙ ap (λ (a : Answer). page_next (next frame a) own) (sym (last needed))
    ∙ head_order (leb 4 (length p)) (eqb (get_or p 0 0) 0x01) said needed true own
    ∙ ap (order true (leb 4 (length p)) (eqb (get_or p 0 0) 0x01) said needed true) (own_order_lem k (length p) true true)
  where
    last : (t : Bool) → next (unless t NeededLength (Ok tt)) (Ok tt) ≡ unless t NeededLength (Ok tt)
    last true = refl
    last false = refl

pub descriptor_order : (c p : List ℕ) → names.names_read c p ≡ in_order (descriptor_tests c p)
unfolding names.names_read names.page_tested names.head_tested names.bytes_tested framed size_tested code_tested said_tested length_said length_tested generation_tested head_stages
descriptor_order c p =
    let n = slots_of c in
    let e = names.place_on p n in
    let k = first_below (names.offends p n) e in
    ap (λ (x : PageAnswer). page_next (configuration_tested c) (page_next (names.head_tested c p n) x)) (own_order_lem k e true true)
    ∙ all_order (configuration_formed c) (leb 4 (length p)) (eqb (get_or p 0 0) 0x07) (length_said p) (eqb (length p) e) (eqb (generation_on p) (generation_of c))
    (own_order k e true true)

pub status_order : (c p : List ℕ) → status.status_read c p ≡ in_order (status_tests c p)
unfolding status.status_read status.status_tested status.bytes_tested status.offence
status_order c p =
    let e = slot_place (slots_of c) in
    ap (λ (x : PageAnswer). page_next (configuration_tested c) (page_next (headed c p 0x02 (slots_of c)) x)) (own_order_lem (first_below (status.offends c p) e) e true true)
    ∙ page_order c p 0x02 (own_order (first_below (status.offends c p) e) e true true)

pub limit_order : (c p : List ℕ) → limits.threshold_read c p ≡ in_order (limit_tests c p)
unfolding limits.threshold_read limits.threshold_tested limits.bytes_tested
limit_order c p =
    let e = slot_place (slots_of c) in
    let h = rows.all_had c p rows.on_page (slots_of c) in
    let o = rows.all_ordered c p rows.on_page (slots_of c) in
    ap (λ (x : PageAnswer). page_next (configuration_tested c) (page_next (headed c p 0x05 (slots_of c)) x)) (own_order_lem (first_below (rows.offends c p) e) e h o)
    ∙ page_order c p 0x05 (own_order (first_below (rows.offends c p) e) e h o)

pub control_order : (s p : List ℕ) → control.control_tested s p ≡ in_order (control_tests s p)
unfolding control.control_tested control.bytes_tested control.offence
control_order s p =
    let e = slot_place (slots_of s) in
    ap (page_next (page_tested s p 0x02)) (own_order_lem (first_below (control.offends s p) e) e true true)
    ∙ shelf_order s p 0x02 (own_order (first_below (control.offends s p) e) e true true)

pub taken_order : (s p : List ℕ) → thresholds.thresholds_tested s p ≡ in_order (taken_tests s p)
unfolding thresholds.thresholds_tested thresholds.bytes_tested thresholds.limits_tested
taken_order s p =
    let e = slot_place (slots_of s) in
    let h = rows.all_had s p rows.on_page (slots_of s) in
    let o = thresholds.all_ordered s p in
    ap (page_next (page_tested s p 0x05)) (own_order_lem (first_below (rows.byte_offends p) e) e h o)
    ∙ shelf_order s p 0x05 (own_order (first_below (rows.byte_offends p) e) e h o)

-- and the page that a code means
other_order : (s p : List ℕ) → of_page (other_tested s p) ≡ in_order (other_tests s p)
unfolding other_tested size_tested
other_order s p = go (well_formed s) (leb 4 (length p))
  where
    go : (a b : Bool) → of_page (next (unless a ShelfNotWellFormed (Ok tt)) (next (unless b PageTooShort (Ok tt)) (Err PageCode)))
        ≡ pick a (pick b (of_page (Err PageCode)) (of_page (Err PageTooShort))) (of_page (Err ShelfNotWellFormed))
    go true true = refl
    go true false = refl
    go false b = refl

pub meant_order : (code : ℕ) (s p : List ℕ) → meant_tested code s p ≡ in_order (meant_tests code s p)
meant_order code s p = go (eqb code 0x02) (eqb code 0x05)
  where
    go : (a b : Bool) → pick a (control.control_tested s p) (pick b (thresholds.thresholds_tested s p) (of_page (other_tested s p)))
        ≡ in_order (pick a (control_tests s p) (pick b (taken_tests s p) (other_tests s p)))
    go true b = control_order s p
    go false true = taken_order s p
    go false false = other_order s p
