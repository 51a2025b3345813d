-- The tests of a page, of all six pages alike: the first that does not pass is the answer. Assumes nothing.
use Rattle.std.specs.Prelude.{◌≡◌, Bool, true, false, List, ℕ, ◌<◌, eqb, leb, length, get_or, Ok, Err}
use Rattle.bits.specs.Choice.{pick, first_below}
use Rattle.refusals.specs.declared.Refusal.{Refusal}
use Rattle.refusals.specs.declared.Refusal.TheVariants.{ShelfNotWellFormed, PageTooShort, PageCode, PageLength, Generation, NoSuchThreshold, ThresholdOrder, NeededLength}
use Rattle.refusals.specs.Outcomes.{of_page, not_allowed_at}
use Rattle.shelf_formed.specs.Formed.{well_formed, configuration_formed}
use Rattle.page.specs.Slots.{slots_of, slot_place}
use Rattle.page.specs.Header.{length_said, generation_on, generation_of}
use Rattle.configuration_page.specs.Read as configuration
use Rattle.descriptor_record.specs.Read as names
use Rattle.status_reading.specs.Read as status
use Rattle.threshold_rows.specs.Rows as rows
use Rattle.control_page.specs.Tests as control
use Rattle.threshold_page_out.specs.Tests as thresholds
use Rattle.refusals.specs.Answers.{PageAnswer}

-- which tests a page passes, under their numbers; 6 is a test of each byte up to the end
pub record Tests : Type 0 where
  -- 1
  pub formed : Bool
  -- 2, 3
  pub size : Bool
  pub code : Bool
  -- 4, 12
  pub said : Bool
  pub needed : Bool
  -- 5
  pub generation : Bool
  -- 6
  pub offends : ℕ → Bool
  pub end : ℕ
  -- 7, 8
  pub had : Bool
  pub ordered : Bool

abbrev pub refusing : Refusal → PageAnswer
refusing r = of_page (Err r)

-- 6, 7, 8, where the search for an offending byte ended at k
abbrev pub own_order : ℕ → ℕ → Bool → Bool → PageAnswer
own_order k end had ordered =
    pick (eqb k end)
    (pick had
    (pick ordered (Ok tt) (refusing ThresholdOrder))
    (refusing NoSuchThreshold))
    (not_allowed_at k)

-- before that 1, 2, 3, 4, 12, 5
abbrev pub order : Bool → Bool → Bool → Bool → Bool → Bool → PageAnswer → PageAnswer
order formed size code said needed generation own =
    pick formed
    (pick size
    (pick code
    (pick said
    (pick needed
    (pick generation own
    (refusing Generation))
    (refusing NeededLength))
    (refusing PageLength))
    (refusing PageCode))
    (refusing PageTooShort))
    (refusing ShelfNotWellFormed)

abbrev pub in_order : Tests → PageAnswer
in_order t =
    order t.formed t.size t.code t.said t.needed t.generation
    (own_order (first_below t.offends t.end) t.end t.had t.ordered)

-- every test before 6 passes
abbrev pub PassesTo6 : Tests → Type 0
PassesTo6 t =
    (t.formed ≡ true) × (t.size ≡ true) × (t.code ≡ true) × (t.said ≡ true) × (t.needed ≡ true) × (t.generation ≡ true)

-- k is the place of an offending byte, and no byte before it offends
abbrev pub FirstOffending : (ℕ → Bool) → ℕ → Type 0
FirstOffending offends k = (offends k ≡ true) × ((i : ℕ) → i < k → offends i ≡ false)

-- for C, of a call on a page: 6 tells the first offending byte, which is not byte 0; every other answer tells 0
abbrev pub OffsetTold : Tests → (ℕ → List ℕ → ℕ → Type 0) → Type 0
OffsetTold t P =
    (n : ℕ) (o : List ℕ) (k : ℕ) → P n o k → (n ≡ 6 → FirstOffending t.offends k × (k ≡ 0 → ⊥)) × ((n ≡ 6 → ⊥) → k ≡ 0)

-- the tests of a page with slots, for the types of c
abbrev pub slot_tests : Bool → List ℕ → List ℕ → ℕ → (ℕ → Bool) → Bool → Bool → Tests
slot_tests formed c p code offends had ordered = record {
  formed = formed;
  size = leb 4 (length p);
  code = eqb (get_or p 0 0) code;
  said = length_said p;
  needed = eqb (length p) (slot_place (slots_of c));
  generation = eqb (generation_on p) (generation_of c);
  offends = offends;
  end = slot_place (slots_of c);
  had = had;
  ordered = ordered;
}

-- of each page: configuration, names, status, threshold status, control, threshold control
abbrev pub configuration_tests : List ℕ → Tests
configuration_tests p = record {
  formed = true;
  size = leb 4 (length p);
  code = eqb (get_or p 0 0) 0x01;
  said = length_said p;
  needed = eqb (length p) (configuration.needed_length p);
  generation = true;
  offends = configuration.offends p;
  end = length p;
  had = true;
  ordered = true;
}

abbrev pub descriptor_tests : List ℕ → List ℕ → Tests
descriptor_tests c p = record {
  formed = configuration_formed c;
  size = leb 4 (length p);
  code = eqb (get_or p 0 0) 0x07;
  said = length_said p;
  needed = eqb (length p) (names.place_on p (slots_of c));
  generation = eqb (generation_on p) (generation_of c);
  offends = names.offends p (slots_of c);
  end = names.place_on p (slots_of c);
  had = true;
  ordered = true;
}

abbrev pub status_tests : List ℕ → List ℕ → Tests
status_tests c p = slot_tests (configuration_formed c) c p 0x02 (status.offends c p) true true

abbrev pub limit_tests : List ℕ → List ℕ → Tests
limit_tests c p =
    slot_tests (configuration_formed c) c p 0x05 (rows.offends c p) (rows.all_had c p rows.on_page (slots_of c)) (rows.all_ordered c p rows.on_page (slots_of c))

abbrev pub control_tests : List ℕ → List ℕ → Tests
control_tests s p = slot_tests (well_formed s) s p 0x02 (control.offends s p) true true

abbrev pub taken_tests : List ℕ → List ℕ → Tests
taken_tests s p =
    slot_tests (well_formed s) s p 0x05 (rows.byte_offends p) (rows.all_had s p rows.on_page (slots_of s)) (thresholds.all_ordered s p)

-- where another code is meant, no page has it
abbrev pub other_tests : List ℕ → List ℕ → Tests
other_tests s p = record {
  formed = well_formed s;
  size = leb 4 (length p);
  code = false;
  said = true;
  needed = true;
  generation = true;
  offends = λ k. false;
  end = 0;
  had = true;
  ordered = true;
}

abbrev pub meant_tests : ℕ → List ℕ → List ℕ → Tests
meant_tests code s p = pick (eqb code 0x02) (control_tests s p) (pick (eqb code 0x05) (taken_tests s p) (other_tests s p))
