-- The cases that document 01 marks M, and those of requests One to Five. Assumes nothing.
use Rattle.std.specs.Prelude.{◌≡◌, true, List, [], ◌∷◌, ◌++◌, ℕ, ◌*◌, ◌-◌, ◌≤◌, length, replicate}
use Rattle.bits.specs.Bits.{num}
use Rattle.bits.specs.Numbers.{Bytes}
use Rattle.bits.specs.Places.{four_at}
use Rattle.element.specs.declared.types.Kind.{Kind}
use Rattle.element.specs.declared.types.Kind.TheVariants.{Cooling, Temperature, Voltage, Current}
use Rattle.element.specs.declared.verdict.Verdict.{Verdict}
use Rattle.element.specs.Settings.{settings_of}
use Rattle.element.specs.Types.{verdict_of}
use Rattle.element.specs.Status.{shown_by, status_bytes}
use Rattle.refusals.specs.Numbers.{page_number, page_offset, answer_number}
use Rattle.shelf_formed.specs.Formed.{well_formed}
use Rattle.page.specs.Slots.{slot_place}
use Rattle.control_page.specs.Tests.{control_tested}
use Rattle.names.specs.Found.{found, element_found}
use Rattle.descriptor_page.specs.Page.{names_page}
use Rattle.descriptor_record.specs.Read.{names_read}
use Rattle.status_page.specs.Page.{status_page}
use Rattle.collector.specs.Collector.{HasRoom, count_of, page_of, collected, collected_all, joined_all, emptied}
use Rattle.collected_page.specs.Meant.{meant_tested}
use Rattle.build_page.specs.Outcome.{built_of, left_by, BuildAnswer}
use Rattle.build_page.specs.Promise.{selects_on, Reaching, Promised}

pub data Case : Type 0 where
  -- an element of the type with these settings, reading, nominal and thresholds shows these bytes
  shows : Kind → List ℕ → ℕ → ℕ → List ℕ → List ℕ → Case
  -- reading, nominal and thresholds of a sensor without settings give this code and these limit bits, in the order of the thresholds
  judges : Kind → ℕ → ℕ → List ℕ → List ℕ → Case
  -- A with these fans has this status page
  tells : List ℕ → List ℕ → Case
  -- A with these fans gets this control page for these wanted settings, with so many SELECTs
  builds : List ℕ → List ℕ → List ℕ → ℕ → Case
  -- this page brings it there too, with so many SELECTs, and none with the same overall element has fewer
  reaches : List ℕ → List ℕ → List ℕ → ℕ → Case
  -- these wanted settings are refused by this number
  refuses : List ℕ → List ℕ → ℕ → Case
  -- A with these fans answers this control page by this number and this offset
  answers : List ℕ → List ℕ → ℕ → ℕ → Case
  -- A with these fans, of which the middle one has this name and nothing else has one, has this page of names
  describes : List ℕ → List ℕ → List ℕ → Case
  -- and there this text finds the element with this number
  finds : List ℕ → List ℕ → List ℕ → ℕ → Case
  -- a page of names, read with A's configuration, is answered by this number and this offset
  reads : List ℕ → ℕ → ℕ → Case
  -- a collector that counts so many bytes counts so many after a chunk of this length
  counts : ℕ → ℕ → ℕ → Case
  -- A with these fans: where these bytes and so many zeros behind them were put, the end of the page, with this code meant, is answered by this number
  -- and this offset
  ends : List ℕ → List ℕ → ℕ → ℕ → ℕ → ℕ → Case

abbrev pub limits : Verdict → List ℕ
limits v = v.code ∷ num v.highcrit ∷ num v.highwarn ∷ num v.lowwarn ∷ num v.lowcrit ∷ []

-- settings or thresholds of which none is set
abbrev pub none : List ℕ
none = 0 ∷ 0 ∷ 0 ∷ 0 ∷ []

-- A's types: one, 03h, with three fans and the text "Fan"
abbrev pub types_a : List ℕ
types_a = (1 ∷ 0 ∷ 0 ∷ 0 ∷ []) ++ (0x03 ∷ 3 ∷ 3 ∷ 0 ∷ 0x46 ∷ 0x61 ∷ 0x6e ∷ []) ++ replicate 29 0 ++ replicate 252 0

-- A's configuration: generation 7, the identification and the types
abbrev pub front_a : List ℕ → List ℕ
front_a identification = (0 ∷ 0 ∷ 0 ∷ 7 ∷ []) ++ identification ++ types_a

-- A: behind that the fans and the names
abbrev pub shelf_a : List ℕ → List ℕ → List ℕ → List ℕ
shelf_a identification fans names = front_a identification ++ (fans ++ names)

-- it is so of A with these fans, whatever its 36 identification bytes and the 32 of each of its four names are
abbrev pub OfA : List ℕ → (List ℕ → Type 0) → Type 0
OfA fans P =
    (identification names : List ℕ) → Bytes identification → length identification ≡ 36 → Bytes names → length names ≡ 4 * 32
    → P (shelf_a identification fans names)

-- A's names where the middle fan is called x and nothing else has a name: for the type and for each fan 32 bytes, zeros behind a name
abbrev pub middle_named : List ℕ → List ℕ
middle_named x = replicate 32 0 ++ replicate 32 0 ++ (x ++ replicate (32 - length x) 0) ++ replicate 32 0

-- it is so of A with these fans and that name, whatever its identification is
abbrev pub OfNamed : List ℕ → List ℕ → (List ℕ → Type 0) → Type 0
OfNamed fans x P = (identification : List ℕ) → length identification ≡ 36 → P (shelf_a identification fans (middle_named x))

-- What the definitions and the builder's promise say of a shelf s. It is well formed, and has the status page p
abbrev pub HasStatus : List ℕ → List ℕ → Type 0
HasStatus p s = (well_formed s ≡ true) × (status_page s ≡ p)

-- for the wish w it gets the page p with n SELECTs, in whatever output buffer holds it
abbrev pub Gets : List ℕ → List ℕ → ℕ → List ℕ → Type 0
Gets w p n s = (out : List ℕ) → Promised s w out (built_of p n out) (left_by (built_of p n out) p out)

-- the page p brings it to the wish w, with n SELECTs, and no page that does has the same first slot and fewer
abbrev pub ReachedBy : List ℕ → List ℕ → ℕ → List ℕ → Type 0
ReachedBy w p n s =
    Reaching s w p × (selects_on s p ≡ n)
    × ((q : List ℕ) → Reaching s w q → four_at q (slot_place 0) ≡ four_at p (slot_place 0) → n ≤ selects_on s q)

-- the wish w is refused by the number n, and every output buffer is left as it was
abbrev pub RefusedBy : List ℕ → ℕ → List ℕ → Type 0
RefusedBy w n s = (out : List ℕ) → (r : BuildAnswer) × Promised s w out r out × (answer_number r ≡ n)

-- it answers the control page p by the number n and the offset k
abbrev pub Answers : List ℕ → ℕ → ℕ → List ℕ → Type 0
Answers p n k s = (page_number (control_tested s p) ≡ n) × (page_offset (control_tested s p) ≡ k)

-- it is well formed, and has the page of names p
abbrev pub HasNames : List ℕ → List ℕ → Type 0
HasNames p s = (well_formed s ≡ true) × (names_page s ≡ p)

-- no refusal, and the text x finds the element with the number j
abbrev pub Finds : List ℕ → ℕ → List ℕ → Type 0
Finds x j s = (answer_number (found s x) ≡ 0) × (element_found (found s x) ≡ j)

-- with the configuration c the page of names p is answered by the number n and the offset k
abbrev pub ReadsNames : List ℕ → ℕ → ℕ → List ℕ → Type 0
ReadsNames p n k c = (page_number (names_read c p) ≡ n) × (page_offset (names_read c p) ≡ k)

-- whatever else the collector holds
abbrev pub Counts : ℕ → ℕ → ℕ → Type 0
Counts n l m = (c x : List ℕ) → HasRoom c → count_of c ≡ n → length x ≡ l → count_of (collected c x) ≡ m

-- however the bytes p are cut into chunks, and whatever the collector held before it was made empty: the answer at the end is the number n and the offset k
abbrev pub EndsBy : List ℕ → ℕ → ℕ → ℕ → List ℕ → Type 0
EndsBy p code n k s =
    (c : List ℕ) (xs : List (List ℕ)) → HasRoom c → joined_all xs ≡ p
    → (page_number (meant_tested code s (page_of (collected_all (emptied c) xs))) ≡ n)
    × (page_offset (meant_tested code s (page_of (collected_all (emptied c) xs))) ≡ k)

abbrev pub Holds : Case → Type 0
Holds (shows k s r n t b) = status_bytes k (shown_by k (settings_of k s) r n t) ≡ b
Holds (judges k r n t v) = limits (verdict_of k (settings_of k none) r n t) ≡ v
Holds (tells f p) = OfA f (HasStatus p)
Holds (builds f w p n) = OfA f (Gets w p n)
Holds (reaches f w p n) = OfA f (ReachedBy w p n)
Holds (refuses f w n) = OfA f (RefusedBy w n)
Holds (answers f p n k) = OfA f (Answers p n k)
Holds (describes f x p) = OfNamed f x (HasNames p)
Holds (finds f x y j) = OfNamed f x (Finds y j)
Holds (reads p n k) = (identification : List ℕ) → length identification ≡ 36 → ReadsNames p n k (front_a identification)
Holds (counts n l m) = Counts n l m
Holds (ends f x z code n k) = OfA f (EndsBy (x ++ replicate z 0) code n k)

abbrev pub AllHold : List Case → Type 0
AllHold [] = Unit {0}
AllHold (c ∷ cs) = Holds c × AllHold cs

-- no limit trips; the high critical one does; the high warning one does
abbrev fine : List ℕ
fine = 1 ∷ 0 ∷ 0 ∷ 0 ∷ 0 ∷ []

abbrev high_critical : List ℕ
high_critical = 2 ∷ 1 ∷ 0 ∷ 0 ∷ 0 ∷ []

abbrev high_warning : List ℕ
high_warning = 3 ∷ 0 ∷ 1 ∷ 0 ∷ 0 ∷ []

-- high critical h alone, and high warning h alone
abbrev critical : ℕ → List ℕ
critical h = h ∷ 0 ∷ 0 ∷ 0 ∷ []

abbrev pub warning : ℕ → List ℕ
warning h = 0 ∷ h ∷ 0 ∷ 0 ∷ []

-- settings of a fan that is ON, at this speed
abbrev on : ℕ → List ℕ
on n = 0 ∷ 0 ∷ 0 ∷ n ∷ []

-- a fan with these settings, and a reading below 256
abbrev fan_at : List ℕ → ℕ → List ℕ
fan_at e r = e ++ none ++ (0 ∷ r ∷ 0 ∷ 0 ∷ []) ++ none

-- a fan of A: ON, SPEED 3
abbrev fan : ℕ → List ℕ
fan r = fan_at (on 0x23) r

-- the fans of A as they are told
abbrev fans_a : List ℕ
fans_a = fan 120 ++ fan 120 ++ fan 120

-- fans with the speeds 3, 4, 5, and the settings of the same with IDENT
abbrev pub three_speeds : List ℕ
three_speeds = fan_at (on 0x23) 120 ++ fan_at (on 0x24) 120 ++ fan_at (on 0x25) 120

abbrev pub identified : List ℕ
identified = (0x00 ∷ 0x80 ∷ 0x00 ∷ 0x23 ∷ []) ++ (0x00 ∷ 0x80 ∷ 0x00 ∷ 0x24 ∷ []) ++ (0x00 ∷ 0x80 ∷ 0x00 ∷ 0x25 ∷ [])

-- the header of a control page, with this length and generation code
abbrev heading : ℕ → ℕ → List ℕ
heading l g = 0x02 ∷ 0x00 ∷ 0x00 ∷ l ∷ 0x00 ∷ 0x00 ∷ 0x00 ∷ g ∷ []

-- a control page for A: its overall element, and the three individual ones
abbrev pub control : List ℕ → List ℕ → List ℕ → List ℕ → List ℕ
control o x y z = heading 0x14 0x07 ++ o ++ x ++ y ++ z

-- elements of a page: one that asks for SPEED 5, one that keeps a fan ON at its speed, one that asks for IDENT beside that, one without SELECT
abbrev pub requests : List ℕ
requests = 0x80 ∷ 0x00 ∷ 0x00 ∷ 0x25 ∷ []

abbrev pub keeps : List ℕ
keeps = 0x80 ∷ 0x00 ∷ 0x00 ∷ 0x20 ∷ []

abbrev pub identifies : List ℕ
identifies = 0x80 ∷ 0x80 ∷ 0x00 ∷ 0x20 ∷ []

abbrev pub silent : List ℕ
silent = 0x00 ∷ 0x00 ∷ 0x00 ∷ 0x00 ∷ []

-- request Three: the fans of A with the middle one stopped, and this SPEED stored of it
abbrev pub middle_off : ℕ → List ℕ
middle_off n = fan 120 ++ fan_at (0x00 ∷ 0x00 ∷ 0x00 ∷ n ∷ []) 120 ++ fan 120

-- what is wanted there: the middle fan ON at SPEED 5
abbrev pub middle_on : List ℕ
middle_on = on 0x23 ++ on 0x25 ++ on 0x23

-- the status page of such an A: the middle fan has code 1, its reading, OFF and nothing else
abbrev pub stopped_page : List ℕ
stopped_page =
    (0x02 ∷ 0x00 ∷ 0x00 ∷ 0x14 ∷ 0x00 ∷ 0x00 ∷ 0x00 ∷ 0x07 ∷ [])
    ++ (0x01 ∷ 0x00 ∷ 0x00 ∷ 0x00 ∷ [])
    ++ (0x01 ∷ 0x00 ∷ 0x78 ∷ 0x23 ∷ [])
    ++ (0x01 ∷ 0x00 ∷ 0x78 ∷ 0x10 ∷ [])
    ++ (0x01 ∷ 0x00 ∷ 0x78 ∷ 0x23 ∷ [])

abbrev pub stopped_fans : List Case
stopped_fans =
    -- SPEED 3 or 5 is stored, and the status page is the same
    tells (middle_off 3) stopped_page
    ∷ tells (middle_off 5) stopped_page
    -- the builder goes on from the stored SPEED: 5 is asked for, or kept by speed code 0
    ∷ builds (middle_off 3) middle_on (control silent silent requests silent) 1
    ∷ builds (middle_off 5) middle_on (control silent silent keeps silent) 1
    -- the middle fan is stopped, and its SPEED is what it was
    ∷ builds fans_a (on 0x23 ++ (0x00 ∷ 0x00 ∷ 0x00 ∷ 0x03 ∷ []) ++ on 0x23) (control silent silent (0x80 ∷ 0x00 ∷ 0x00 ∷ 0x00 ∷ []) silent) 1
    -- none shows a speed: SPEED 7; IDENT, FAIL and SPEED 5; PRDFAIL, DISABLED, SWAP and SPEED 1, with the highest reading
    ∷ shows Cooling (0x00 ∷ 0x00 ∷ 0x00 ∷ 0x07 ∷ []) 0 0 none (0x01 ∷ 0x00 ∷ 0x00 ∷ 0x10 ∷ [])
    ∷ shows Cooling (0x00 ∷ 0x80 ∷ 0x00 ∷ 0x45 ∷ []) 0 0 none (0x01 ∷ 0x80 ∷ 0x00 ∷ 0x50 ∷ [])
    ∷ shows Cooling (0x70 ∷ 0x00 ∷ 0x00 ∷ 0x01 ∷ []) 2047 0 none (0x71 ∷ 0x07 ∷ 0xff ∷ 0x10 ∷ [])
    ∷ []

-- "Fan rear left"
abbrev rear_left : List ℕ
rear_left = 0x46 ∷ 0x61 ∷ 0x6e ∷ 0x20 ∷ 0x72 ∷ 0x65 ∷ 0x61 ∷ 0x72 ∷ 0x20 ∷ 0x6c ∷ 0x65 ∷ 0x66 ∷ 0x74 ∷ []

-- a page of names for A, with this length: the descriptor of the middle fan says n bytes, and the others have no text
abbrev described : ℕ → ℕ → List ℕ → List ℕ
described l n x =
    (0x07 ∷ 0x00 ∷ 0x00 ∷ l ∷ 0x00 ∷ 0x00 ∷ 0x00 ∷ 0x07 ∷ []) ++ silent ++ silent ++ ((0x00 ∷ 0x00 ∷ 0x00 ∷ n ∷ []) ++ x) ++ silent

-- request Four: the header of a control page of generation 7, with this length in two bytes
abbrev saying : ℕ → ℕ → List ℕ
saying h l = 0x02 ∷ 0x00 ∷ h ∷ l ∷ 0x00 ∷ 0x00 ∷ 0x00 ∷ 0x07 ∷ []

abbrev pub from_the_bus : List Case
from_the_bus =
    -- a chunk without bytes; one that passes the largest page; the count stops at 65,540
    counts 24 0 24
    ∷ counts 290 10 300
    ∷ counts 65539 0 65539
    ∷ counts 65539 1 65540
    ∷ counts 65540 1 65540
    ∷ counts 0 70000 65540
    -- SPEED 5 for all is accepted, where the page meant is 02h; where another is meant: 3; no bytes at all: 2
    ∷ ends fans_a (control requests silent silent silent) 0 0x02 0 0
    ∷ ends fans_a (control requests silent silent silent) 0 0x07 3 0
    ∷ ends fans_a [] 0 0x02 2 0
    ∷ ends fans_a [] 0 0x07 2 0
    -- a reserved bit: 6, where it stands; a byte more than it says: 4
    ∷ ends fans_a (control silent silent (0x88 ∷ 0x00 ∷ 0x00 ∷ 0x20 ∷ []) silent) 0 0x02 6 16
    ∷ ends fans_a (control requests silent silent silent) 1 0x02 4 0
    -- 297 bytes that say so: 12; 296 that say 297: 4
    ∷ ends fans_a (saying 0x01 0x25) 289 0x02 12 0
    ∷ ends fans_a (saying 0x01 0x25) 288 0x02 4 0
    -- FFFFh says 65,539 bytes: 12 for as many, 4 for one more and for any more
    ∷ ends fans_a (saying 0xff 0xff) 65531 0x02 12 0
    ∷ ends fans_a (saying 0xff 0xff) 65532 0x02 4 0
    ∷ ends fans_a (saying 0xff 0xff) 131067 0x02 4 0
    -- the same with another code on the page, or meant: 3
    ∷ ends fans_a (saying 0xff 0xff) 65532 0x05 3 0
    ∷ ends fans_a (saying 0xff 0xff) 65532 0x07 3 0
    ∷ []

-- request Five: settings of a sensor with FAIL
abbrev pub failed : List ℕ
failed = 0x00 ∷ 0x40 ∷ 0x00 ∷ 0x00 ∷ []

abbrev pub shown_fail : List Case
shown_fail =
    -- temperature byte 64 with high warning 64 shows the stored FAIL; byte 65 shows it with it stored as without
    shows Temperature none 64 0 (warning 64) (0x01 ∷ 0x00 ∷ 0x40 ∷ 0x00 ∷ [])
    ∷ shows Temperature failed 64 0 (warning 64) (0x01 ∷ 0x40 ∷ 0x40 ∷ 0x00 ∷ [])
    ∷ shows Temperature failed 65 0 (warning 64) (0x03 ∷ 0x40 ∷ 0x41 ∷ 0x04 ∷ [])
    -- no reading: code 6 lights nothing
    ∷ shows Temperature none 0 0 (warning 64) (0x06 ∷ 0x00 ∷ 0x00 ∷ 0x00 ∷ [])
    ∷ shows Temperature failed 0 0 (warning 64) (0x06 ∷ 0x40 ∷ 0x00 ∷ 0x00 ∷ [])
    -- N 1,200, high critical 20: 1,320 and 1,321
    ∷ shows Voltage none 1320 1200 (critical 20) (0x01 ∷ 0x00 ∷ 0x05 ∷ 0x28 ∷ [])
    ∷ shows Voltage none 1321 1200 (critical 20) (0x02 ∷ 0x42 ∷ 0x05 ∷ 0x29 ∷ [])
    ∷ shows Current none 1320 1200 (critical 20) (0x01 ∷ 0x00 ∷ 0x05 ∷ 0x28 ∷ [])
    ∷ shows Current none 1321 1200 (critical 20) (0x02 ∷ 0x42 ∷ 0x05 ∷ 0x29 ∷ [])
    -- N 350, high warning 5: 358 and 359
    ∷ shows Voltage none 358 350 (warning 5) (0x01 ∷ 0x00 ∷ 0x01 ∷ 0x66 ∷ [])
    ∷ shows Voltage none 359 350 (warning 5) (0x03 ∷ 0x48 ∷ 0x01 ∷ 0x67 ∷ [])
    ∷ shows Current none 358 350 (warning 5) (0x01 ∷ 0x00 ∷ 0x01 ∷ 0x66 ∷ [])
    ∷ shows Current none 359 350 (warning 5) (0x03 ∷ 0x48 ∷ 0x01 ∷ 0x67 ∷ [])
    -- a fan ON with reading 0 has code 2, and FAIL only if, as here, it is stored
    ∷ shows Cooling (on 0x63) 0 0 none (0x02 ∷ 0x00 ∷ 0x00 ∷ 0x63 ∷ [])
    ∷ []

abbrev pub table : List Case
table =
    -- A's status, whole
    tells fans_a
    ((0x02 ∷ 0x00 ∷ 0x00 ∷ 0x14 ∷ 0x00 ∷ 0x00 ∷ 0x00 ∷ 0x07 ∷ [])
    ++ (0x01 ∷ 0x00 ∷ 0x00 ∷ 0x00 ∷ [])
    ++ (0x01 ∷ 0x00 ∷ 0x78 ∷ 0x23 ∷ [])
    ++ (0x01 ∷ 0x00 ∷ 0x78 ∷ 0x23 ∷ [])
    ++ (0x01 ∷ 0x00 ∷ 0x78 ∷ 0x23 ∷ []))
    -- a fan ON with reading 0: code 2, page byte 1 is 02h
    ∷ tells (fan 120 ++ fan 0 ++ fan 120)
    ((0x02 ∷ 0x02 ∷ 0x00 ∷ 0x14 ∷ 0x00 ∷ 0x00 ∷ 0x00 ∷ 0x07 ∷ [])
    ++ (0x02 ∷ 0x00 ∷ 0x00 ∷ 0x00 ∷ [])
    ++ (0x01 ∷ 0x00 ∷ 0x78 ∷ 0x23 ∷ [])
    ++ (0x02 ∷ 0x00 ∷ 0x00 ∷ 0x23 ∷ [])
    ++ (0x01 ∷ 0x00 ∷ 0x78 ∷ 0x23 ∷ []))
    -- fans of A: ON, SPEED 3, reading 120
    ∷ shows Cooling (on 0x23) 120 0 none (0x01 ∷ 0x00 ∷ 0x78 ∷ 0x23 ∷ [])
    -- wanted SPEED 5 for all, for the middle fan, for the first two
    ∷ builds fans_a (on 0x25 ++ on 0x25 ++ on 0x25) (control requests silent silent silent) 1
    ∷ builds fans_a (on 0x23 ++ on 0x25 ++ on 0x23) (control silent silent requests silent) 1
    ∷ builds fans_a (on 0x25 ++ on 0x25 ++ on 0x23) (control silent requests requests silent) 2
    -- two SELECTs either way: the overall element asks all for it, and the third fan's own keeps that one as it is
    ∷ reaches fans_a (on 0x25 ++ on 0x25 ++ on 0x23) (control requests silent silent keeps) 2
    -- stored speeds 3, 4, 5, wanted IDENT on all
    ∷ builds three_speeds identified (control identifies silent silent silent) 1
    -- only the first fan has SWAP, wanted cleared
    ∷ builds (fan_at (0x10 ∷ 0x00 ∷ 0x00 ∷ 0x23 ∷ []) 120 ++ fan 120 ++ fan 120) (on 0x23 ++ on 0x23 ++ on 0x23)
    (control silent (0x90 ∷ 0x00 ∷ 0x00 ∷ 0x20 ∷ []) silent silent)
    1
    -- wanted equal to stored: no SELECT
    ∷ builds fans_a (on 0x23 ++ on 0x23 ++ on 0x23) (control silent silent silent silent) 0
    -- wanted SWAP 1 over stored 0: refusal 10
    ∷ refuses fans_a ((0x10 ∷ 0x00 ∷ 0x00 ∷ 0x23 ∷ []) ++ on 0x23 ++ on 0x23) 10
    -- a fan ON with reading 0: code 2
    ∷ shows Cooling (on 0x23) 0 0 none (0x02 ∷ 0x00 ∷ 0x00 ∷ 0x23 ∷ [])
    -- temperature byte 64 with high warning 64, and byte 65, which shows FAIL by request Five
    ∷ judges Temperature 64 0 (warning 64) fine
    ∷ judges Temperature 65 0 (warning 64) high_warning
    ∷ shows Temperature none 65 0 (warning 64) (0x03 ∷ 0x40 ∷ 0x41 ∷ 0x04 ∷ [])
    -- N 1,200, high critical 20
    ∷ judges Voltage 1320 1200 (critical 20) fine
    ∷ judges Voltage 1321 1200 (critical 20) high_critical
    ∷ judges Current 1320 1200 (critical 20) fine
    ∷ judges Current 1321 1200 (critical 20) high_critical
    -- N 350, high warning 5
    ∷ judges Voltage 358 350 (warning 5) fine
    ∷ judges Voltage 359 350 (warning 5) high_warning
    ∷ judges Current 358 350 (warning 5) fine
    ∷ judges Current 359 350 (warning 5) high_warning
    -- V −1, N 1,200, low critical 20: CRIT UNDER and, by request Five, FAIL, bytes FF FF
    ∷ shows Voltage none 0xffff 1200 (0 ∷ 0 ∷ 0 ∷ 20 ∷ []) (0x02 ∷ 0x41 ∷ 0xff ∷ 0xff ∷ [])
    -- request One. 23 or 25 bytes whose length field says 24: 4
    ∷ answers fans_a (heading 0x14 0x07 ++ replicate 15 0) 4 0
    ∷ answers fans_a (heading 0x14 0x07 ++ replicate 17 0) 4 0
    -- 28 bytes that agree with their length field, where A's types need 24: 12, whatever the generation code
    ∷ answers fans_a (heading 0x18 0x07 ++ replicate 20 0) 12 0
    ∷ answers fans_a (heading 0x18 0x08 ++ replicate 20 0) 12 0
    -- 24 bytes of another generation: 5
    ∷ answers fans_a (heading 0x14 0x08 ++ replicate 16 0) 5 0
    -- a reserved bit in byte 0 of the middle fan's element: 6 at 16, whatever stands behind it
    ∷ answers fans_a (control silent silent (0x88 ∷ 0x00 ∷ 0x00 ∷ 0x20 ∷ []) silent) 6 16
    ∷ answers fans_a (control silent silent (0x88 ∷ 0x00 ∷ 0x01 ∷ 0x20 ∷ []) (0x81 ∷ 0x00 ∷ 0x00 ∷ 0x20 ∷ [])) 6 16
    -- request Two. A's names, whole: 8 + 4 × 4 + 13 bytes
    ∷ describes fans_a rear_left
    ((0x07 ∷ 0x00 ∷ 0x00 ∷ 0x21 ∷ 0x00 ∷ 0x00 ∷ 0x00 ∷ 0x07 ∷ [])
    ++ (0x00 ∷ 0x00 ∷ 0x00 ∷ 0x00 ∷ [])
    ++ (0x00 ∷ 0x00 ∷ 0x00 ∷ 0x00 ∷ [])
    ++ (0x00 ∷ 0x00 ∷ 0x00 ∷ 0x0d ∷ 0x46 ∷ 0x61 ∷ 0x6e ∷ 0x20 ∷ 0x72 ∷ 0x65 ∷ 0x61 ∷ 0x72 ∷ 0x20 ∷ 0x6c ∷ 0x65 ∷ 0x66 ∷ 0x74 ∷ [])
    ++ (0x00 ∷ 0x00 ∷ 0x00 ∷ 0x00 ∷ []))
    -- its name finds the middle fan, no text the first fan, which has none, and "Fan" nothing
    ∷ finds fans_a rear_left rear_left 1
    ∷ finds fans_a rear_left [] 0
    ∷ finds fans_a rear_left (0x46 ∷ 0x61 ∷ 0x6e ∷ []) 0xffffffff
    -- a text of 32 bytes, and one of 33 that fits the page: 6 at its length, and not 12
    ∷ reads (described 0x34 0x20 (replicate 32 0x7e)) 0 0
    ∷ reads (described 0x35 0x21 (replicate 33 0x7e)) 6 18
    -- a byte more or less than its length says: 12
    ∷ reads (described 0x22 0x0d (rear_left ++ (0x20 ∷ []))) 12 0
    ∷ reads (described 0x21 0x0e rear_left) 12 0
    -- 20h and 7Eh are printable, 1Fh and 7Fh not: 6 where they stand
    ∷ reads (described 0x16 0x02 (0x20 ∷ 0x7e ∷ [])) 0 0
    ∷ reads (described 0x16 0x02 (0x1f ∷ 0x7e ∷ [])) 6 20
    ∷ reads (described 0x16 0x02 (0x20 ∷ 0x7f ∷ [])) 6 21
    -- requests Three to Five
    ∷ (stopped_fans ++ (from_the_bus ++ shown_fail))
