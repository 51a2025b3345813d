-- A sensor shows FAIL exactly if it is stored or the code is 2 or 3, which is where a limit trips; a fan exactly if it is stored. A control page
-- that clears it leaves it showing as long as a limit trips, and the reader hands back what is shown. Assumes nothing.
use Rattle.std.specs.Prelude.{Ok}
use mathlib.Core.Path.{◌≡◌, refl, sym, ap, subst, ◌∙◌}
use mathlib.Core.Bool.{Bool, true, false, ◌||◌}
use mathlib.Core.List.{List}
use mathlib.Core.Logic.{◌⊎◌, inl, inr}
use Prim.Native.Nat.{ℕ, ◌+◌, ◌%◌, ◌<◌}
use lib.Dec.{eqb}
use lib.ListN.{get_or, length, drop}
use Rattle.bits.specs.Bits.{num, bit_of, bit}
use Rattle.bits.specs.Choice.{pick}
use Rattle.bits.specs.Numbers.{Bytes}
use Rattle.bits.specs.Places.{four_at}
use Rattle.bits.proofs.Logic.{pick_no}
use Rattle.element.specs.declared.types.Kind.{Kind}
use Rattle.element.specs.declared.types.Kind.TheVariants.{Cooling, Temperature, Voltage, Current}
use Rattle.element.specs.declared.settings.Settings.{Settings}
use Rattle.element.specs.declared.verdict.Verdict.{Verdict}
use Rattle.element.specs.Verdict.{detected, judged, unlimited, above, below, over, under}
use Rattle.element.specs.Types.{has_fail, fail_shown, verdict_of}
use Rattle.element.specs.Settings.{settings_of}
use Rattle.element.specs.Status.{entry_of, entry_by}
use Rattle.shelf.specs.Types.{elements_of, kind_at}
use Rattle.shelf.specs.Elements.{settings_at, thresholds_at, reading_at, nominal_at}
use Rattle.shelf_formed.specs.Formed.{well_formed}
use Rattle.shelf_formed.proofs.ElementTypes.{front_formed_lem}
use Rattle.shelf_formed.proofs.FrontOfShelf.{front, elements_alike, type_alike, kind_alike}
use Rattle.page.specs.Places.{own_slot}
use Rattle.page.specs.Slots.{slots_of, slot_place}
use Rattle.page.proofs.SlotBounds.{configuration_front}
use Rattle.page.proofs.ElementSlots.{own_kind, own_single, own_first, own_there}
use Rattle.shelf_status.specs.ShelfStatus.{verdict_at, code_at}
use Rattle.status_page.specs.Page.{status_page}
use Rattle.status_record.specs.Entries.{entry_at}
use Rattle.status_record.proofs.WholeRecord.{entry_back}
use Rattle.status_reading.specs.Read.{status_read, status_record, slot_shown, bits_on}
use Rattle.status_reading.proofs.Refusals.{read_parts, shown_length}
use Rattle.status_reading.proofs.WrittenAndRead.{told_entry, told_verdict, told_read}
use Rattle.control_page.specs.Exactly.{Chosen, request_for, record_in}
use Rattle.control_page.proofs.Changes.{thresholds_kept, reading_kept, nominal_kept}
use Rattle.promises.specs.Demands.{WrittenAgain}
use Rattle.promises.specs.Promises.{ApplyControl, ReadStatus, RewriteStatus}
use Rattle.promises.specs.ShownFail.{Sensor, own_place, code_on, fail_on, fan_fail_on, tripped}
use Rattle.promises.proofs.Exactly.{control_exactly, control_formed, control_front}
use Rattle.promises.proofs.ReadAndRewritten.{handed, status_again}
use Rattle.refusals.specs.Answers.{PageAnswer, Counted}

-- what holds of the three sensors holds of each
by_sensor : (P : Kind → Type 0) → P Temperature → P Voltage → P Current → (k : Kind) → Sensor k → P k
by_sensor P t v c k (inl e) = subst P (sym e) t
by_sensor P t v c k (inr (inl e)) = subst P (sym e) v
by_sensor P t v c k (inr (inr e)) = subst P (sym e) c

-- byte 5 of a sensor's entry is FAIL, as four bytes say it and as it is shown
fail_said : (k : Kind) → Sensor k → (b : List ℕ) → get_or (entry_of k b) 5 0 ≡ bit_of 6 (get_or b 1 0)
unfolding entry_of
fail_said = by_sensor (λ (k : Kind). (b : List ℕ) → get_or (entry_of k b) 5 0 ≡ bit_of 6 (get_or b 1 0)) (λ b. refl) (λ b. refl) (λ b. refl)

fail_by : (k : Kind) → Sensor k → (e : Settings) (v : Verdict) (r : ℕ) → get_or (entry_by k e v r) 5 0 ≡ num (fail_shown e v)
unfolding entry_by
fail_by =
    by_sensor (λ (k : Kind). (e : Settings) (v : Verdict) (r : ℕ) → get_or (entry_by k e v r) 5 0 ≡ num (fail_shown e v)) (λ e v r. refl) (λ e v r. refl)
    (λ e v r. refl)

-- byte 7 of a fan's entry is its own
fan_said : (k : Kind) → k ≡ Cooling → (b : List ℕ) → get_or (entry_of k b) 7 0 ≡ bit_of 6 (get_or b 3 0)
unfolding entry_of
fan_said k h b = rw h

fan_by : (k : Kind) → k ≡ Cooling → (e : Settings) (v : Verdict) (r : ℕ) → get_or (entry_by k e v r) 7 0 ≡ bit_of 6 e.flags3
unfolding entry_by
fan_by k h e v r = rw h

-- the code is 2 or 3 exactly if a limit trips
judged_trips : (hc hw lw lc : Bool) → detected (judged hc hw lw lc).code ≡ tripped (judged hc hw lw lc)
judged_trips true hw lw lc = refl
judged_trips false hw lw true = refl
judged_trips false true lw false = refl
judged_trips false false true false = refl
judged_trips false false false false = refl

trips : (k : Kind) → Sensor k → (e : Settings) (r n : ℕ) (t : List ℕ) → detected (verdict_of k e r n t).code ≡ tripped (verdict_of k e r n t)
unfolding verdict_of
trips =
    by_sensor (λ (k : Kind). (e : Settings) (r n : ℕ) (t : List ℕ) → detected (verdict_of k e r n t).code ≡ tripped (verdict_of k e r n t))
    (λ e r n t. read (eqb r 0) _ (judged_trips (above r (get_or t 0 0)) (above r (get_or t 1 0)) (below r (get_or t 2 0)) (below r (get_or t 3 0))))
    (λ e r n t. judged_trips (over r n (get_or t 0 0)) (over r n (get_or t 1 0)) (under r n (get_or t 2 0)) (under r n (get_or t 3 0)))
    (λ e r n t. judged_trips (over r n (get_or t 0 0)) (over r n (get_or t 1 0)) false false)
  where
    read : (b : Bool) (v : Verdict) → detected v.code ≡ tripped v → detected (pick b (unlimited 6) v).code ≡ tripped (pick b (unlimited 6) v)
    read true v h = refl
    read false v h = h

-- a sensor's verdict does not ask for its settings
same_verdict : (k : Kind) → Sensor k → (d e : Settings) (r n : ℕ) (t : List ℕ) → verdict_of k d r n t ≡ verdict_of k e r n t
unfolding verdict_of
same_verdict =
    by_sensor (λ (k : Kind). (d e : Settings) (r n : ℕ) (t : List ℕ) → verdict_of k d r n t ≡ verdict_of k e r n t) (λ d e r n t. refl)
    (λ d e r n t. refl)
    (λ d e r n t. refl)

or_no : (b : Bool) {c : Bool} → c ≡ false → b || c ≡ b
or_no true e = refl
or_no false e = e

or_yes : (b : Bool) {c : Bool} → c ≡ true → b || c ≡ true
or_yes true e = refl
or_yes false e = e

-- what a shelf's status page shows of element j
module _ (s : List ℕ) (hs : Bytes s) (w : well_formed s ≡ true) (j : ℕ) (l : j < elements_of s) where
  abbrev e : Settings
  e = record_in s s j

  abbrev v : Verdict
  v = verdict_at s (kind_at s j) j

  told : entry_of (kind_at s j) (four_at (status_page s) (own_place s j)) ≡ entry_by (kind_at s j) e v (reading_at s j)
  unfolding verdict_at
  told =
      let i = own_slot s j in
      let m = own_there s j l (front_formed_lem s w) in
      let h = sym (told_entry s hs w i m (own_single s j l)) ∙ told_verdict s hs w i m (own_single s j l) in
      rw (own_first s j l) at h

  pub code_told : code_on s (status_page s) j ≡ code_at s (kind_at s j) j
  unfolding entry_of entry_by code_at
  code_told = ap (λ (x : List ℕ). get_or x 0 0) told

  -- a fan's FAIL is the stored one, whatever the code
  pub fan_fail_told : kind_at s j ≡ Cooling → fan_fail_on s (status_page s) j ≡ bit_of 6 e.flags3
  fan_fail_told k =
      sym (fan_said (kind_at s j) k (four_at (status_page s) (own_place s j)))
      ∙ ap (λ (x : List ℕ). get_or x 7 0) told
      ∙ fan_by (kind_at s j) k e v (reading_at s j)

  module _ (k : Sensor (kind_at s j)) where
    -- FAIL is shown exactly if it is stored or the code on the page is 2 or 3
    pub fail_told : fail_on s (status_page s) j ≡ num (has_fail e || detected (code_on s (status_page s) j))
    unfolding code_at
    fail_told =
        sym (fail_said (kind_at s j) k (four_at (status_page s) (own_place s j)))
        ∙ ap (λ (x : List ℕ). get_or x 5 0) told
        ∙ fail_by (kind_at s j) k e v (reading_at s j)
        ∙ ap (λ (c : ℕ). num (has_fail e || detected c)) (sym code_told)

    -- so a code of 1 or 6 shows the stored one alone
    pub stored_alone : (code_on s (status_page s) j ≡ 1) ⊎ (code_on s (status_page s) j ≡ 6) → fail_on s (status_page s) j ≡ num (has_fail e)
    stored_alone c = fail_told ∙ ap num (or_no (has_fail e) (calm c))
      where
        calm : {n : ℕ} → (n ≡ 1) ⊎ (n ≡ 6) → detected n ≡ false
        calm (inl e) = rw e
        calm (inr e) = rw e

    -- the code is 2 or 3 exactly if a limit trips, so each that does lights it
    pub trips_told : detected (code_on s (status_page s) j) ≡ tripped (verdict_at s (kind_at s j) j)
    unfolding code_at verdict_at
    trips_told = ap detected code_told ∙ trips (kind_at s j) k e (reading_at s j) (nominal_at s j) (thresholds_at s j)

    pub limits_light : fail_on s (status_page s) j ≡ num (has_fail e || tripped (verdict_at s (kind_at s j) j))
    limits_light = fail_told ∙ ap (λ (b : Bool). num (has_fail e || b)) trips_told

-- the same of the shelf x that an accepted control page makes of s
module _ (s p x : List ℕ) {r : PageAnswer} (hs : Bytes s) (hx : Bytes x) (a : ApplyControl s p r x) (u : r ≡ Ok tt) (j : ℕ) (l : j < elements_of s)
    (k : Sensor (kind_at s j)) where
  formed : well_formed s ≡ true
  formed = (control_formed s p a u).0

  formed_after : well_formed x ≡ true
  formed_after = (control_formed s p a u).1

  alike : front x ≡ front s
  alike = control_front s p a

  same_kind : kind_at x j ≡ kind_at s j
  same_kind = kind_alike s x alike j l

  there : j < elements_of x
  there = rw (elements_alike s x alike) l

  place_same : own_place x j ≡ own_place s j
  place_same = ap (λ (t : ℕ). slot_place (j + t + 1)) (type_alike s x alike j)

  code_here : code_on x (status_page x) j ≡ code_on s (status_page x) j
  code_here = ap (λ (z : ℕ). get_or (status_page x) z 0 % 16) place_same

  -- the code stays, since no control page changes a reading, a nominal or a threshold
  pub code_kept : code_on s (status_page x) j ≡ code_on s (status_page s) j
  unfolding code_at verdict_at
  code_kept =
      sym code_here
      ∙ code_told x hx formed_after j there
      ∙ ap (λ (v : Verdict). v.code) (kept (kind_at x j) same_kind (record_in x x j))
      ∙ sym (code_told s hs formed j l)
    where
      kept : (m : Kind) → m ≡ kind_at s j → (d : Settings) → verdict_of m d (reading_at x j) (nominal_at x j) (thresholds_at x j) ≡ verdict_at s (kind_at s j) j
      kept m h d =
          unfold verdict_at in
          rw (h, a.1, reading_kept s p j, nominal_kept s p j, thresholds_kept s p j)
          (same_verdict (kind_at s j) k d (record_in s s j) (reading_at s j) (nominal_at s j) (thresholds_at s j))

  module _ (c : Chosen s p j) where
    -- what the page asks for is stored, and shown beside that code
    pub fail_stored : has_fail (record_in s x j) ≡ has_fail (request_for s p j)
    fail_stored = ap (bit 6) ((control_exactly s p a u).fields j c).flags1

    pub asked_shows : fail_on s (status_page x) j ≡ num (has_fail (request_for s p j) || detected (code_on s (status_page s) j))
    asked_shows =
        ap (λ (z : ℕ). bit_of 6 (get_or (status_page x) (z + 1) 0)) (sym place_same)
        ∙ fail_told x hx formed_after j there (rw same_kind k)
        ∙ (λ i. num ((record_here ∙ fail_stored) i || detected ((code_here ∙ code_kept) i)))
      where
        record_here : has_fail (record_in x x j) ≡ has_fail (record_in s x j)
        record_here = ap (λ (m : Kind). has_fail (settings_of m (settings_at x j))) same_kind

    -- a page that clears FAIL where a limit trips clears the stored one, and leaves it showing
    pub cleared_still_shows : has_fail (request_for s p j) ≡ false → tripped (verdict_at s (kind_at s j) j) ≡ true
        → (has_fail (record_in s x j) ≡ false) × (fail_on s (status_page x) j ≡ 1)
    cleared_still_shows f t =
        (fail_stored ∙ f, asked_shows ∙ ap num (or_yes (has_fail (request_for s p j)) (trips_told s hs formed j l k ∙ t)))

-- of whatever page is accepted, the reader hands back the FAIL and the code that the page shows
module _ (c p old : List ℕ) {r : PageAnswer} {f : List ℕ} (h : ReadStatus c p old r f) (u : r ≡ Ok tt) (j : ℕ) (l : j < elements_of c) where
  handed_back : entry_at f (own_slot c j) ≡ entry_of (kind_at c j) (four_at p (own_place c j))
  unfolding status_record slot_shown
  handed_back =
      let i = own_slot c j in
      let t = handed (status_read c p) (status_record c p) old h u in
      let m = own_there c j l (configuration_front c (read_parts c p t.0).0) in
      ap (λ (g : List ℕ). entry_at g i) t.1
      ∙ entry_back (bits_on p) (slot_shown c p) (shown_length c p) (slots_of c) (drop (length (status_record c p)) old) i m
      ∙ pick_no _ _ _ (own_single c j l)
      ∙ ap (λ (k : Kind). entry_of k (four_at p (own_place c j))) (own_kind c j l)

  pub code_handed : get_or (entry_at f (own_slot c j)) 0 0 ≡ code_on c p j
  unfolding entry_of
  code_handed = ap (λ (x : List ℕ). get_or x 0 0) handed_back

  pub fail_handed : Sensor (kind_at c j) → get_or (entry_at f (own_slot c j)) 5 0 ≡ fail_on c p j
  fail_handed k = ap (λ (x : List ℕ). get_or x 5 0) handed_back ∙ fail_said (kind_at c j) k (four_at p (own_place c j))

-- a shelf's own page is accepted, and written again byte for byte; that both are bytes is so of whatever is in memory
pub own_again : (s old out : List ℕ) → Bytes s → Bytes (front s) → Bytes (status_page s) → well_formed s ≡ true
    → {r : PageAnswer} {f : List ℕ} {w : Counted} {o : List ℕ}
    → ReadStatus (front s) (status_page s) old r f → RewriteStatus (front s) f out w o → WrittenAgain (status_page s) out w o
own_again s old out hs hf hp w h g = status_again (front s) (status_page s) old out hf hp h (h.0 ∙ told_read s hs w) g
