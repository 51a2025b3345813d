-- A record of names tested, entry by entry, and the length of its page counted on the way. Assumes nothing.
use Rattle.std.specs.Prelude.{Ok, Err, Option, Some, None}
use mathlib.Core.Path.{◌≡◌, refl, sym, ap, ◌∙◌}
use mathlib.Core.Bool.{Bool, true, false, ◌||◌}
use mathlib.Core.List.{List}
use Prim.Native.Nat.{ℕ, ◌+◌, ◌<◌, ◌≤◌}
use native.Mathlib.Omega.{arith}
use lib.Dec.{eqb}
use lib.ListN.{get_or}
use borrow.Author.Tests.{lt-ltb, le-ltb, eq-eqb, ne_eqb}
use Rattle.bits.specs.Choice.{pick, all_below}
use Rattle.bits.proofs.Logic.{by_case, pick_yes, pick_no, below_all, below_fails, below_next}
use Rattle.refusals.specs.declared.Refusal.{Refusal}
use Rattle.refusals.specs.declared.Refusal.TheVariants.{NotAllowed}
use Rattle.std.specs.Option.{ok_or}
use Rattle.std.specs.Result.{result_and}
use Rattle.refusals.specs.Outcomes.{telling, WritesPage}
use Rattle.refusals.proofs.Stages.{slots_told, refusal_told}
use Rattle.record_head.specs.Head.{count_tested}
use Rattle.shelf.specs.Limits.{most_text}
use Rattle.shelf_formed.specs.Formed.{HasFront}
use Rattle.page.specs.Slots.{slots_of}
use Rattle.page.specs.Header.{configuration_tested}
use Rattle.page.proofs.SlotBounds.{accepted_there}
use Rattle.names.specs.Name.{name_length, name_in}
use Rattle.descriptor_page.specs.Page.{descriptor_page}
use Rattle.bits.proofs.RowStarts.{start_behind}
use Rattle.descriptor_page.specs.Page.{width}
use Rattle.descriptor_page.proofs.DescriptorRows.{width_is}
use Rattle.descriptor_record.specs.Rewritten.{entry_place, end_byte, entry_formed, entries_formed, entry_size, bytes_again, entries_tested, record_tested, page_again}
use Rattle.refusals.specs.Answers.{Answer, Counted}

-- a size that a test chose, or none
picked : (t : Bool) {a z : ℕ} → Some z ≡ pick t (Some a) None → (t ≡ true) × (z ≡ a)
picked true h = (refl, cc)
picked false h = let z : ◌≡◌ {A = ℕ} 0 1 = cc in absurd (omega arith)

not_picked : (t : Bool) (a : ℕ) → None ≡ pick t (Some a) None → t ≡ false
not_picked true a h = let z : ◌≡◌ {A = ℕ} 0 1 = cc in absurd (omega arith)
not_picked false a h = refl

-- one entry
module _ (r : List ℕ) (i : ℕ) where
  abbrev ended : ℕ → Bool
  ended k = end_byte r (entry_place i) k

  -- its name is in it
  pub name_first : {n : ℕ} → n ≡ name_length r (entry_place i) → all_below ended n ≡ true
  name_first {n} e = below_all ended n (λ k l. ap (λ (t : Bool). t || eqb (get_or r (entry_place i + k) 0) 0) (lt-ltb k (name_length r (entry_place i)) (omega (arith, e))))

  behind : (k : ℕ) → name_length r (entry_place i) ≤ k → ended k ≡ eqb (get_or r (entry_place i + k) 0) 0
  behind k l = ap (λ (t : Bool). t || eqb (get_or r (entry_place i + k) 0) 0) (le-ltb k (name_length r (entry_place i)) l)

  module _ {n m b : ℕ} (k : ℕ) (e : n ≡ name_length r (entry_place i)) (l : n ≤ k) (p : m ≡ entry_place i) (q : b ≡ get_or r (m + k) 0) where
    pub zero_next : all_below ended k ≡ true → b ≡ 0 → all_below ended (k + 1) ≡ true
    zero_next t z = below_next ended k t (behind k (omega (arith, e)) ∙ eq-eqb _ _ (rw p at (sym q) ∙ z))

    pub not_ended : k < most_text → (b ≡ 0 → ⊥) → false ≡ entry_formed r i
    unfolding entry_formed
    not_ended h z = sym (below_fails ended most_text k h (behind k (omega (arith, e)) ∙ ne_eqb _ _ (λ o. z (rw p at q ∙ o))))

  pub all_ended : {k : ℕ} → k ≡ most_text → all_below ended k ≡ true → true ≡ entry_formed r i
  unfolding entry_formed
  all_ended e t = sym (rw e at t)

  -- how long its descriptor is
  module _ {m n : ℕ} (p : m ≡ entry_place i) (q : n ≡ name_length r m) where
    pub name_told : n ≡ name_length r (entry_place i)
    name_told = q ∙ ap (name_length r) p

    pub size_told : entry_formed r i ≡ true → Some (4 + n) ≡ pick (entry_formed r i) (Some (entry_size r i)) None
    size_told t = ap Some (width_is r (entry_place 0) i refl name_told) ∙ sym (pick_yes _ _ _ t)

  pub no_size : entry_formed r i ≡ false → None ≡ pick (entry_formed r i) (Some (entry_size r i)) None
  no_size t = sym (pick_no _ _ _ t)

  -- which says whether it is formed
  pub not_formed : None ≡ pick (entry_formed r i) (Some (entry_size r i)) None → entry_formed r i ≡ false
  not_formed h = not_picked (entry_formed r i) (entry_size r i) h

  pub formed : {z : ℕ} → Some z ≡ pick (entry_formed r i) (Some (entry_size r i)) None → (entry_formed r i ≡ true) × (z ≡ entry_size r i)
  formed h = picked (entry_formed r i) h

-- n of them
module _ (r : List ℕ) (n : ℕ) where
  pub no_page : (i : ℕ) → i < n → entry_formed r i ≡ false → None ≡ pick (entries_formed r n) (Some (bytes_again r n)) None
  unfolding entries_formed
  no_page i l e = sym (pick_no _ _ _ (below_fails (entry_formed r) n i l e))

  pub page_counted : {k : ℕ} → k ≡ bytes_again r n → all_below (entry_formed r) n ≡ true → Some k ≡ pick (entries_formed r n) (Some (bytes_again r n)) None
  unfolding entries_formed
  page_counted e t = ap Some e ∙ sym (pick_yes _ _ _ t)

  -- behind their number
  module _ {a : Answer} (h : a ≡ count_tested r n) where
    pub count_refused : {q : Refusal} {w : Counted} → a ≡ Err q → w ≡ telling a 0 → w ≡ telling (entries_tested r n) (bytes_again r n)
    unfolding entries_tested
    count_refused u e = e ∙ ap (λ (x : Answer). telling x 0) u ∙ sym (rw (← h, u))

    -- a count of 0 bytes, which no page of names has
    module _ (u : a ≡ Ok tt) {k : ℕ} (e : k ≡ pick (entries_formed r n) (bytes_again r n) 0) where
      pub entries_refused : k ≡ 0 → Err NotAllowed ≡ telling (entries_tested r n) (bytes_again r n)
      unfolding entries_tested
      entries_refused z = sym (rw (← h, u, none))
        where
          none : entries_formed r n ≡ false
          none = by_case (entries_formed r n) (λ t. absurd (omega (arith, e ∙ pick_yes _ _ _ t, z, start_behind 8 (width (name_in r (entry_place 0))) n))) (λ t. t)

    -- one that is not formed counts none
    pub entries_answered : {z : Option ℕ} {w : Counted} → a ≡ Ok tt → z ≡ pick (entries_formed r n) (Some (bytes_again r n)) None → w ≡ ok_or z NotAllowed
        → w ≡ telling (entries_tested r n) (bytes_again r n)
    unfolding entries_tested
    entries_answered u e q =
        q
        ∙ ap (λ (o : Option ℕ). ok_or o NotAllowed) e
        ∙ by_case (entries_formed r n) (λ t. rw (← h, u, t))
        (λ t. ap (λ (o : Option ℕ). ok_or o NotAllowed) (pick_no _ _ _ t) ∙ entries_refused u refl (pick_no _ _ _ t))

-- behind the configuration
module _ (c r : List ℕ) {t : Counted} (h : t ≡ telling (configuration_tested c) (slots_of c)) where
  abbrev due : Counted
  due = telling (record_tested c r) (bytes_again r (slots_of c))

  pub no_configuration : {q : Refusal} {w : Counted} → t ≡ Err q → w ≡ result_and t (Ok 0) → w ≡ due
  unfolding record_tested
  no_configuration u p = p ∙ ap (λ (x : Counted). result_and x (Ok 0)) u ∙ sym (rw (refusal_told (configuration_tested c) (slots_of c) h u))

  pub entries_last : {n : ℕ} {w : Counted} → t ≡ Ok n → w ≡ telling (entries_tested r n) (bytes_again r n) → w ≡ due
  unfolding record_tested
  entries_last u e = let o = slots_told (configuration_tested c) (slots_of c) h u in e ∙ rw (o.1, o.0)

-- what the call leaves
module _ (c r : List ℕ) {w : Counted} (h : w ≡ telling (record_tested c r) (bytes_again r (slots_of c))) (out : List ℕ) where
  pub again_refused : {q : Refusal} → w ≡ Err q → WritesPage (record_tested c r) (page_again c r) out w out
  again_refused u = let e = refusal_told (record_tested c r) (bytes_again r (slots_of c)) h u in (u ∙ sym (rw e), rw u)

  module _ {k : ℕ} (u : w ≡ Ok k) where
    pub again_front : HasFront c
    unfolding record_tested
    again_front = accepted_there c (entries_tested r (slots_of c)) refl (slots_told (record_tested c r) (bytes_again r (slots_of c)) h u).0

    pub again_bytes : {n : ℕ} → n ≡ slots_of c → k ≡ bytes_again r n
    again_bytes e = (slots_told (record_tested c r) (bytes_again r (slots_of c)) h u).1 ∙ ap (bytes_again r) (sym e)

    pub again_written : {n : ℕ} {x : Counted} {o : List ℕ} → n ≡ slots_of c → WritesPage (Ok tt) (descriptor_page c (name_in r (entry_place 0)) n) out x o
        → WritesPage (record_tested c r) (page_again c r) out x o
    unfolding page_again
    again_written e p = rw (slots_told (record_tested c r) (bytes_again r (slots_of c)) h u).0 (rw e at p)
