-- What a collector holds of a page: its count, and its first bytes. Assumes nothing.
use mathlib.Core.Path.{◌≡◌, refl, sym, ap, subst, ◌∙◌}
use mathlib.Core.List.{List, [], ◌∷◌, ◌++◌, append-nil, append_assoc}
use mathlib.Core.Logic.{inl, inr}
use Prim.Native.Nat.{ℕ, ◌+◌, ◌-◌, ◌<◌, ◌≤◌}
use native.Mathlib.Omega.{arith}
use lib.Dec.{ltb}
use lib.ListN.{length, get_or, take, length-append, get_or-eq_default}
use lib.Seq.{get_or-take}
use borrow.Author.Tests.{ltb-true, ltb-false}
use Rattle.bits.specs.Numbers.{big, bytes}
use Rattle.bits.specs.Rows.{bytes_at}
use Rattle.bits.proofs.Logic.{by_case}
use Rattle.bits.proofs.Rows.{length-bytes_at, bytes_get}
use Rattle.bits.proofs.Widths.{big_bytes}
use Rattle.bits.proofs.Parts.{get_front, get_behind}
use Rattle.bits.proofs.FourPut.{length_put, put_other, put_back}
use Rattle.bits.proofs.BytesPut.{length-put_bytes, bytes_other, bytes_put_lem}
use Rattle.collector.specs.Collector.{most_kept, most_counted, room_place, HasRoom, at_most, count_of, page_of, AlikeKept, counted, kept, collected, collected_all, joined_all, emptied}
use Rattle.collector.proofs.Counts.{below_most, most_bound, still_below, counts_on, length-first}

-- the collector c holds the page p
abbrev pub Holds : List ℕ → List ℕ → Type 0
Holds c p =
    HasRoom c × (count_of c ≡ at_most (length p) most_counted)
    × ((i : ℕ) → i < most_kept → i < length p → get_or c (room_place + i) 0 ≡ get_or p i 0)

-- another count
module _ (c : List ℕ) (h : HasRoom c) (n : ℕ) where
  counted_room : HasRoom (counted c n)
  unfolding counted
  counted_room = length_put c 0 (bytes 4 n) ∙ h

  count_is : n ≤ most_counted → count_of (counted c n) ≡ n
  unfolding count_of counted
  count_is l =
      ap (λ (f : List ℕ). at_most (big f) most_counted) (put_back c 0 _ _ _ _ (omega (arith, h)))
      ∙ ap (λ (m : ℕ). at_most m most_counted) (big_bytes 4 n (omega arith))
      ∙ below_most n most_counted l

  room_stays : (i : ℕ) → get_or (counted c n) (room_place + i) 0 ≡ get_or c (room_place + i) 0
  unfolding counted
  room_stays i = put_other c 0 (bytes 4 n) (room_place + i) (inr (omega arith))

-- a collector that counts none holds a page without bytes, whatever stands in its room
pub holds_none : (c : List ℕ) → HasRoom c → count_of c ≡ 0 → Holds c []
holds_none c h e = (h, e, (λ i l m. absurd (omega arith)))

-- and so it does once it is emptied
pub emptied_counts : (c : List ℕ) → HasRoom c → HasRoom (emptied c) × (count_of (emptied c) ≡ 0)
emptied_counts c h = (counted_room c h 0, count_is c h 0 (omega arith))

-- a chunk put
module _ (c x : List ℕ) (h : HasRoom c) where
  kept_room : (n : ℕ) → HasRoom (kept c n x)
  unfolding kept
  kept_room n = length-put_bytes c (room_place + n) (take (most_kept - n) x) ∙ h

  abbrev after : ℕ
  after = at_most (count_of c + length x) most_counted

  collected_room : HasRoom (collected c x)
  unfolding collected
  collected_room = counted_room (kept c (count_of c) x) (kept_room (count_of c)) _

  pub count_collected : count_of (collected c x) ≡ after
  unfolding collected
  count_collected = count_is (kept c (count_of c) x) (kept_room (count_of c)) after (most_bound (count_of c + length x) most_counted).0

  collected_stays : (i : ℕ) → get_or (collected c x) (room_place + i) 0 ≡ get_or (kept c (count_of c) x) (room_place + i) 0
  unfolding collected
  collected_stays i = room_stays (kept c (count_of c) x) (kept_room (count_of c)) _ i

-- is joined to what was held
module _ (c p x : List ℕ) (h : Holds c p) where
  abbrev n : ℕ
  n = count_of c

  abbrev f : List ℕ
  f = take (most_kept - n) x

  kept_before : (i : ℕ) → i < most_kept → i < length p → get_or (kept c n x) (room_place + i) 0 ≡ get_or (p ++ x) i 0
  unfolding kept
  kept_before i l b =
      let m : i < n = omega (arith, h.1, still_below i (length p) most_counted b (omega arith)) in
      bytes_other c (room_place + n) f (room_place + i) (inl (omega (arith, m)))
      ∙ h.2 i l b
      ∙ sym (get_front p x (length p) i refl b)

  kept_chunk : (j : ℕ) → length p + j < most_kept → j < length x → get_or (kept c n x) (room_place + (length p + j)) 0 ≡ get_or (p ++ x) (length p + j) 0
  unfolding kept
  kept_chunk j l b =
      let e : n ≡ length p = h.1 ∙ below_most (length p) most_counted (omega arith) in
      let t : length f ≡ at_most (length x) (most_kept - n) = length-first x (most_kept - n) in
      let u = most_bound (length x) (most_kept - n) in
      ap (λ (i : ℕ). get_or (kept c n x) i 0) (omega (arith, e))
      ∙ bytes_put_lem c (room_place + n) f j (omega (arith, t, still_below j (length x) (most_kept - n) b (omega (arith, e)))) (omega (arith, t, u.0, e, h.0))
      ∙ get_or-take (most_kept - n) x j 0 (omega (arith, e))
      ∙ sym (get_behind p x (length p) j refl)

  kept_byte : (i : ℕ) → i < most_kept → i < length p + length x → get_or (kept c n x) (room_place + i) 0 ≡ get_or (p ++ x) i 0
  kept_byte i l m =
      by_case (ltb i (length p))
      (λ e. kept_before i l (ltb-true i (length p) e))
      (λ e.
      let b = ltb-false i (length p) e in
      let q : length p + (i - length p) ≡ i = omega arith in
      subst (λ (k : ℕ). get_or (kept c n x) (room_place + k) 0 ≡ get_or (p ++ x) k 0) q
      (kept_chunk (i - length p) (omega arith) (omega arith)))

  pub holds_chunk : Holds (collected c x) (p ++ x)
  holds_chunk = (
    collected_room c x h.0,
    count_collected c x h.0
        ∙ ap (λ (k : ℕ). at_most (k + length x) most_counted) h.1
        ∙ counts_on (length p) (length x) most_counted
        ∙ ap (λ (k : ℕ). at_most k most_counted) (sym (length-append p x)),
    (λ i l b. collected_stays c x h.0 i ∙ kept_byte i l (omega (arith, length-append p x))),
  )

pub holds_chunks : (xs : List (List ℕ)) (c p : List ℕ) → Holds c p → Holds (collected_all c xs) (p ++ joined_all xs)
holds_chunks [] c p h = subst (λ (q : List ℕ). Holds c q) (sym (append-nil p)) h
holds_chunks (x ∷ xs) c p h =
    subst (λ (q : List ℕ). Holds (collected_all c (x ∷ xs)) q) (append_assoc p x (joined_all xs)) (holds_chunks xs (collected c x) (p ++ x) (holds_chunk c p x h))

-- the first k bytes of the room, or of the page that it says it collected
pub first_byte_lem : (c : List ℕ) (k i : ℕ) → i < k → get_or (bytes_at c room_place k) i 0 ≡ get_or c (room_place + i) 0
first_byte_lem c k i l = ap (λ (q : List ℕ). get_or q i 0) (sym (append-nil (bytes_at c room_place k))) ∙ bytes_get c room_place k i [] l

-- that page is not told apart from what it holds
module _ (c p : List ℕ) (h : Holds c p) where
  abbrev m : ℕ
  m = count_of c

  page_length : length (page_of c) ≡ m
  unfolding page_of
  page_length = length-bytes_at c room_place m

  page_byte : (i : ℕ) → i < m → get_or (page_of c) i 0 ≡ get_or c (room_place + i) 0
  unfolding page_of
  page_byte i l = first_byte_lem c m i l

  pub held_alike : AlikeKept p (page_of c)
  held_alike =
      let u = most_bound (length p) most_counted in (
        sym h.1 ∙ sym (below_most m most_counted (omega (arith, h.1, u.0))) ∙ ap (λ (n : ℕ). at_most n most_counted) (sym page_length),
        (λ i l.
            by_case (ltb i m)
            (λ e. let b = ltb-true i m e in sym (h.2 i l (omega (arith, h.1, u.1))) ∙ sym (page_byte i b))
            (λ e.
            let b = ltb-false i m e in
            get_or-eq_default p 0 (past i l b) ∙ sym (get_or-eq_default (page_of c) 0 (omega (arith, page_length, b))))),
      )
    where
      past : (i : ℕ) → i < most_kept → m ≤ i → length p ≤ i
      past i l b =
          by_case (ltb i (length p))
          (λ e. let d = still_below i (length p) most_counted (ltb-true i (length p) e) (omega arith) in absurd (omega (arith, h.1)))
          (λ e. ltb-false i (length p) e)
