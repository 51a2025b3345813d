-- What each call on a collector comes to, from what the calls below it say. Assumes nothing.
use mathlib.Core.Path.{◌≡◌, sym, ap, ap₂, ◌∙◌}
use mathlib.Core.List.{List}
use Prim.Native.Nat.{ℕ, ◌+◌, ◌-◌, ◌≤◌}
use native.Mathlib.Omega.{arith}
use lib.ListN.{length, take, drop}
use Rattle.bits.specs.Numbers.{big, bytes}
use Rattle.bits.specs.Places.{four_at, put_four}
use Rattle.bits.specs.Rows.{bytes_at, put_bytes}
use Rattle.bits.proofs.Rows.{bytes_there}
use Rattle.bits.proofs.BytesPut.{bytes_again_lem}
use Rattle.collector.specs.Collector.{most_kept, most_counted, room_place, HasRoom, at_most, count_of, counted, kept, collected}
use Rattle.collector.proofs.Counts.{first_bytes}

module _ (c : List ℕ) where
  pub count_told : {k r : ℕ} → k ≡ big (four_at c 0) → r ≡ at_most k most_counted → r ≡ count_of c
  unfolding count_of
  count_told q e = e ∙ ap (λ (n : ℕ). at_most n most_counted) q

  pub first_told : HasRoom c → (n : ℕ) → n ≤ most_kept → take (room_place + n - room_place) (drop room_place c) ≡ bytes_at c room_place n
  first_told h n l =
      let e : room_place + n - room_place ≡ n = omega arith in
      ap (λ (m : ℕ). take m (drop room_place c)) e ∙ sym (bytes_there c room_place n (omega (arith, h)))

  pub count_put : (n : ℕ) {f o : List ℕ} → f ≡ bytes 4 n → o ≡ put_four c 0 f → o ≡ counted c n
  unfolding counted
  count_put n q e = e ∙ ap (put_four c 0) q

  module _ (n : ℕ) (x : List ℕ) where
    pub kept_told : {m : ℕ} {o : List ℕ} → m ≡ at_most (length x) (most_kept - n) → o ≡ put_bytes c (room_place + n) (bytes_at x 0 m) → o ≡ kept c n x
    unfolding kept
    kept_told q e = e ∙ ap (put_bytes c (room_place + n)) (ap (bytes_at x 0) q ∙ first_bytes x (most_kept - n))

    pub none_kept : most_kept ≤ n → c ≡ kept c n x
    unfolding kept bytes_at
    none_kept l =
        let e : most_kept - n ≡ 0 = omega arith in
        sym (ap (λ (m : ℕ). put_bytes c (room_place + n) (take m x)) e ∙ bytes_again_lem c (room_place + n) 0)

  pub chunk_put : (x : List ℕ) {n m : ℕ} {k o : List ℕ} → n ≡ count_of c → k ≡ kept c n x → m ≡ at_most (n + length x) most_counted → o ≡ counted k m → o ≡ collected c x
  unfolding collected
  chunk_put x q h e t = t ∙ ap₂ counted (h ∙ ap (λ (j : ℕ). kept c j x) q) (e ∙ ap (λ (j : ℕ). at_most (j + length x) most_counted) q)
