-- What putting and reading an entry comes to, from what the calls say. Assumes nothing.
use mathlib.Core.Path.{◌≡◌, ◌∙◌}
use mathlib.Core.List.{List}
use Prim.Native.Nat.{ℕ}
use lib.ListN.{length, replicate}
use Rattle.bits.specs.Rows.{bytes_at, put_bytes}
use Rattle.bits.proofs.Rows.{bytes_whole}
use Rattle.status_record.specs.Entries.{entry_place, entry_at, entry_put}

pub entry_put_lem : (r : List ℕ) (i : ℕ) (x : List ℕ) {k : ℕ} {e : List ℕ} → length x ≡ 16 → k ≡ entry_place i → e ≡ put_bytes r k (bytes_at x 0 16) → e ≡ entry_put r i x
entry_put_lem r i x l p h = h ∙ rw (p, bytes_whole x 16 l)

pub entry_read : (r : List ℕ) (i : ℕ) {k : ℕ} {x : List ℕ} → k ≡ entry_place i → x ≡ put_bytes (replicate 16 0) 0 (bytes_at r k 16) → x ≡ entry_at r i
unfolding entry_at put_bytes bytes_at
entry_read r i p h = h ∙ rw p
