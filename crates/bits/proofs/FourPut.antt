-- Four bytes put into a list: what is read back, and what stays. Assumes nothing.
use mathlib.Core.Path.{◌≡◌, sym, ap, ◌∙◌}
use mathlib.Core.List.{List, [], ◌∷◌}
use Prim.Native.Nat.{ℕ, ◌+◌, ◌≤◌}
use native.Mathlib.Nat.{zero-add}
use lib.ListN.{length, get_or}
use Rattle.bits.specs.Places.{four_at, put_four}
use Rattle.bits.specs.Rows.{put_bytes}
use Rattle.bits.proofs.Rows.{four_bytes, four_same}
use Rattle.bits.proofs.BytesPut.{Beside, length-put_bytes, bytes_other, bytes_put_lem, bytes_again_lem}

pub length_put : (s : List ℕ) (k : ℕ) (f : List ℕ) → length (put_four s k f) ≡ length s
unfolding put_four
length_put s k f = length-put_bytes s k (four_at f 0)

-- the place i is none of the four from k on
abbrev pub Outside : ℕ → ℕ → Type 0
Outside i k = Beside i k 4

-- a byte outside the four stays as it was
pub put_other : (s : List ℕ) (k : ℕ) (f : List ℕ) (i : ℕ) → Outside i k → get_or (put_four s k f) i 0 ≡ get_or s i 0
unfolding put_four
put_other s k f i h = bytes_other s k (four_at f 0) i h

-- four bytes are read back as they were put
pub put_back : (s : List ℕ) (k a b c d : ℕ) → k + 4 ≤ length s → four_at (put_four s k (a ∷ b ∷ c ∷ d ∷ [])) k ≡ a ∷ b ∷ c ∷ d ∷ []
unfolding put_four
put_back s k a b c d h =
    let f : List ℕ = a ∷ b ∷ c ∷ d ∷ [] in
    four_same (put_bytes s k f) f k 0 (λ i l. bytes_put_lem s k f i l h ∙ ap (λ (j : ℕ). get_or f j 0) (sym (zero-add i)))

-- what stands already is put again
pub put_same : (s : List ℕ) (k : ℕ) → put_four s k (four_at s k) ≡ s
unfolding put_four
put_same s k = ap (put_bytes s k) (sym (four_bytes s k)) ∙ bytes_again_lem s k 4
