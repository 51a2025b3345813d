-- A number and its big-endian bytes, at every width at once. Assumes nothing.
use mathlib.Core.Path.{◌≡◌, refl, sym, ap, ap₂, ◌∙◌}
use mathlib.Core.Bool.{Bool, true, ◌&&◌}
use mathlib.Core.List.{List, [], ◌∷◌, ◌++◌, append_assoc, append-nil}
use Prim.Native.Nat.{ℕ, zero, suc, ◌+◌, ◌*◌, ◌/◌, ◌%◌, ◌^◌, ◌<◌}
use native.Mathlib.Nat.{add-zero, zero-add, add-suc, suc-add, pow-suc}
use native.Mathlib.Omega.{arith}
use lib.Dec.{eqb}
use lib.ListN.{length, length-append}
use borrow.Author.Tests.{eqb-true, eqb-false, eq-eqb, ne_eqb}
use Rattle.bits.specs.Numbers.{big_from, big, bytes, Bytes}
use Rattle.bits.proofs.Logic.{by_case}

from_end : (n b : ℕ) (bs : List ℕ) → big_from n (bs ++ (b ∷ [])) ≡ big_from n bs * 256 + b
from_end n b [] = refl
from_end n b (x ∷ bs) = from_end (n * 256 + x) b bs

pub length-bytes : (w n : ℕ) → length (bytes w n) ≡ w
length-bytes zero n = refl
length-bytes (suc w) n = rw length-append (omega (arith, length-bytes w (n / 256)))

-- a number that w bytes can hold is said by its w bytes
pub big_bytes : (w n : ℕ) → n < 256 ^ w → big (bytes w n) ≡ n
big_bytes zero n h = omega arith
big_bytes (suc w) n h =
    from_end 0 (n % 256) (bytes w (n / 256))
    ∙ ap (λ x. x * 256 + n % 256) (big_bytes w (n / 256) (let e = pow-suc 256 w in omega arith))
    ∙ omega arith

-- bytes that follow those of n are the last ones of the number that all say
after : (bs : List ℕ) (k n : ℕ) → Bytes bs → bytes (k + length bs) (big_from n bs) ≡ bytes k n ++ bs
after [] k n h = rw (add-zero, append-nil)
after (b ∷ bs) k n h =
    let q : (n * 256 + b) / 256 ≡ n = omega (arith, h.0) in
    let r : (n * 256 + b) % 256 ≡ b = omega (arith, h.0) in
    ap (λ (w : ℕ). bytes w (big_from (n * 256 + b) bs)) (add-suc k (length bs) ∙ sym (suc-add k (length bs)))
    ∙ after bs (suc k) (n * 256 + b) h.1
    ∙ append_assoc (bytes k ((n * 256 + b) / 256)) ((n * 256 + b) % 256 ∷ []) bs
    ∙ ap₂ (λ (x y : ℕ). bytes k x ++ (y ∷ bs)) q r

-- bytes are those of the number that they say
pub bytes_big : (bs : List ℕ) → Bytes bs → bytes (length bs) (big bs) ≡ bs
bytes_big bs h = ap (λ (w : ℕ). bytes w (big bs)) (sym (zero-add (length bs))) ∙ after bs 0 0 h

-- bytes say 0 just where each is 0: each byte, after a test t of those before
abbrev pub zeros_from : Bool → List ℕ → Bool
zeros_from t [] = t
zeros_from t (b ∷ bs) = zeros_from (t && eqb b 0) bs

zero_step : (n b : ℕ) → eqb (n * 256 + b) 0 ≡ eqb n 0 && eqb b 0
zero_step n b =
    by_case (eqb n 0)
    (λ p.
    by_case (eqb b 0) (λ q. rw (p, q) (eq-eqb (n * 256 + b) 0 (omega (arith, eqb-true n 0 p, eqb-true b 0 q))))
    (λ q. rw (p, q) (ne_eqb (n * 256 + b) 0 (λ e. eqb-false b 0 q (omega arith)))))
    (λ p. rw p (ne_eqb (n * 256 + b) 0 (λ e. eqb-false n 0 p (omega arith))))

zeros_after : (bs : List ℕ) (n : ℕ) → eqb (big_from n bs) 0 ≡ zeros_from (eqb n 0) bs
zeros_after [] n = refl
zeros_after (b ∷ bs) n = zeros_after bs (n * 256 + b) ∙ ap (λ (t : Bool). zeros_from t bs) (zero_step n b)

pub zeros_said : (bs : List ℕ) → eqb (big bs) 0 ≡ zeros_from true bs
zeros_said bs = zeros_after bs 0
