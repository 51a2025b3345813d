-- No two outcomes: what keeps a promise is one answer, with one content of all that is lent to be changed. Assumes nothing.
use Rattle.std.specs.Prelude.{◌≡◌, List, ℕ}

-- of a call that is lent nothing to be changed; or that answers nothing, of what it leaves
abbrev pub OneAnswer : {R : Type 0} → (R → Type 0) → Type 0
OneAnswer {R} P = (r q : R) → P r → P q → r ≡ q

-- one buffer, a record or a shelf
abbrev pub OneOutcome : {R : Type 0} → (R → List ℕ → Type 0) → Type 0
OneOutcome {R} P = (r q : R) (y z : List ℕ) → P r y → P q z → (r ≡ q) × (y ≡ z)

-- for C also the bytes written, or the offset
abbrev pub OneTold : (ℕ → List ℕ → ℕ → Type 0) → Type 0
OneTold P = (n m : ℕ) (y z : List ℕ) (b c : ℕ) → P n y b → P m z c → (n ≡ m) × (y ≡ z) × (b ≡ c)

-- and the SELECTs
abbrev pub OneBuilt : (ℕ → List ℕ → ℕ → ℕ → Type 0) → Type 0
OneBuilt P = (n m : ℕ) (y z : List ℕ) (b c k l : ℕ) → P n y b k → P m z c l → (n ≡ m) × (y ≡ z) × (b ≡ c) × (k ≡ l)

-- of a search the element told, and nothing is lent to be changed
abbrev pub OneFound : (ℕ → ℕ → Type 0) → Type 0
OneFound P = (n m b c : ℕ) → P n b → P m c → (n ≡ m) × (b ≡ c)

-- two blocks are lent to be changed
abbrev pub OneBoth : {R : Type 0} → (R → List ℕ → List ℕ → Type 0) → Type 0
OneBoth {R} P = (r q : R) (b c y z : List ℕ) → P r b y → P q c z → (r ≡ q) × (b ≡ c) × (y ≡ z)

-- for C also the offset
abbrev pub OneBothTold : (ℕ → List ℕ → List ℕ → ℕ → Type 0) → Type 0
OneBothTold P = (n m : ℕ) (b c y z : List ℕ) (j k : ℕ) → P n b y j → P m c z k → (n ≡ m) × (b ≡ c) × (y ≡ z) × (j ≡ k)

-- a refusal leaves what was lent as it was
abbrev pub KeptIfRefused : {X R : Type 0} → (X → R) → (R → List ℕ → Type 0) → List ℕ → Type 0
KeptIfRefused {X} refused P old = (x : X) (o : List ℕ) → P (refused x) o → o ≡ old

-- for C
abbrev pub KeptAnswered : (ℕ → List ℕ → Type 0) → List ℕ → Type 0
KeptAnswered P old = (n : ℕ) (o : List ℕ) → P n o → (n ≡ 0 → ⊥) → o ≡ old

-- where a number k is told too
abbrev pub KeptForC : (ℕ → List ℕ → ℕ → Type 0) → List ℕ → Type 0
KeptForC P old = (n : ℕ) (o : List ℕ) (k : ℕ) → P n o k → (n ≡ 0 → ⊥) → o ≡ old

-- 0 bytes are told then and, of a page that is built, 0 SELECTs
abbrev pub KeptWritten : (ℕ → List ℕ → ℕ → Type 0) → List ℕ → Type 0
KeptWritten P old = (n : ℕ) (o : List ℕ) (b : ℕ) → P n o b → (n ≡ 0 → ⊥) → (o ≡ old) × (b ≡ 0)

abbrev pub KeptBuilt : (ℕ → List ℕ → ℕ → ℕ → Type 0) → List ℕ → Type 0
KeptBuilt P old = (n : ℕ) (o : List ℕ) (b k : ℕ) → P n o b k → (n ≡ 0 → ⊥) → (o ≡ old) × (b ≡ 0) × (k ≡ 0)
