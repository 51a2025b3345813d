-- A collector: what a block of bytes says of the page that comes in chunks, and what each chunk makes of it. Assumes nothing.
use Rattle.std.specs.Prelude.{◌≡◌, List, [], ◌∷◌, ◌++◌, ℕ, ◌+◌, ◌-◌, ◌<◌, leb, length, get_or, take}
use Rattle.bits.specs.Choice.{pick}
use Rattle.bits.specs.Numbers.{big, bytes}
use Rattle.bits.specs.Places.{four_at, put_four}
use Rattle.bits.specs.Rows.{bytes_at, put_bytes}
use Rattle.shelf.specs.Limits.{most_types, most_elements}
use Rattle.page.specs.Slots.{slot_place}
use Rattle.page.specs.Header.{most_said}

-- so many bytes are kept: those of the largest page
abbrev pub most_kept : ℕ
most_kept = slot_place (most_types + most_elements)

-- and so many are counted, 65,540: one more than a page can say
abbrev pub most_counted : ℕ
most_counted = most_said + 1

-- the count has four bytes; behind them is the room
abbrev pub room_place : ℕ
room_place = 4

abbrev pub HasRoom : List ℕ → Type 0
HasRoom c = length c ≡ room_place + most_kept

abbrev pub at_most : ℕ → ℕ → ℕ
at_most n m = pick (leb n m) n m

-- how many bytes were put; a block that says more means the most
unfoldable pub count_of : List ℕ → ℕ
count_of c = at_most (big (four_at c 0)) most_counted

-- the page has as many. Those beyond the room were not kept: a byte past the end reads as 0
unfoldable pub page_of : List ℕ → List ℕ
page_of c = bytes_at c room_place (count_of c)

-- pages that no collector tells apart: of as many bytes, up to where the count stops, and with the same ones, up to where they are kept
abbrev pub AlikeKept : List ℕ → List ℕ → Type 0
AlikeKept p q =
    (at_most (length p) most_counted ≡ at_most (length q) most_counted) × ((i : ℕ) → i < most_kept → get_or p i 0 ≡ get_or q i 0)

-- the collector with n as its count
unfoldable pub counted : List ℕ → ℕ → List ℕ
counted c n = put_four c 0 (bytes 4 n)

-- with what there is room for of a chunk behind n bytes
unfoldable pub kept : List ℕ → ℕ → List ℕ → List ℕ
kept c n x = put_bytes c (room_place + n) (take (most_kept - n) x)

-- a chunk put: it is kept as far as there is room, and all of it is counted
unfoldable pub collected : List ℕ → List ℕ → List ℕ
collected c x = counted (kept c (count_of c) x) (at_most (count_of c + length x) most_counted)

-- chunks put one after the other, and their bytes joined
abbrev pub collected_all : List ℕ → List (List ℕ) → List ℕ
collected_all c [] = c
collected_all c (x ∷ xs) = collected_all (collected c x) xs

abbrev pub joined_all : List (List ℕ) → List ℕ
joined_all [] = []
joined_all (x ∷ xs) = x ++ joined_all xs

-- nothing is put yet; what stands in the room stays there
abbrev pub emptied : List ℕ → List ℕ
emptied c = counted c 0
