-- Pages that come in chunks, while other calls may change the shelf. Assumes nothing.
use Rattle.std.specs.Prelude.{◌≡◌, List, [], ◌∷◌, ℕ}
use Rattle.collector.specs.Collector.{HasRoom, count_of, joined_all}
use Rattle.promises.specs.Promises.{PutChunk, Meant}
use Rattle.refusals.specs.Answers.{PageAnswer}

pub data Event : Type 0 where
  -- a chunk is put; the shelf is not lent to that call
  chunk : List ℕ → Event
  -- the shelf becomes this by whatever call or hand
  shelf : List ℕ → Event

-- of the collector c and the shelf s the events make d and x
abbrev pub Happens : List Event → List ℕ → List ℕ → List ℕ → List ℕ → Type 0
Happens [] c s d x = (d ≡ c) × (x ≡ s)
Happens (chunk y ∷ es) c s d x = (m : List ℕ) × PutChunk c y m × Happens es m s d x
Happens (shelf y ∷ es) c s d x = Happens es c y d x

-- the chunks, and their bytes joined
abbrev pub chunks_of : List Event → List (List ℕ)
chunks_of [] = []
chunks_of (chunk y ∷ es) = y ∷ chunks_of es
chunks_of (shelf y ∷ es) = chunks_of es

abbrev pub bytes_put : List Event → List ℕ
bytes_put es = joined_all (chunks_of es)

-- a collector that counts no byte, whatever stands in its room
abbrev pub Empty : List ℕ → Type 0
Empty c = HasRoom c × (count_of c ≡ 0)

-- The end call comes to what one call for the page meant comes to on the joined bytes: with the shelf x as it is then, and not with s, as
-- the first chunk found it.
abbrev pub AsOne : ℕ → List Event → List ℕ → List ℕ → PageAnswer → List ℕ → Type 0
AsOne code es s x r o = Meant code x (bytes_put es) r o
