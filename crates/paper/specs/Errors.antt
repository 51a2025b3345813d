-- Of the errors that document 01 tells the one that it counts in SELECTs: the most common wanted record is taken as the overall element. In
-- the fifth case each of the three records is as common as the others. Assumes nothing.
use Rattle.std.specs.Prelude.{List, [], ◌∷◌}
use Rattle.paper.specs.Table.{Case, reaches, three_speeds, identified, control, identifies, silent}

-- the overall element asks for IDENT and one record's speed; the fans with another speed have elements of their own, with speed code 0
abbrev pub errors : List Case
errors =
    reaches three_speeds identified (control (0x80 ∷ 0x80 ∷ 0x00 ∷ 0x23 ∷ []) silent identifies identifies) 3
    ∷ reaches three_speeds identified (control (0x80 ∷ 0x80 ∷ 0x00 ∷ 0x24 ∷ []) identifies silent identifies) 3
    ∷ reaches three_speeds identified (control (0x80 ∷ 0x80 ∷ 0x00 ∷ 0x25 ∷ []) identifies identifies silent) 3
    ∷ []
