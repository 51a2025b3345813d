use native.Mathlib.Omega.{arith}
use Rattle.names.proofs.NameBack.{name_short}
use Rattle.names.proofs.SettingTests.{name_room, name_put}
use Rattle.names.proofs.setting.put.Goals as goal

pub overflow_cast-text : goal.overflow_cast-text
overflow_cast-text c = let l = name_short c.args.text.now c.requires.text_value in record { fits = omega arith }

pub padded-room-requires-clause-n_le_most_text : goal.padded-room-requires-clause-n_le_most_text
padded-room-requires-clause-n_le_most_text c = name_short c.args.text.now c.requires.text_value

pub copy-requires-clause-n_in_bounds_2 : goal.copy-requires-clause-n_in_bounds_2
copy-requires-clause-n_in_bounds_2 c = let a = c.args in
    omega (arith, name_room a.shelf.now c.requires.shelf_value a.i c.requires.i_bound, c.requires.n_value, c.name_place.ensures)

pub returns : goal.returns
returns c = let a = c.args in
    name_put a.shelf.now a.i a.text.now c.requires.text_value c.requires.n_value c.name_place.ensures c.padded-room.ensures c.copy.ensures
