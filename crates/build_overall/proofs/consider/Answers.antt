use Prim.Native.Nat.{◌-◌}
use Rattle.build_overall.proofs.Loops.{best_ranked, record_again, record_new}
use Rattle.build_overall.proofs.consider.Goals as goal

pub try_record-requires : goal.try_record-requires
try_record-requires c = let s = c.args in record { has_wishes = c.requires.has_wishes; best_value = best_ranked s.shelf.now s.wanted.now s.at (s.j - s.at.first) c.requires.best_value }

pub returns-then-is_repeated : goal.returns-then-is_repeated
returns-then-is_repeated c = let s = c.args in record_again s.shelf.now s.wanted.now s.at s.j c.requires.first_le_j.0 c.requires.best_value c.is_repeated.ensures c.if-is_repeated.true

pub returns-else-is_repeated : goal.returns-else-is_repeated
returns-else-is_repeated c = let s = c.args in record_new s.shelf.now s.wanted.now s.at s.j c.requires.first_le_j.0 c.requires.best_value c.settings_in.ensures c.try_record.ensures
