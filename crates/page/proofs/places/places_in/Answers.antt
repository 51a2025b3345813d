use mathlib.Core.Path.{refl}
use Rattle.page.specs.Places.{places_in}
use Rattle.page.proofs.places.places_in.Goals as goal

pub returns : goal.returns
unfolding places_in
returns c = refl
