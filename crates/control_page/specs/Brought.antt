-- What a control page brings a shelf to, and what the call leaves of it. Assumes nothing.
use Rattle.std.specs.Prelude.{List, ℕ}
use Rattle.bits.specs.Choice.{pick}
use Rattle.bits.specs.Places.{four_at}
use Rattle.bits.specs.Rows.{joined}
use Rattle.element_control.specs.declared.Control.{Control}
use Rattle.element_control.specs.Control.{control_of, chosen, settled}
use Rattle.shelf.specs.Types.{elements_of}
use Rattle.shelf.specs.Elements.{settings_at}
use Rattle.shelf.specs.SettingsList.{with_settings}
use Rattle.page.specs.declared.places.Places.{Places}
use Rattle.page.specs.Places.{places_of}
use Rattle.control_page.specs.Tests.{valid}

-- the control element that acts on an element with these slots
abbrev pub acting_at : List ℕ → Places → Control
acting_at p at = chosen (control_of at.kind (four_at p at.overallplace)) (control_of at.kind (four_at p at.ownplace))

-- the settings of element j after the page, as the shelf stores them
unfoldable pub settings_after : List ℕ → List ℕ → ℕ → List ℕ
settings_after s p j = settled (places_of s j).kind (acting_at p (places_of s j)) (settings_at s j)

-- the settings that the page brings the shelf to, as a list
unfoldable pub brought_to : List ℕ → List ℕ → List ℕ
brought_to s p = joined (settings_after s p) (elements_of s)

-- the shelf after the call: with the settings of a page that it accepts, else as it was
abbrev pub after : List ℕ → List ℕ → List ℕ
after s p = pick (valid s p) (with_settings s (brought_to s p)) s
