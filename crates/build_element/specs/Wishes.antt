-- One element's wish: the control elements that bring its stored settings to wanted ones. Assumes nothing.
use Rattle.std.specs.Prelude.{Bool, not, ◌&&◌, ◌||◌, List, [], ◌∷◌, ℕ, ◌+◌, eqb, get_or}
use Rattle.bits.specs.Choice.{pick}
use Rattle.element.specs.declared.types.Kind.{Kind}
use Rattle.element.specs.declared.settings.Settings.{Settings}
use Rattle.element.specs.Settings.{settings_of, settings_bytes}
use Rattle.element_control.specs.declared.Control.{Control}
use Rattle.element_control.specs.Control.{settled}

-- the unselected element of four zeros
abbrev pub silent : List ℕ
silent = 0 ∷ 0 ∷ 0 ∷ 0 ∷ []

-- no control element sets a SWAP: a wanted one must be stored
unfoldable pub in_reach : Kind → List ℕ → List ℕ → Bool
in_reach k e w = (settings_of k e).swap || not (settings_of k w).swap

-- four bytes are the same
unfoldable pub alike : List ℕ → List ℕ → Bool
alike a b = ((eqb (get_or a 0 0) (get_or b 0 0) && eqb (get_or a 1 0) (get_or b 1 0)) && eqb (get_or a 2 0) (get_or b 2 0)) && eqb (get_or a 3 0) (get_or b 3 0)

-- the selected element that asks for these settings: the bytes that would store them, with SELECT set
abbrev pub with_select : List ℕ → List ℕ
with_select e = (128 + get_or e 0 0) ∷ get_or e 1 0 ∷ get_or e 2 0 ∷ get_or e 3 0 ∷ []

unfoldable pub request_bytes : Kind → Settings → List ℕ
request_bytes k r = with_select (settings_bytes k r)

-- a request for the flags of w, with this RST SWAP and speed code
abbrev pub request_for : Settings → Bool → ℕ → Settings
request_for w reset code = record {
  prdfail = w.prdfail;
  disabled = w.disabled;
  swap = reset;
  flags1 = w.flags1;
  flags2 = w.flags2;
  flags3 = w.flags3;
  speed = code;
}

-- RST SWAP where a SWAP is to be cleared, and a speed code where the speed is to change
abbrev pub clearing : Settings → Settings → Bool
clearing s w = s.swap && not w.swap

abbrev pub turning : ℕ → ℕ → ℕ
turning stored wanted = pick (eqb stored wanted) 0 wanted

-- the element of its own that brings e to w
unfoldable pub own : Kind → List ℕ → List ℕ → List ℕ
own k e w =
    let s : Settings = settings_of k e in
    let x : Settings = settings_of k w in
    request_bytes k (request_for x (clearing s x) (turning s.speed x.speed))

-- the control element c brings e to w
unfoldable pub brings : Kind → Control → List ℕ → List ℕ → Bool
brings k c e w = alike (settled k c e) w

-- the individual element under an overall one that asks for c: none where that does it
unfoldable pub one : Kind → Control → List ℕ → List ℕ → List ℕ
one k c e w = pick (brings k c e w) silent (own k e w)
