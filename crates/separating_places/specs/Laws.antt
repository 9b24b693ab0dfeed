-- The state after ten draws.
use Rattle.std.specs.Prelude.{◌≡◌, ◌≤◌, ℕ}
use Rattle.cmr_base.specs.Draws.{draws}
use Rattle.separating_places.specs.declared.place.TheConstants.{LATE_STATE}

-- after ten draws from the state 1 the state is `LATE_STATE`, whatever the bounds are
abbrev pub LateStateFollowsTen : Type 0
LateStateFollowsTen = (bound step : ℕ) → (draws 10 bound step 1).1 ≡ LATE_STATE

-- after no other number of draws up to 100
abbrev pub LateStateFollowsTenAlone : Type 0
LateStateFollowsTenAlone = (count bound step : ℕ) → count ≤ 100 → (draws count bound step 1).1 ≡ LATE_STATE → count ≡ 10
