-- `LATE_STATE` among the states after the first draws.
use Rattle.std.proofs.Common.{◌≡◌, ◌≤◌, ◌<◌, ◌+◌, ◌&&◌, ℕ, zero, suc, Bool, true, cond, nat_eq, refl, arith}
use Rattle.cmr_base.specs.Draws.{draws, next_state}
use Rattle.cmr_base.proofs.Booleans.{and_is, eq_of, is_eq}
use Rattle.separating_places.specs.declared.place.TheConstants.{LATE_STATE}

-- after some draws and each of the next ones the state is `LATE_STATE` only if ten are made
abbrev late_at_ten : ℕ → ℕ → ℕ → Bool
late_at_ten zero made state = true
late_at_ten (suc count) made state = cond (nat_eq state LATE_STATE) (nat_eq made 10) true && late_at_ten count (made + 1) (next_state state)

ten_are_made : (count made state : ℕ) → late_at_ten count made state ≡ true → (more bound step : ℕ) → more < count → (draws more bound step state).1 ≡ LATE_STATE → made + more ≡ 10
ten_are_made zero made state late more bound step few is = absurd (omega arith)
ten_are_made (suc count) made state late zero bound step few is =
    let first = (and_is (cond (nat_eq state LATE_STATE) (nat_eq made 10) true) (late_at_ten count (made + 1) (next_state state)) late).0 in
    let ten : made ≡ 10 = eq_of made 10 (rw (is_eq state LATE_STATE is) at first) in
    omega arith
ten_are_made (suc count) made state late (suc more) bound step few is =
    let others = (and_is (cond (nat_eq state LATE_STATE) (nat_eq made 10) true) (late_at_ten count (made + 1) (next_state state)) late).1 in
    let ten : made + 1 + more ≡ 10 = ten_are_made count (made + 1) (next_state state) others more (bound + step) step (omega arith) is in
    omega arith

pub only_after_ten : (count bound step : ℕ) → count ≤ 100 → (draws count bound step 1).1 ≡ LATE_STATE → count ≡ 10
only_after_ten count bound step few is = let ten : 0 + count ≡ 10 = ten_are_made 101 0 1 refl count bound step (omega arith) is in omega arith
