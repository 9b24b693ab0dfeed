-- Pseudorandom numbers, drawn one after another from a state.
use Rattle.std.specs.Prelude.{◌+◌, ◌*◌, ◌/◌, ◌%◌, ℕ, zero, suc, List, [], ◌∷◌}

abbrev pub next_state : ℕ → ℕ
next_state state = (1103515245 * state + 12345) % 2147483648

-- a number below a bound, and the next state
abbrev pub draw : ℕ → ℕ → ℕ × ℕ
draw bound state = ((next_state state / 1024) % bound, next_state state)

-- `count` numbers: the first is below a bound, and each next bound is greater by a step
abbrev pub draws : ℕ → ℕ → ℕ → ℕ → List ℕ × ℕ
draws zero bound step state = ([], state)
draws (suc n) bound step state =
    let first = draw bound state in
    let others = draws n (bound + step) step first.1 in
    (first.0 ∷ others.0, others.1)
