-- The runs of numbers that the workers of a round test.
use Rattle.std.specs.Prelude.{ℕ, ◌<◌, ◌≤◌, ◌+◌, ◌*◌, min, Option, Some, None}
use Rattle.first_hit.specs.declared.round.Round.{Round}

-- the start of a worker's run of a row: a row has one run for each worker, in the workers' order
abbrev pub run_start : Round → ℕ → ℕ → ℕ
run_start round row worker = round.from + (row * round.workers + worker) * round.run

-- no number below a bound in the first rows of the workers from `low` to below `high` satisfies the predicate
abbrev pub NoneInRows : (ℕ → Type 0) → Round → ℕ → ℕ → ℕ → ℕ → Type 0
NoneInRows holds round rows low high bound = (row worker k : ℕ) → row < rows → low ≤ worker → worker < high
    → run_start round row worker ≤ k → k < run_start round row worker + round.run → k < bound → ¬ (holds k)

-- the least number in the runs of the workers from `low` to below `high` that satisfies the predicate, and `None` if there is none
abbrev pub IsFirstInRuns : (ℕ → Type 0) → Round → ℕ → ℕ → Option ℕ → Type 0
IsFirstInRuns holds round low high None = NoneInRows holds round round.rows low high round.to
IsFirstInRuns holds round low high (Some k) = (round.from ≤ k) × (k < round.to) × holds k × NoneInRows holds round round.rows low high k

-- the lesser of two results
abbrev pub lesser : Option ℕ → Option ℕ → Option ℕ
lesser None two = two
lesser (Some one) None = Some one
lesser (Some one) (Some two) = Some (min one two)
