-- The least number of a range that satisfies a predicate.
use Rattle.std.specs.Prelude.{ℕ, ◌<◌, ◌≤◌, Option, Some, None}

-- no number from `from` to below `to` satisfies the predicate
abbrev pub NoneBetween : (ℕ → Type 0) → ℕ → ℕ → Type 0
NoneBetween holds from to = (k : ℕ) → from ≤ k → k < to → ¬ (holds k)

-- the least number of the range that satisfies the predicate, and `None` if and only if there is none
abbrev pub IsFirst : (ℕ → Type 0) → ℕ → ℕ → Option ℕ → Type 0
IsFirst holds from to None = NoneBetween holds from to
IsFirst holds from to (Some k) = (from ≤ k) × (k < to) × holds k × NoneBetween holds from k
