-- Things whose absence is refuted. In the proof of a negation each distinction of cases is free.
use Rattle.std.proofs.Common.{◌⊎◌, inl, inr}

-- there is no proof that there is none
abbrev pub NotExcluded : Type 0 → Type 0
NotExcluded A = ¬ (¬ A)

pub one_of_two : (A : Type 0) → NotExcluded (A ⊎ (¬ A))
one_of_two A none = none (inr (λ a. none (inl a)))
