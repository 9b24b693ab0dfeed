-- Sets of lines with a line or without it, and sets of two.
use Rattle.std.specs.Prelude.{◌++◌, ℕ, Bool, if◌then◌else◌, List, [], ◌∷◌, filter, min, max, nat_lt}

-- the set with the line or without it
abbrev pub with_or_without : List ℕ → ℕ → Bool → List ℕ
with_or_without lines line has = (filter (λ other. nat_lt other line) lines ++ (if has then line ∷ [] else [])) ++ filter (λ other. nat_lt line other) lines

-- two lines, the lower one first
abbrev pub two_lines : ℕ → ℕ → List ℕ
two_lines one other = min one other ∷ max one other ∷ []
