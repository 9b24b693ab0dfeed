-- Sums over lists, and integers by their parity and modulo four.
use Rattle.std.specs.Prelude.{◌≡◌, ℤ, pos, ◌+ℤ◌, List, [], ◌∷◌}

-- the sum of f over the items
abbrev pub sum_over : {A : Type 0} → List A → (A → ℤ) → ℤ
sum_over [] f = pos 0
sum_over (x ∷ xs) f = f x +ℤ sum_over xs f

-- twice an integer
abbrev pub IsEven : ℤ → Type 0
IsEven z = (k : ℤ) × (z ≡ k +ℤ k)

-- one less than an even number
abbrev pub IsOdd : ℤ → Type 0
IsOdd z = IsEven (z +ℤ pos 1)

-- two more than a multiple of four
abbrev pub IsTwoModFour : ℤ → Type 0
IsTwoModFour z = (k : ℤ) × (z ≡ pos 2 +ℤ ((k +ℤ k) +ℤ (k +ℤ k)))
