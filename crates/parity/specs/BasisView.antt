use Rattle.std.specs.Prelude.{◌≡◌, ◌<◌, ◌*◌, ◌/◌, ℕ, List, [], ◌∷◌, length, take, drop, slice_index}
use Rattle.parity.specs.declared.basis.Basis.TheInside.{Inside}
use Rattle.parity.specs.declared.narrow.Equation.{Equation}
use Rattle.parity.specs.Equations.{System, number_of}

-- pivots with the words of their equations, which are consecutive
abbrev pub paired : ℕ → List ℕ → List ℕ → List Equation
paired words [] flat = []
paired words (pivot ∷ pivots) flat = record { pivot = pivot; columns = number_of (take words flat) } ∷ paired words pivots (drop words flat)

abbrev pub system_of : Inside → System
system_of a = record { words = a.words; equations = paired a.words a.pivots.items a.equations.items }

pub record IsAligned (a : Inside) : Type 0 where
  pub whole : length a.equations.items ≡ length a.pivots.items * a.words
  pub inside : (k : ℕ) → k < length a.pivots.items → slice_index a.pivots.items k / 64 < a.words
