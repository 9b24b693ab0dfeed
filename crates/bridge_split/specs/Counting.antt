-- The number of nonzeros that the columns have in a list of rows, up to three.
use Rattle.std.specs.Prelude.{◌≡◌, nat_lt, ℕ, false, List, take, count_by}
use Rattle.cmr_base.specs.Matrix.{Matrix, IsMatrix}
use Rattle.cmr_base.specs.BitSets.{Bits}
use Rattle.cmr_base.specs.Trees.{support}
use Rattle.cmr_base.specs.ColumnSets.{has_column}
use Rattle.bridge_split.specs.declared.counts.Counts.{Counts}

-- the columns with more than `many` nonzeros in the rows of S
abbrev pub AreMore : Matrix → List ℕ → ℕ → List ℕ → Type 0
AreMore m S many set = (column : ℕ) → has_column set column ≡ nat_lt many (count_by (λ row. support m row column) S)

pub record AreCounts (m : Matrix) (S : List ℕ) (counts : Counts) : Type 0 where
  pub matrix : IsMatrix m
  pub size : counts.once.size ≡ m.width
  pub once : AreMore m S 0 counts.once.words
  pub twice : AreMore m S 1 counts.twice.words
  pub thrice : AreMore m S 2 counts.thrice.words

-- the columns with at least one nonzero and with at least two in the first rows of S; none has three
pub record HaveNoThird (m : Matrix) (S : List ℕ) (place : ℕ) (ones twos : Bits) : Type 0 where
  pub matrix : IsMatrix m
  pub ones_size : ones.size ≡ m.width
  pub twos_size : twos.size ≡ m.width
  pub once : AreMore m (take place S) 0 ones.words
  pub twice : AreMore m (take place S) 1 twos.words
  pub few : (column : ℕ) → nat_lt 2 (count_by (λ row. support m row column) (take place S)) ≡ false
