-- The support of a matrix as a 0/1 matrix.
use Rattle.std.specs.Prelude.{ℕ, ℤ, pos, cond}
use Rattle.cmr_base.specs.Matrix.{Matrix}
use Rattle.cmr_base.specs.Trees.{support}

-- 1 if the entry is nonzero, otherwise 0
abbrev pub one_at : Matrix → ℕ → ℕ → ℤ
one_at m row column = cond (support m row column) (pos 1) (pos 0)
