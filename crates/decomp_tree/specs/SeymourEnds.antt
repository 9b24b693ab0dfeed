-- What the end of the pivots says of the open lines if Seymour's theorem holds.
use Rattle.std.specs.Prelude.{◌⊎◌, ℕ, zero, suc}
use Rattle.cmr_base.specs.declared.line_set.LineSet.{LineSet}
use Rattle.cmr_base.specs.Matrix.{Matrix, IsMatrix}
use Rattle.cmr_base.specs.Violator.{HasNoViolator}
use Rattle.block_ranks.specs.BlockRanks.{HasNoRankSeparation}
use Rattle.tree_type.specs.Invariant.{AreLines}
use Rattle.tree_type.specs.Soundness.{part}
use Rattle.decomp_tree.specs.Shapes.{IsFirstCase, IsLeft}
use Rattle.decomp_tree.specs.OpenEnds.{HasEnd, LeavesOpen}

-- all these pivots are made, and lines stay open after each
abbrev pub AreAllMade : (limit pivots state : ℕ) → Matrix → LineSet → Type 0
AreAllMade limit zero state m lines = Unit {0}
AreAllMade limit (suc pivots) state m lines = LeavesOpen limit state (AreAllMade limit pivots) m lines

-- Seymour's theorem for a matrix that reaches the last case: it has a three-separation, or it is not totally unimodular.
abbrev pub SeymourDecomposes : Type 0
SeymourDecomposes = (limit : ℕ) (n : Matrix) → IsMatrix n → IsFirstCase limit n IsLeft → HasNoRankSeparation n → ¬ (HasNoViolator n)

-- if it holds, all pivots are made, or the lines that are left open have a violator
abbrev pub OpenEndsRefute : Type 0
OpenEndsRefute = SeymourDecomposes → (limit pivots : ℕ) (m : Matrix) (lines : LineSet) → IsMatrix m → AreLines m lines → (end : HasEnd limit pivots m lines)
    → AreAllMade limit end.made 1 m lines ⊎ (¬ (HasNoViolator (part m lines)))
