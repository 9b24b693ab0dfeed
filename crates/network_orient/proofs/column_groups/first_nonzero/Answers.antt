use Rattle.std.proofs.Common.{◌≡◌, ◌≢◌, ◌<◌, ◌≤◌, ℕ, pos, true, false, arith, Option, Some, None, MatchOption}
use Rattle.cmr_base.specs.Matrix.{Matrix, entry}
use Rattle.cmr_base.specs.Trees.{support}
use Rattle.cmr_base.proofs.Booleans.{nonzero_is, zero_is}
use Rattle.network_orient.proofs.column_groups.first_nonzero.Goals as goal

module _ (m : Matrix) (row : ℕ) where
  by_entries : (found : Option ℕ)
      → MatchOption found ((column : ℕ) → 0 ≤ column → support m row column ≡ false) (λ next. (0 ≤ next) × (next < m.width) × (support m row next ≡ true) × ((column : ℕ) → 0 ≤ column → column < next → support m row column ≡ false))
      → MatchOption found ((column : ℕ) → entry m row column ≡ pos 0) (λ column. (column < m.width) × (entry m row column ≢ pos 0))
  by_entries None none = λ column. zero_is (entry m row column) (none column (omega arith))
  by_entries (Some next) here = (here.1, nonzero_is (entry m row next) here.2)

pub returns : goal.returns
returns c = by_entries c.args.matrix.now c.args.row c.next_nonzero.result c.next_nonzero.ensures.first
