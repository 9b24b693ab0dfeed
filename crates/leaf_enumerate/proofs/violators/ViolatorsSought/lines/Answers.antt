use Rattle.std.proofs.Common.{◌≡◌, ℕ, List, sym, subst}
use Rattle.cmr_base.specs.Matrix.{height}
use Rattle.cmr_base.specs.LineSets.{set_numbered}
use Rattle.cmr_base.specs.Violator.{IsLeastByRows, IsLeastColumnSet}
use Rattle.leaf_enumerate.proofs.RowSets.{least_found}
use Rattle.leaf_enumerate.proofs.violators.ViolatorsSought.lines.Goals as goal

pub returns : goal.returns
returns c =
    let m = c.args.matrix.now in
    let columns = c.in-Some.columns in
    let rows : c.in_ok-rows.rows ≡ set_numbered (height m) 0 c.args.number = c.in_ok-rows.ensures.numbered in
    let least = rw c.in-Some.is at c.in_ok-columns.ensures.least in
    subst (λ (rs : List ℕ). IsLeastByRows m rs columns) (sym rows)
    (least_found m c.args.number columns c.requires.inside c.requires.first (subst (λ (rs : List ℕ). IsLeastColumnSet m rs columns) rows least))
