use Rattle.std.proofs.Common.{◌^◌, ◌∙◌, ap, sym, subst}
use Rattle.cmr_base.specs.LineSets.{set_numbered}
use Rattle.cmr_base.specs.Violator.{IsLeastColumnSet}
use Rattle.parity.specs.Equations.{solved}
use Rattle.parity.proofs.wide.WideSearch.first.Goals as goal

pub returns-clause-least : goal.returns-clause-least
returns-clause-least c =
    let m = c.args.self.now.matrix.now in
    let least = rw c.in-Some.is at c.in_ok-free.ensures.least in
    subst (IsLeastColumnSet m c.args.rows.now) (sym (c.in_ok-columns.ensures ∙ ap (λ n. set_numbered n 0 (solved c.free_column.new.self.basis.equations (2 ^ c.in-Some.free))) c.columns-count.ensures.columns)) least
