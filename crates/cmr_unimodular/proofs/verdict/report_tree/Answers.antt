use Rattle.std.proofs.Common.{sym, subst}
use Rattle.tree_laws.specs.Laws.{VerdictMeans}
use Rattle.cmr_unimodular.proofs.verdict.report_tree.Goals as goal

pub verdict_text-requires-clause-means : goal.verdict_text-requires-clause-means
verdict_text-requires-clause-means c = subst (VerdictMeans c.args.matrix.now) (sym c.verdict-found.ensures) c.requires

pub push_fault-requires : goal.push_fault-requires
push_fault-requires c = subst (VerdictMeans c.args.matrix.now) (sym c.verdict-found.ensures) c.requires
