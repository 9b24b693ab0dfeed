-- The consequences of the signings of a matrix, and of a violator.
use Rattle.cmr_base.specs.declared.line_set.LineSet.{LineSet}
use Rattle.cmr_base.specs.Matrix.{Matrix, IsTernary}
use Rattle.cmr_base.specs.Signing.{IsTotallyUnimodular}
use Rattle.determinant_two.proofs.ViolatorsHaveDeterminantTwo.{violators_have_determinant_two}
use Rattle.ghouila.proofs.DeterminantLaw.{ghouila_houri}
use Rattle.ghouila.proofs.HoffmanKruskal.{hoffman_kruskal}
use Rattle.tree_laws.specs.Laws.{IsRefuted}
use Rattle.cmr_evidence.specs.Unimodular.{IsNotUnimodular, IsUnimodular}

pub unimodular : (m : Matrix) → IsTotallyUnimodular m → IsUnimodular m
unimodular m all = record { signings = all; minors = (ghouila_houri m).0 all; vertices = (hoffman_kruskal m).0 all }

pub not_unimodular : (m : Matrix) (fault : LineSet) → IsTernary m → IsRefuted m fault → IsNotUnimodular m fault
not_unimodular m fault ternary refuted = record {
  refuted = refuted;
  minor = violators_have_determinant_two m fault.rows fault.columns ternary refuted.row_set refuted.column_set refuted.violator;
}
