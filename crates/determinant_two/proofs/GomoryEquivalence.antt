-- A matrix is totally unimodular if and only if no square submatrix has determinant 2 or -2.
use Rattle.cmr_base.specs.Matrix.{Matrix, entry, IsTernary}
use Rattle.cmr_base.specs.Determinants.{determinant}
use Rattle.cmr_base.specs.Signing.{IsTotallyUnimodular}
use Rattle.ghouila.proofs.CamionLaw.{camion}
use Rattle.ghouila.proofs.DeterminantLaw.{ghouila_houri}
use Rattle.determinant_two.specs.DeterminantTwo.{HasNoDeterminantTwo}
use Rattle.determinant_two.specs.Laws.{GomoryEquivalence}
use Rattle.determinant_two.proofs.SmallestMinors.{two_not_entry}
use Rattle.determinant_two.proofs.ViolatorsHaveDeterminantTwo.{violators_have_determinant_two}

none_of_unimodular : (m : Matrix) → IsTotallyUnimodular m → HasNoDeterminantTwo m
none_of_unimodular m all rows columns row_set column_set square two = two_not_entry (determinant (entry m) rows columns) two ((ghouila_houri m).0 all rows columns row_set column_set square)

unimodular_of_none : (m : Matrix) → IsTernary m → HasNoDeterminantTwo m → IsTotallyUnimodular m
unimodular_of_none m ternary none = (camion m ternary.small).1 (λ rows columns row_set column_set v.
    let has = violators_have_determinant_two m rows columns ternary row_set column_set v in
    none has.minor_rows has.minor_columns has.row_set has.column_set has.square has.two)

pub gomory_equivalence : GomoryEquivalence
gomory_equivalence m ternary = (none_of_unimodular m, unimodular_of_none m ternary)
