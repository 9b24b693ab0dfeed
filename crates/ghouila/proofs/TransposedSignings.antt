-- Signings of the rows and signings of the columns.
use Rattle.std.proofs.Common.{◌↔◌, ℕ, ℤ, subst}
use Rattle.std.proofs.Math.Path.{fun_ext}
use Rattle.cmr_base.specs.Matrix.{Matrix, entry, transposed, IsRectangular, IsTernary}
use Rattle.cmr_base.specs.Signing.{IsTotallyUnimodular}
use Rattle.cmr_base.specs.Violator.{HasNoViolator, IsViolator}
use Rattle.cmr_base.proofs.Parts.{entry-transposed_rectangular, is_ternary-transposed}
use Rattle.cmr_base.proofs.TransposedLemmas.{column_set_from_transposed, none_from_transposed_rectangular, row_set_from_transposed}
use Rattle.cmr_base.proofs.ViolatorLemmas.{violator-transposed}
use Rattle.ghouila.proofs.CamionLaw.{camion}

none_of_transposed : (m : Matrix) → IsRectangular m → HasNoViolator m → HasNoViolator (transposed m)
none_of_transposed m is none rows columns row_set column_set violator =
    none columns rows (row_set_from_transposed m columns column_set) (column_set_from_transposed m rows row_set)
    (violator-transposed (λ column row. entry m row column) rows columns
    (subst (λ (M : ℕ → ℕ → ℤ). IsViolator M rows columns) (fun_ext (λ column. fun_ext (λ row. entry-transposed_rectangular m row column is))) violator))

-- a matrix is totally unimodular if and only if the transposed matrix is
pub transposed_unimodular : (m : Matrix) → IsTernary m → IsTotallyUnimodular m ↔ IsTotallyUnimodular (transposed m)
transposed_unimodular m is =
    let both = camion m is.small in
    let of_transposed = camion (transposed m) (is_ternary-transposed m is).small in (
      λ rows. of_transposed.1 (none_of_transposed m is.rectangular (both.0 rows)),
      λ columns. both.1 (none_from_transposed_rectangular m is.rectangular (of_transposed.0 columns)),
    )
