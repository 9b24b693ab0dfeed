use Rattle.sparse_matrix.proofs.Matrices.{matrix_entry, matrix_is_ternary}
use Rattle.sparse_matrix.proofs.laws.matrices.Goals as goal

pub returns-clause-ternary : goal.returns-clause-ternary
returns-clause-ternary c = matrix_is_ternary

pub returns-clause-entries : goal.returns-clause-entries
returns-clause-entries c = matrix_entry
