use Rattle.cmr_base.specs.declared.limits.TheConstants.{MAX_COLUMNS, MAX_ROWS}
use Rattle.text_fields.specs.TextWords.{text_of}
use Rattle.matrix_text.proofs.BinaryTexts.{sparse_binary}
use Rattle.matrix_text.proofs.SparseTexts.{found, only}
use Rattle.matrix_text.proofs.sparse.read_sparse.Goals as goal

pub returns-clause-found : goal.returns-clause-found
returns-clause-found c = found MAX_ROWS MAX_COLUMNS c.args.binary (text_of c.args.bytes.now) c.sparse_matrix.result c.sparse_matrix.ensures

pub returns-clause-only : goal.returns-clause-only
returns-clause-only c = only MAX_ROWS MAX_COLUMNS c.args.binary (text_of c.args.bytes.now) c.sparse_matrix.result c.sparse_matrix.ensures

pub returns-clause-zeros_and_ones : goal.returns-clause-zeros_and_ones
returns-clause-zeros_and_ones c = sparse_binary c.args.binary (text_of c.args.bytes.now) c.sparse_matrix.result c.sparse_matrix.ensures
