use Rattle.text_fields.specs.TextWords.{text_of}
use Rattle.sparse_text.proofs.LargeTexts.{large_dense_found, large_dense_only}
use Rattle.sparse_text.proofs.dense.read_large_dense.Goals as goal

pub returns-clause-found : goal.returns-clause-found
returns-clause-found c = large_dense_found (text_of c.args.bytes.now) c.dense_matrix.result c.dense_matrix.ensures

pub returns-clause-only : goal.returns-clause-only
returns-clause-only c = large_dense_only (text_of c.args.bytes.now) c.dense_matrix.result c.dense_matrix.ensures
