use Rattle.text_fields.specs.TextWords.{text_of}
use Rattle.sparse_text.proofs.LargeTexts.{large_sparse_found, large_sparse_only}
use Rattle.sparse_text.proofs.sparse.read_large_sparse.Goals as goal

pub returns-clause-found : goal.returns-clause-found
returns-clause-found c = large_sparse_found (text_of c.args.bytes.now) c.sparse_matrix.result c.sparse_matrix.ensures

pub returns-clause-only : goal.returns-clause-only
returns-clause-only c = large_sparse_only (text_of c.args.bytes.now) c.sparse_matrix.result c.sparse_matrix.ensures
