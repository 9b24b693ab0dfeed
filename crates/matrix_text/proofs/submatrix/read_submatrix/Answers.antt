use Rattle.text_fields.specs.TextWords.{text_of}
use Rattle.matrix_text.proofs.SubmatrixTexts.{found, only}
use Rattle.matrix_text.proofs.submatrix.read_submatrix.Goals as goal

pub returns-clause-found : goal.returns-clause-found
returns-clause-found c = found c.args.rows c.args.columns (text_of c.args.bytes.now) c.lines_of_text.result c.lines_of_text.ensures

pub returns-clause-only : goal.returns-clause-only
returns-clause-only c = only c.args.rows c.args.columns (text_of c.args.bytes.now) c.lines_of_text.result c.lines_of_text.ensures
