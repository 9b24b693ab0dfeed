use Rattle.std.proofs.lemmas.Result.{err_from_is_err_and}
use Rattle.std.proofs.Common.{subst}
use Rattle.text_fields.specs.Reading.{Fails}
use Rattle.tree_type.specs.DecompositionTrees.{tree_of}
use Rattle.tree_text.specs.TreeReading.{tree}
use Rattle.tree_text.proofs.Nodes.{root_fails}
use Rattle.tree_text.proofs.TreesRead.{root_ok}
use Rattle.tree_text.proofs.read.read_tree.Goals as goal

pub returns-in_err-root : goal.returns-in_err-root
returns-in_err-root c =
    let p = err_from_is_err_and c.from_residual-in_err-root.result c.from_residual-in_err-root.ensures.1 in
    rw (p.1, p.2) (subst (λ text. Fails c.in_err-root.field-0.0 (tree text)) c.new-words.ensures (root_fails c.new-words.result c.title.new.words c.version.new.words c.limited.new.words c.limited-2.new.words c.in_ok-title.title c.in_ok-version.version c.in_ok-rows.rows c.in_ok-columns.columns c.in_err-root.field-0.0 c.in_ok-title.ensures c.in_ok-version.ensures c.in_ok-rows.ensures.read c.in_ok-columns.ensures.read c.in_err-root.ensures))

pub make-requires : goal.make-requires
make-requires c = root_ok c.in_ok-version.version c.in_ok-rows.rows c.in_ok-columns.columns c.limited-2.new.words (tree_of c.in_ok-root.root) c.read_root.new.words c.in_ok-rows.ensures.within c.in_ok-columns.ensures.within c.in_ok-root.ensures
