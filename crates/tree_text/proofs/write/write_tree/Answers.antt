use Rattle.std.proofs.Common.{◌≡◌, ◌≤◌, ◌∙◌, ℕ, List, length, ap, refl, subst, sym}
use Rattle.text_fields.specs.TextWords.{text_of}
use Rattle.tree_type.specs.NodeCounts.{node_count}
use Rattle.tree_type.specs.DecompositionTrees.{tree_of}
use Rattle.tree_text.specs.TreeReading.{tree}
use Rattle.tree_text.specs.CanonicalTrees.{tree_text}
use Rattle.tree_text.proofs.LineCounts.{nodes_have_bytes}
use Rattle.tree_text.proofs.TreesAgain.{tree_again}
use Rattle.tree_text.proofs.WrittenLines.{whole_written}
use Rattle.tree_text.proofs.write.write_tree.Goals as goal

pub returns : goal.returns
returns c =
    let sized = c.args.tree.now in
    let text : c.into_bytes.result.items ≡ tree_text sized.rows sized.columns (tree_of sized.root) =
    c.into_bytes.ensures ∙ whole_written sized.rows sized.columns (tree_of sized.root) c.write_node.new.text
    (rw (c.in_ok-write_node.ensures.lines, c.in_ok-numbers.ensures, c.in_ok-end_line.ensures, c.in_ok-word-2.ensures, c.version_word.ensures, c.in_ok-word.ensures, c.title_word.ensures, c.title_of.ensures, c.version_of-version.ensures, c.new-text.ensures, c.rows.ensures, c.columns.ensures, c.root.ensures.root, c.root-2.ensures.root) refl) in
    record {
      text = text;
      again = ap (λ bytes. tree (text_of bytes)) text ∙ tree_again sized.rows sized.columns (tree_of sized.root) c.root.ensures.tree;
      nodes = subst (λ (bytes : List ℕ). node_count (tree_of sized.root) ≤ length bytes) (sym text) (nodes_have_bytes sized.rows sized.columns (tree_of sized.root));
    }
