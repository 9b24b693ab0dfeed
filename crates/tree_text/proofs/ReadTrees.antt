-- A tree that was read is written as a text of the same tree.
use Rattle.std.proofs.Common.{◌≡◌, ◌≤◌, ℕ, List, [], ◌∷◌, None, Ok, subst}
use Rattle.text_fields.specs.TextWords.{Text, text_of}
use Rattle.text_fields.specs.Reading.{field, ended_of}
use Rattle.text_fields.proofs.Results.{bind_ok, ok_same}
use Rattle.tree_type.specs.Invariant.{IsTreeFor}
use Rattle.tree_text.specs.declared.error.TreeKind.TheVariants.{Short, Extra}
use Rattle.tree_text.specs.CanonicalTrees.{tree_text}
use Rattle.tree_text.specs.TreeReading.{PlainTree, node, tree}
use Rattle.tree_text.specs.TreeValues.{limited}
use Rattle.tree_text.specs.Versions.{title_in, version_in}
use Rattle.tree_text.proofs.TreesAgain.{tree_again}
use Rattle.tree_text.proofs.TreesRead.{field_value, root_ok}
use Rattle.tree_text.proofs.WordsRead.{limited_ok}

ended_same : (words : List (ℕ × List ℕ)) (x y : PlainTree) → ended_of Extra x words ≡ Ok y → x ≡ y
ended_same [] x y h = ok_same x y h
ended_same (word ∷ words) x y h = absurd (cc)

pub read_for : (text : Text) (t : PlainTree) → tree text ≡ Ok t → IsTreeFor t.rows t.columns t.root
read_for text t h =
    let title = bind_ok (field Short title_in text) _ t h in
    let version = bind_ok (field Short (version_in title.0.0) title.0.1) _ t title.2 in
    let rows = bind_ok (field Short (limited 1000) version.0.1) _ t version.2 in
    let columns = bind_ok (field Short (limited 1000) rows.0.1) _ t rows.2 in
    let root = bind_ok (node (record { version = version.0.0; sizes = record { rows = rows.0.0; columns = columns.0.0 } }) 2001 None columns.0.1) _ t columns.2 in
    let few_rows = field_value (limited 1000) (λ n. n ≤ 1000) (limited_ok 1000) version.0.1 rows.0 rows.1 in
    let few_columns = field_value (limited 1000) (λ n. n ≤ 1000) (limited_ok 1000) rows.0.1 columns.0 columns.1 in
    subst (λ (t : PlainTree). IsTreeFor t.rows t.columns t.root) (ended_same (root.0.1).words (record { rows = rows.0.0; columns = columns.0.0; root = root.0.0 }) t root.2)
    (root_ok version.0.0 rows.0.0 columns.0.0 columns.0.1 root.0.0 root.0.1 few_rows few_columns root.1)

pub written_again : (text : Text) (t : PlainTree) → tree text ≡ Ok t → tree (text_of (tree_text t.rows t.columns t.root)) ≡ Ok t
written_again text t h = tree_again t.rows t.columns t.root (read_for text t h)
