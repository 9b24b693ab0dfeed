-- Lines of a tree's text, word by word.
use Rattle.std.proofs.Common.{◌≡◌, ◌<◌, ◌∙◌, ◌++◌, ◌∷◌, [], ℕ, List, false, length, append_assoc, refl, ap, sym, arith}
use Rattle.std.specs.Prelude.{fold}
use Rattle.std.specs.Fmt.{decimal}
use Rattle.std.specs.List.{flat_map}
use Rattle.std.proofs.lemmas.List.Sums.{fold-append}
use Rattle.cmr_base.specs.declared.network.Network as net
use Rattle.cmr_base.specs.declared.network.Pair.{Pair}
use Rattle.text_fields.specs.Written.{Draft, with_word, with_end, with_line, text_line, text_of_lines}
use Rattle.text_fields.proofs.Lines.{line_written, lines_written}
use Rattle.tree_type.specs.declared.tree.Node.{Node}
use Rattle.tree_type.specs.declared.tree.NodeList.{NodeList}
use Rattle.tree_type.specs.declared.tree.Kind.TheVariants as kind
use Rattle.tree_type.specs.DecompositionTrees.{Finding, Tree, Trees, Branch, tree_of, trees_from, list_of, children_of, nodes_in}
use Rattle.tree_type.proofs.Forests.{count_is}
use Rattle.tree_type.proofs.NodeChildren.{trees_back}
use Rattle.tree_type.proofs.NodeTrees.{said, tree_is, said_one_sum}
use Rattle.tree_text.specs.Versions.{title_word, title_of, version_word}
use Rattle.tree_text.specs.CanonicalTrees.{pair_words, network_words, line_for, own_text_line, opening_lines, node_lines, forest_lines, tree_text, version_of}

-- a line with written words
pub ended_as : (text start : Draft) (words : List (List ℕ)) → text ≡ fold with_word start words → start.is_begun ≡ false → with_end text ≡ with_line start words
ended_as text start words written none = ap with_end written ∙ line_written start words none

line_for_some : (words : List (List ℕ)) → 0 < length words → line_for words ≡ words ∷ []
line_for_some [] some = absurd (omega (arith, some))
line_for_some (word ∷ words) some = refl

some_words : (pairs : List Pair) (more : List (List ℕ)) → 0 < length pairs → 0 < length (flat_map pair_words pairs ++ more)
some_words [] more some = absurd (omega (arith, some))
some_words (pair ∷ pairs) more some = omega arith

some_after : (words more : List (List ℕ)) → 0 < length more → 0 < length (words ++ more)
some_after [] more some = some
some_after (word ∷ words) more some = omega arith

later_words : (words : List (List ℕ)) (pairs : List Pair) → 0 < length pairs → 0 < length (words ++ flat_map pair_words pairs)
later_words words [] some = absurd (omega (arith, some))
later_words words (pair ∷ pairs) some = some_after words (flat_map pair_words (pair ∷ pairs)) (omega arith)

-- the line of a network that has words
pub network_ended : (text middle start : Draft) (n : net.Network) → text ≡ fold with_word middle (flat_map pair_words n.walks)
    → middle ≡ fold with_word start (flat_map pair_words n.arcs) → start.is_begun ≡ false
    → 0 < length (network_words n) → with_end text ≡ fold with_line start (line_for (network_words n))
network_ended text middle start n walks arcs none some =
    let all : text ≡ fold with_word start (network_words n) = walks ∙ ap (λ t. fold with_word t (flat_map pair_words n.walks)) arcs ∙ sym (fold-append with_word start (flat_map pair_words n.arcs) (flat_map pair_words n.walks)) in
    ended_as text start (network_words n) all none ∙ ap (fold with_line start) (sym (line_for_some (network_words n) some))

pub arcs_some : (n : net.Network) → 0 < length n.arcs → 0 < length (network_words n)
arcs_some n some = some_words n.arcs (flat_map pair_words n.walks) some

pub walks_some : (n : net.Network) → 0 < length n.walks → 0 < length (network_words n)
walks_some n some = later_words (flat_map pair_words n.arcs) n.walks some

-- the own line of a one-sum
pub one_sum_line : (node : Node) (children : NodeList) → node.kind ≡ kind.OneSum children → (decimal (length (nodes_in children)) ∷ []) ∷ [] ≡ own_text_line (tree_of node)
one_sum_line node children is =
    sym (ap own_text_line (tree_is node ∙ ap (λ (s : Finding × Trees). Branch node.lines s.0 s.1) (ap said is ∙ said_one_sum children)) ∙ ap (λ n. (decimal n ∷ []) ∷ []) (count_is children))

-- the lines of a node before the lines of its children
pub opening_written : (start after : Draft) (tree : Tree) → after ≡ fold with_line start (opening_lines tree)
    → fold with_line after (forest_lines (trees_from (children_of tree))) ≡ fold with_line start (node_lines tree)
opening_written start after (Branch lines finding trees) written =
    ap (λ (d : Draft). fold with_line d (forest_lines (trees_from (list_of trees)))) written
    ∙ ap (λ ts. fold with_line (fold with_line start (opening_lines (Branch lines finding trees))) (forest_lines ts)) (trees_back trees)
    ∙ sym (fold-append with_line start (opening_lines (Branch lines finding trees)) (forest_lines trees))

-- the lines of another child
pub child_written : (start after total : Draft) (trees rest : List Tree) (tree : Tree) → trees ≡ tree ∷ rest → after ≡ fold with_line start (node_lines tree)
    → fold with_line start (forest_lines (trees_from trees)) ≡ total
    → fold with_line after (forest_lines (trees_from rest)) ≡ total
child_written start after total trees rest tree order written whole =
    ap (λ (d : Draft). fold with_line d (forest_lines (trees_from rest))) written ∙ sym (fold-append with_line start (node_lines tree) (forest_lines (trees_from rest)))
    ∙ ap (λ ts. fold with_line start (forest_lines (trees_from ts))) (sym order) ∙ whole

-- the version, the sizes and the nodes
pub whole_written : (rows columns : ℕ) (tree : Tree) (text : Draft)
    → text ≡ fold with_line (with_line (with_end (with_word (with_word (record { bytes = []; is_begun = false }) (title_word (title_of (version_of tree)))) (version_word (version_of tree)))) (decimal rows ∷ decimal columns ∷ [])) (node_lines tree) → text.bytes ≡ tree_text rows columns tree
whole_written rows columns tree text written =
    let version = with_end (with_word (with_word (record { bytes = []; is_begun = false }) (title_word (title_of (version_of tree)))) (version_word (version_of tree))) in
    let sizes = text_line (decimal rows ∷ decimal columns ∷ []) in
    ap (λ (d : Draft). d.bytes) written ∙ lines_written (with_line version (decimal rows ∷ decimal columns ∷ [])) (node_lines tree) ∙ append_assoc (text_line (title_word (title_of (version_of tree)) ∷ version_word (version_of tree) ∷ [])) sizes (text_of_lines (node_lines tree))
