-- A node, read from its opening and its children.
use Rattle.std.proofs.Common.{◌≡◌, ◌-◌, ◌∙◌, ◌+◌, ◌++◌, ◌∷◌, [], ℕ, suc, List, length, map, Option, Some, None, Result, Ok, Err, refl, ap, sym, arith}
use Rattle.std.proofs.lemmas.List.{length-map, length_push}
use Rattle.cmr_base.specs.declared.line_set.LineSet.{LineSet}
use Rattle.text_fields.specs.TextWords.{Text}
use Rattle.text_fields.specs.Result.{◌>>=◌}
use Rattle.text_fields.specs.Reading.{Fault, field, times, ended, Fails}
use Rattle.text_fields.specs.declared.error.FieldError.{FieldError}
use Rattle.text_fields.specs.declared.error.FieldError.TheVariants as errors
use Rattle.text_fields.proofs.Results.{bind_ok, ok_same}
use Rattle.text_fields.proofs.Fields.{bind_fails}
use Rattle.tree_type.specs.declared.tree.Node.{Node}
use Rattle.tree_type.specs.DecompositionTrees.{Tree, Branch, tree_of, trees_from}
use Rattle.tree_text.specs.declared.error.TreeKind.{TreeKind}
use Rattle.tree_text.specs.declared.error.TreeKind.TheVariants.{Short, Extra}
use Rattle.tree_text.specs.declared.header.Header.{Header}
use Rattle.tree_text.specs.declared.header.Title.{Title}
use Rattle.tree_text.specs.declared.header.Version.{Version}
use Rattle.tree_text.specs.TreeValues.{limited}
use Rattle.tree_text.specs.Versions.{title_in, version_in}
use Rattle.tree_text.specs.ReadFindings.{NodeOpening}
use Rattle.tree_text.specs.TreeReading.{Reader, PlainTree, another_tree, opening, node, tree}

pub levels_left : (header : Header) (levels : ℕ) (parent : Option LineSet) (text : Text) → ¬ (levels ≡ 0) → node header levels parent text ≡ node header (suc (levels - 1)) parent text
levels_left header levels parent text some = let more : levels ≡ suc (levels - 1) = omega (arith, some) in ap (λ k. node header k parent text) more

module _ (header : Header) (levels : ℕ) (parent : Option LineSet) (text : Text) (head : NodeOpening) (rest : Text) (read : opening header parent text ≡ Ok (head, rest)) where
  abbrev pub children : Result (List Tree × Text) (Fault TreeKind)
  children = times (another_tree (node header levels (Some head.lines))) head.children [] rest

  pub children_fail : (e : FieldError TreeKind) → Fails e children → Fails e (node header (suc levels) parent text)
  children_fail e fails = rw read (bind_fails e children (λ (children : List Tree × Text). Ok (Branch head.lines head.finding (trees_from children.0), children.1)) fails)

  pub node_made : (trees : List Tree) (left : Text) → children ≡ Ok (trees, left) → node header (suc levels) parent text ≡ Ok (Branch head.lines head.finding (trees_from trees), left)
  node_made trees left made = rw (read, made) refl

err_same : {A E : Type 0} (x y : E) → ◌≡◌ {A = Result A E} (Err x) (Err y) → x ≡ y
err_same x y h = cc

pub child_fails : (read : Reader Tree) (trees : List Tree) (text : Text) (e : FieldError TreeKind) → Fails e (read text) → Fails e (another_tree read trees text)
child_fails read trees text e fails = bind_fails e (read text) (λ (tree : Tree × Text). Ok (trees ++ tree.0 ∷ [], tree.1)) fails

pub child_joined : (read : Reader Tree) (trees : List Tree) (text : Text) (tree : Tree) (rest : Text) → read text ≡ Ok (tree, rest) → another_tree read trees text ≡ Ok (trees ++ tree ∷ [], rest)
child_joined read trees text tree rest made = rw made refl

-- the reader has read another tree
pub one_more : (read : Reader Tree) (trees : List Tree) (text : Text) (next : List Tree) (rest : Text) → another_tree read trees text ≡ Ok (next, rest)
    → (tree : Tree) × (read text ≡ Ok (tree, rest)) × (next ≡ trees ++ tree ∷ [])
one_more read trees text next rest made =
    let b = bind_ok (read text) (λ (tree : Tree × Text). Ok (trees ++ tree.0 ∷ [], tree.1)) (next, rest) made in
    let e = ok_same (trees ++ b.0.0 ∷ [], b.0.1) (next, rest) b.2 in
    (b.0.0, b.1 ∙ ap (λ (p : List Tree × Text). Ok (b.0.0, p.1)) e, sym (ap (λ (p : List Tree × Text). p.0) e))

pub one_node_more : (read : Reader Tree) (nodes next : List Node) (text rest : Text) → another_tree read (map tree_of nodes) text ≡ Ok (map tree_of next, rest) → length next ≡ length nodes + 1
one_node_more read nodes next text rest made =
    let one = one_more read (map tree_of nodes) text (map tree_of next) rest made in
    sym (length-map next tree_of) ∙ ap length one.2 ∙ length_push (map tree_of nodes) one.0 ∙ ap (λ n. n + 1) (length-map nodes tree_of)

abbrev push : Tree × Text → Result (List Tree × Text) (Fault TreeKind)
push found = Ok (found.0 ∷ [], found.1)

-- a text that fails at the first tree fails as a list of trees
pub first_fails : (read : Reader Tree) (text : Text) (e : FieldError TreeKind) → Fails e (another_tree read [] text) → Fails e (read text)
first_fails read text errors.Memory fails = tt
first_fails read text (errors.Fault kind place) fails = go (read text) fails
  where
    go : (r : Result (Tree × Text) (Fault TreeKind)) → (r >>= push) ≡ Err (kind, place) → r ≡ Err (kind, place)
    go (Ok found) h = absurd (cc)
    go (Err fault) h = ap Err (err_same fault (kind, place) h)

-- the only tree that was read is the last one
pub only_one : (read : Reader Tree) (text : Text) (others : List Node) (root : Node) (rest : Text)
    → another_tree read [] text ≡ Ok (map tree_of (others ++ root ∷ []), rest) → read text ≡ Ok (tree_of root, rest)
only_one read text others root rest made =
    let one = one_more read [] text (map tree_of (others ++ root ∷ [])) rest made in
    go others one.0 one.1 one.2
  where
    go : (others : List Node) (tree : Tree) → read text ≡ Ok (tree, rest) → map tree_of (others ++ root ∷ []) ≡ tree ∷ [] → read text ≡ Ok (tree_of root, rest)
    go [] tree made e = let same : tree_of root ≡ tree = cc in made ∙ ap (λ t. Ok (t, rest)) (sym same)
    go (x ∷ []) tree made e = absurd (cc)
    go (x ∷ y ∷ others) tree made e = absurd (cc)

pub not_none : (read : Reader Tree) (text : Text) (nodes : List Node) (rest : Text) → another_tree read [] text ≡ Ok (map tree_of nodes, rest) → length nodes ≡ 0 → ⊥
not_none read text nodes rest made none = let more = one_node_more read [] nodes text rest made in omega (arith, more, none)

-- the words before the root, with a reader for the root
abbrev pub read_whole : (Header → Reader Tree) → Text → Result PlainTree (Fault TreeKind)
read_whole read text = do
  title ← field Short title_in text
  version ← field Short (version_in title.0) title.1
  rows ← field Short (limited 1000) version.1
  columns ← field Short (limited 1000) rows.1
  root ← read (record { version = version.0; sizes = record { rows = rows.0; columns = columns.0 } }) columns.1
  ended Extra (record { rows = rows.0; columns = columns.0; root = root.0 }) root.1

whole_fails : (read : Header → Reader Tree) (text title_text version_text rows_text columns_text : Text) (title : Title) (version : Version) (rows columns : ℕ) (e : FieldError TreeKind)
    → field Short title_in text ≡ Ok (title, title_text) → field Short (version_in title) title_text ≡ Ok (version, version_text)
    → field Short (limited 1000) version_text ≡ Ok (rows, rows_text) → field Short (limited 1000) rows_text ≡ Ok (columns, columns_text)
    → Fails e (read (record { version = version; sizes = record { rows = rows; columns = columns } }) columns_text) → Fails e (read_whole read text)
whole_fails read text title_text version_text rows_text columns_text title version rows columns e named versioned row_count column_count fails =
    rw (named, versioned, row_count, column_count)
    (bind_fails e (read (record { version = version; sizes = record { rows = rows; columns = columns } }) columns_text) (λ (root : Tree × Text). ended Extra (record { rows = rows; columns = columns; root = root.0 }) root.1) fails)

-- a text that fails at the root fails as a whole
pub root_fails : (text title_text version_text rows_text columns_text : Text) (title : Title) (version : Version) (rows columns : ℕ) (e : FieldError TreeKind)
    → field Short title_in text ≡ Ok (title, title_text) → field Short (version_in title) title_text ≡ Ok (version, version_text)
    → field Short (limited 1000) version_text ≡ Ok (rows, rows_text) → field Short (limited 1000) rows_text ≡ Ok (columns, columns_text)
    → Fails e (node (record { version = version; sizes = record { rows = rows; columns = columns } }) 2001 None columns_text) → Fails e (tree text)
root_fails text title_text version_text rows_text columns_text title version rows columns e = whole_fails (λ header. node header 2001 None) text title_text version_text rows_text columns_text title version rows columns e
