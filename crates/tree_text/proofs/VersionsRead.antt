-- Words that represent a tree in version 1 represent it in version 2.
use Rattle.std.proofs.Common.{◌≡◌, ℕ, zero, suc, true, List, [], ◌∷◌, ◌++◌, cond, Option, Some, None, Result, Ok, Err, refl, ap, sym, subst}
use Rattle.cmr_base.specs.declared.line_set.LineSet.{LineSet}
use Rattle.text_fields.specs.TextWords.{Text}
use Rattle.text_fields.specs.Result.{◌>>=◌}
use Rattle.text_fields.specs.Reading.{Fault, ended, field, placed, times}
use Rattle.text_fields.proofs.Fields.{field_ok}
use Rattle.text_fields.proofs.Results.{bind_ok, guard_ok}
use Rattle.tree_type.specs.DecompositionTrees.{Finding, Tree, Branch, trees_from}
use Rattle.tree_text.specs.declared.error.TreeKind.{TreeKind}
use Rattle.tree_text.specs.declared.error.TreeKind.TheVariants.{Short, Extra, UnknownKind}
use Rattle.tree_text.specs.declared.header.Header.{Header}
use Rattle.tree_text.specs.declared.header.Title.{Title}
use Rattle.tree_text.specs.declared.header.Title.TheVariants as title
use Rattle.tree_text.specs.declared.header.Version.{Version}
use Rattle.tree_text.specs.declared.header.Version.TheVariants.{One, Two}
use Rattle.tree_text.specs.declared.kind_word.KindWord.{KindWord}
use Rattle.tree_text.specs.declared.kind_word.KindWord.TheVariants as kinds
use Rattle.tree_text.specs.declared.value.Sizes.{Sizes}
use Rattle.tree_text.specs.ReadFindings.{NodeOpening}
use Rattle.tree_text.specs.KindWords.{has_word, kind_among, kind_in, kind_words}
use Rattle.tree_text.specs.TreeReading.{PlainTree, Reader, another_tree, opening, line_set, node, own_part, tree}
use Rattle.tree_text.specs.TreeValues.{limited}
use Rattle.tree_text.specs.Versions.{title_word, title_in, version_in, version_word}
use Rattle.tree_text.proofs.Nodes.{read_whole}

-- version 2 has each word of version 1
more_words : (kind : KindWord) → has_word One kind ≡ true → has_word Two kind ≡ true
more_words kinds.Empty has = refl
more_words kinds.Cycle has = refl
more_words kinds.Reduced has = refl
more_words kinds.OneSum has = refl
more_words kinds.Network has = refl
more_words kinds.Conetwork has = refl
more_words kinds.R10 has = refl
more_words kinds.TwoSum has = refl
more_words (kinds.ThreeSum form) has = refl
more_words kinds.Enumerated has = refl
more_words kinds.Violator has = refl
more_words kinds.Undecided has = refl
more_words kinds.Pivoted has = has

-- a word of version 1 for a kind is a word of version 2 for this kind
kind_kept : (word : List ℕ) (kind : KindWord) → kind_in One word ≡ Ok kind → kind_in Two word ≡ Ok kind
kind_kept word kind h =
    let found = bind_ok (kind_among kind_words word) (λ k. cond (has_word One k) (Ok k) (Err UnknownKind)) kind h in
    let same = guard_ok (has_word One found.0) found.0 kind UnknownKind found.2 in
    rw (found.1, more_words found.0 same.0) (ap Ok same.1)

field_kept : {A : Type 0} (first second : List ℕ → Result A TreeKind) → ((word : List ℕ) (x : A) → first word ≡ Ok x → second word ≡ Ok x)
    → (text : Text) (x : A × Text) → field Short first text ≡ Ok x → field Short second text ≡ Ok x
field_kept first second kept text x h =
    let read = field_ok Short first text x.0 x.1 h in
    rw (read.words_are, kept read.word.1 x.0 read.parsed) (ap (λ size. Ok (x.0, record { size = size; words = (x.1).words })) read.size_is)

times_kept : {A : Type 0} (first second : A → Reader A) → ((s : A) (text : Text) (x : A × Text) → first s text ≡ Ok x → second s text ≡ Ok x)
    → (n : ℕ) (s : A) (text : Text) (x : A × Text) → times first n s text ≡ Ok x → times second n s text ≡ Ok x
times_kept first second kept zero s text x h = h
times_kept {A} first second kept (suc n) s text x h =
    let next = bind_ok (first s text) (λ (next : A × Text). times first n next.0 next.1) x h in
    rw (kept s text next.0 next.1) (times_kept first second kept n next.0.0 next.0.1 x next.2)

abbrev in_version : Sizes → Version → Header
in_version sizes version = record { version = version; sizes = sizes }

module _ (sizes : Sizes) where
  opening_kept : (parent : Option LineSet) (text : Text) (head : NodeOpening × Text) → opening (in_version sizes One) parent text ≡ Ok head → opening (in_version sizes Two) parent text ≡ Ok head
  opening_kept parent text head h =
      let kind = bind_ok (field Short (kind_in One) text) (λ (kind : KindWord × Text). line_set sizes parent kind.1 >>= λ (lines : LineSet × Text). own_part sizes lines.0 kind.0 lines.1 >>= λ (own : (Finding × ℕ) × Text). Ok (record { lines = lines.0; finding = (own.0).0; children = (own.0).1 }, own.1)) head h in
      rw (field_kept (kind_in One) (kind_in Two) kind_kept text kind.0 kind.1) kind.2

  child_kept : (levels : ℕ) (lines : LineSet)
      → ((text : Text) (tree : Tree × Text) → node (in_version sizes One) levels (Some lines) text ≡ Ok tree → node (in_version sizes Two) levels (Some lines) text ≡ Ok tree)
      → (trees : List Tree) (text : Text) (next : List Tree × Text) → another_tree (node (in_version sizes One) levels (Some lines)) trees text ≡ Ok next
      → another_tree (node (in_version sizes Two) levels (Some lines)) trees text ≡ Ok next
  child_kept levels lines kept trees text next h =
      let tree = bind_ok (node (in_version sizes One) levels (Some lines) text) (λ (tree : Tree × Text). Ok (trees ++ tree.0 ∷ [], tree.1)) next h in
      rw (kept text tree.0 tree.1) tree.2

  node_kept : (levels : ℕ) (parent : Option LineSet) (text : Text) (tree : Tree × Text) → node (in_version sizes One) levels parent text ≡ Ok tree
      → node (in_version sizes Two) levels parent text ≡ Ok tree
  node_kept zero parent text tree h = h
  node_kept (suc levels) parent text tree h =
      let head = bind_ok (opening (in_version sizes One) parent text) (λ (head : NodeOpening × Text). times (another_tree (node (in_version sizes One) levels (Some (head.0).lines))) (head.0).children [] head.1 >>= λ (children : List Tree × Text). Ok (Branch (head.0).lines (head.0).finding (trees_from children.0), children.1)) tree h in
      let lines = (head.0.0).lines in
      let first = another_tree (node (in_version sizes One) levels (Some lines)) in
      let second = another_tree (node (in_version sizes Two) levels (Some lines)) in
      let children = bind_ok (times first (head.0.0).children [] head.0.1) (λ (children : List Tree × Text). Ok (Branch lines (head.0.0).finding (trees_from children.0), children.1)) tree head.2 in
      rw (opening_kept parent text head.0 head.1, times_kept first second (child_kept levels lines (node_kept levels (Some lines))) (head.0.0).children [] head.0.1 children.0 children.1) children.2

-- the words before the root, with a reader for the root
module _ (read : Header → Reader Tree) (kept : (sizes : Sizes) (text : Text) (tree : Tree × Text) → read (in_version sizes One) text ≡ Ok tree → read (in_version sizes Two) text ≡ Ok tree) where
  abbrev rest : Version → Text → Result PlainTree (Fault TreeKind)
  rest version text = do
    rows ← field Short (limited 1000) text
    columns ← field Short (limited 1000) rows.1
    root ← read (in_version (record { rows = rows.0; columns = columns.0 }) version) columns.1
    ended Extra (record { rows = rows.0; columns = columns.0; root = root.0 }) root.1

  rest_kept : (text : Text) (t : PlainTree) → rest One text ≡ Ok t → rest Two text ≡ Ok t
  rest_kept text t h =
      let rows = bind_ok (field Short (limited 1000) text) _ t h in
      let columns = bind_ok (field Short (limited 1000) rows.0.1) _ t rows.2 in
      let sizes : Sizes = record { rows = rows.0.0; columns = columns.0.0 } in
      let root = bind_ok (read (in_version sizes One) columns.0.1) _ t columns.2 in
      rw (rows.1, columns.1, kept sizes columns.0.1 root.0 root.1) root.2

  versioned : (version : Version) (size : ℕ) (word : ℕ × List ℕ) (words : List (ℕ × List ℕ)) → word.1 ≡ version_word version → version_in title.Tree (version_word version) ≡ Ok version
      → field Short (version_in title.Tree) (record { size = size; words = word ∷ words }) ≡ Ok (version, record { size = size; words = words })
  versioned version size word words is known = rw (is, known) refl

  module _ (size : ℕ) (name : ℕ × List ℕ) (words : List (ℕ × List ℕ)) where
    abbrev text_from : (ℕ × List ℕ) → Title → Result (Title × Text) (Fault TreeKind)
    text_from word titled = Ok (titled, record { size = size; words = word ∷ words })

    abbrev after_version : Result (Version × Text) (Fault TreeKind) → Result PlainTree (Fault TreeKind)
    after_version read_version = read_version >>= λ version. rest version.0 version.1

    abbrev after_title : (ℕ × List ℕ) → Result Title TreeKind → Result PlainTree (Fault TreeKind)
    after_title word titled = (placed name.0 titled >>= text_from word) >>= λ found. after_version (field Short (version_in found.0) found.1)

    titled_kept : (first second : ℕ × List ℕ) (t : PlainTree) → first.1 ≡ version_word One → second.1 ≡ version_word Two
        → after_title first (Ok title.Tree) ≡ Ok t → after_title second (Ok title.Tree) ≡ Ok t
    titled_kept first second t one two h =
        let begun = subst (λ r. after_version r ≡ Ok t) (versioned One size first words one refl) h in
        subst (λ r. after_version r ≡ Ok t) (sym (versioned Two size second words two refl)) (rest_kept (record { size = size; words = words }) t begun)

  whole_kept : (size : ℕ) (name first second : ℕ × List ℕ) (words : List (ℕ × List ℕ)) (t : PlainTree) → name.1 ≡ title_word title.Tree → first.1 ≡ version_word One → second.1 ≡ version_word Two
      → read_whole read (record { size = size; words = name ∷ first ∷ words }) ≡ Ok t → read_whole read (record { size = size; words = name ∷ second ∷ words }) ≡ Ok t
  whole_kept size name first second words t titled one two h =
      let is : title_in name.1 ≡ Ok title.Tree = ap title_in titled in
      subst (λ r. after_title size name words second r ≡ Ok t) (sym is) (titled_kept size name words first second t one two (subst (λ r. after_title size name words first r ≡ Ok t) is h))

pub read_in_version_two : (size : ℕ) (name first second : ℕ × List ℕ) (words : List (ℕ × List ℕ)) (t : PlainTree) → name.1 ≡ title_word title.Tree
    → first.1 ≡ version_word One → second.1 ≡ version_word Two
    → tree (record { size = size; words = name ∷ first ∷ words }) ≡ Ok t → tree (record { size = size; words = name ∷ second ∷ words }) ≡ Ok t
read_in_version_two = whole_kept (λ header. node header 2001 None) (λ sizes. node_kept sizes 2001 None)
