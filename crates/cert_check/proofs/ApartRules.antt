-- The rule on one-sums from the tests of the code.
use Rattle.std.proofs.Common.{◌≡◌, ◌≢◌, ◌≤◌, ◌<◌, ◌+◌, ◌↔◌, ◌∙◌, ◌&&◌, IsTrue, cond, ℕ, zero, suc, ℤ, pos, Bool, true, false, List, [], ◌∷◌, length, map, get_or, Contains, refl, ap, sym, subst, arith}
use Rattle.std.proofs.lemmas.Bool.{true≢false}
use Rattle.std.specs.Prelude.{count_by}
use Rattle.std.specs.List.{AllByRecursion, list_any}
use Rattle.cmr_base.specs.declared.line_set.LineSet.{LineSet}
use Rattle.cmr_base.specs.Matrix.{Matrix, entry}
use Rattle.tree_type.specs.Sides.{is_among}
use Rattle.cmr_base.proofs.Lists.{all_weaker, all_contained, all_contain}
use Rattle.cmr_base.proofs.Booleans.{or_false}
use Rattle.tree_type.specs.declared.refusal.Rule.{Rule}
use Rattle.tree_type.specs.declared.refusal.Rule.TheVariants as rule
use Rattle.tree_type.specs.declared.tree.Node.{Node}
use Rattle.tree_type.specs.declared.tree.NodeList.{NodeList}
use Rattle.tree_type.specs.DecompositionTrees.{OneSum, trees_from, tree_of, nodes_in, trees_of}
use Rattle.tree_type.specs.Invariant.{size_of}
use Rattle.tree_type.specs.Places.{lines_of_each}
use Rattle.tree_type.specs.Soundness.{AreApart, Demands, rule_number}
use Rattle.tree_type.proofs.Forests.{trees_are}
use Rattle.cert_check.specs.Answers.{IsFirstBrokenRule, unless}
use Rattle.cert_check.specs.NodeLines.{line_sets}
use Rattle.cert_check.proofs.Answering.{lines_is}
use Rattle.std.proofs.lemmas.List.Sums.{sum_by-cons}

pub lines_at : (P : LineSet → Type 0) (nodes : List Node) (i : ℕ) (child other : Node) → i < length nodes → child ≡ get_or nodes i other → AllByRecursion P (line_sets nodes) → P child.lines
lines_at P [] i child other l e h = absurd (omega (arith, l))
lines_at P (node ∷ nodes) zero child other l e h = subst (λ n. P n.lines) (sym e) h.0
lines_at P (node ∷ nodes) (suc i) child other l e h = lines_at P nodes i child other (omega (arith, l)) e h.1

-- ---- the child that has a row

abbrev has_both : ℕ → ℕ → LineSet → Bool
has_both row column child = is_among child.rows row && is_among child.columns column

-- exactly one child in `rest` has the row, and its columns beside the row are the columns beside the row in all children
pub record IsBeside (all : List LineSet) (row : ℕ) (rest : List LineSet) : Type 0 where
  pub one : count_by (λ child. is_among child.rows row) rest ≡ 1
  pub same : (column : ℕ) → list_any (has_both row column) all ≡ list_any (has_both row column) rest

count_yes : (test : LineSet → Bool) (child : LineSet) (children : List LineSet) → test child ≡ true → count_by test (child ∷ children) ≡ 1 + count_by test children
count_yes test child children e = sum_by-cons (λ x. cond (test x) 1 0) child children ∙ ap (λ b. cond b 1 0 + count_by test children) e

count_no : (test : LineSet → Bool) (child : LineSet) (children : List LineSet) → test child ≡ false → count_by test (child ∷ children) ≡ count_by test children
count_no test child children e = sum_by-cons (λ x. cond (test x) 1 0) child children ∙ ap (λ b. cond b 1 0 + count_by test children) e ∙ omega arith

none_counted : (row column : ℕ) (children : List LineSet) → count_by (λ child. is_among child.rows row) children ≡ 0 → list_any (has_both row column) children ≡ false
none_counted row column [] e = refl
none_counted row column (child ∷ children) e = go (is_among child.rows row) refl e (λ f. none_counted row column children f)
  where
    go : (b : Bool) → is_among child.rows row ≡ b → count_by (λ child. is_among child.rows row) (child ∷ children) ≡ 0
        → (count_by (λ child. is_among child.rows row) children ≡ 0 → list_any (has_both row column) children ≡ false)
        → list_any (has_both row column) (child ∷ children) ≡ false
    go true f e rest = absurd (let g = count_yes (λ child. is_among child.rows row) child children f in omega (arith, e, g))
    go false f e rest = rw f (rest (sym (count_no (λ child. is_among child.rows row) child children f) ∙ e))

pub beside_here : (all : List LineSet) (row : ℕ) (child : LineSet) (rest : List LineSet) → is_among child.rows row ≡ true → IsBeside all row (child ∷ rest)
    → (column : ℕ) → list_any (has_both row column) all ≡ is_among child.columns column
beside_here all row child rest f h column =
    let none = none_counted row column rest (let g = count_yes (λ child. is_among child.rows row) child rest f in let e = h.one in omega (arith, g, e)) in
    h.same column ∙ rw (f, none) (or_false (is_among child.columns column))

pub beside_later : (all : List LineSet) (row : ℕ) (child : LineSet) (rest : List LineSet) → is_among child.rows row ≡ false → IsBeside all row (child ∷ rest) → IsBeside all row rest
beside_later all row child rest f h = record {
  one = sym (count_no (λ child. is_among child.rows row) child rest f) ∙ h.one;
  same = λ column. h.same column ∙ rw f refl;
}

pub beside_none : (all : List LineSet) (row : ℕ) → IsBeside all row [] → ⊥
beside_none all row h = let e = h.one in omega (arith, e)

pub inside_test : (M : ℕ → ℕ → ℤ) (children : List LineSet) (row : ℕ) (inside columns : List ℕ) (b : Bool)
    → ((column : ℕ) → list_any (λ child. is_among child.rows row && is_among child.columns column) children ≡ is_among inside column)
    → IsTrue b ↔ AllByRecursion (λ column. M row column ≢ pos 0 → is_among inside column ≡ true) columns
    → IsTrue b ↔ AllByRecursion (λ column. M row column ≢ pos 0 → list_any (λ child. is_among child.rows row && is_among child.columns column) children ≡ true) columns
inside_test M children row inside columns b same h = (
  (λ t. all_weaker (λ column. M row column ≢ pos 0 → is_among inside column ≡ true) (λ column. M row column ≢ pos 0 → list_any (has_both row column) children ≡ true) (λ column inner some. same column ∙ inner some) columns (h.0 t)),
  λ all. h.1 (all_weaker (λ column. M row column ≢ pos 0 → list_any (has_both row column) children ≡ true) (λ column. M row column ≢ pos 0 → is_among inside column ≡ true) (λ column outer some. sym (same column) ∙ outer some) columns all),
)

-- ---- the lines of the children

of_each : (nodes : List Node) → lines_of_each (trees_from (map tree_of nodes)) ≡ line_sets nodes
of_each [] = refl
of_each (node ∷ nodes) = rw (lines_is node, of_each nodes) refl

pub children_lines : (children : NodeList) → lines_of_each (trees_of children) ≡ line_sets (nodes_in children)
children_lines children = ap lines_of_each (trees_are children) ∙ of_each (nodes_in children)

-- ---- the rule

length_lines : (nodes : List Node) → length (line_sets nodes) ≡ length nodes
length_lines [] = refl
length_lines (node ∷ nodes) = ap suc (length_lines nodes)

abbrev pub HasNonzeros : (ℕ → ℕ → ℤ) → List LineSet → List ℕ → List ℕ → Type 0
HasNonzeros M children rows columns = AllByRecursion (λ row. AllByRecursion (λ column. M row column ≢ pos 0 → list_any (λ child. is_among child.rows row && is_among child.columns column) children ≡ true) columns) rows

nonzeros_from : (M : ℕ → ℕ → ℤ) (lines : LineSet) (children : List LineSet) → AreApart M lines children → HasNonzeros M children lines.rows lines.columns
nonzeros_from M lines children apart =
    all_weaker (Contains lines.rows) (λ row. AllByRecursion (λ column. M row column ≢ pos 0 → list_any (λ child. is_among child.rows row && is_among child.columns column) children ≡ true) lines.columns)
    (λ row hr. all_weaker (Contains lines.columns) (λ column. M row column ≢ pos 0 → list_any (λ child. is_among child.rows row && is_among child.columns column) children ≡ true) (λ column hc. apart.nonzeros row column hr hc) lines.columns (all_contain lines.columns)) lines.rows
    (all_contain lines.rows)

apart_test : (M : ℕ → ℕ → ℤ) (lines : LineSet) (nodes : List Node) (b : Bool) → 2 ≤ length nodes → AllByRecursion (λ child. 0 < size_of child) (line_sets nodes)
    → AllByRecursion (λ row. count_by (λ child. is_among child.rows row) (line_sets nodes) ≡ 1) lines.rows
    → AllByRecursion (λ column. count_by (λ child. is_among child.columns column) (line_sets nodes) ≡ 1) lines.columns
    → IsTrue b ↔ HasNonzeros M (line_sets nodes) lines.rows lines.columns → IsTrue b ↔ AreApart M lines (line_sets nodes)
apart_test M lines nodes b two filled rows columns h = (
  (λ t. record {
    two = (let e = length_lines nodes in omega (arith, e, two));
    filled = filled;
    rows = rows;
    columns = columns;
    nonzeros = λ row column hr hc.
        all_contained (λ c. M row c ≢ pos 0 → list_any (λ child. is_among child.rows row && is_among child.columns c) (line_sets nodes) ≡ true) lines.columns column
        (all_contained (λ r. AllByRecursion (λ c. M r c ≢ pos 0 → list_any (λ child. is_among child.rows r && is_among child.columns c) (line_sets nodes) ≡ true) lines.columns) lines.rows row (h.0 t) hr) hc;
  }),
  λ apart. h.1 (nonzeros_from M lines (line_sets nodes) apart),
)

-- the same for lists that contain the lines
pub apart_tested : (M : ℕ → ℕ → ℤ) (lines : LineSet) (rows columns : List ℕ) (nodes : List Node) (b : Bool) → rows ≡ lines.rows → columns ≡ lines.columns
    → 2 ≤ length nodes → AllByRecursion (λ child. 0 < size_of child) (line_sets nodes)
    → AllByRecursion (λ row. count_by (λ child. is_among child.rows row) (line_sets nodes) ≡ 1) rows
    → AllByRecursion (λ column. count_by (λ child. is_among child.columns column) (line_sets nodes) ≡ 1) columns
    → IsTrue b ↔ HasNonzeros M (line_sets nodes) rows columns → IsTrue b ↔ AreApart M lines (line_sets nodes)
apart_tested M lines rows columns nodes b e f two filled by_rows by_columns h =
    apart_test M lines nodes b two filled (subst (AllByRecursion (λ row. count_by (λ child. is_among child.rows row) (line_sets nodes) ≡ 1)) e by_rows)
    (subst (AllByRecursion (λ column. count_by (λ child. is_among child.columns column) (line_sets nodes) ≡ 1)) f by_columns)
    (subst (λ cs. IsTrue b ↔ HasNonzeros M (line_sets nodes) lines.rows cs) f (subst (λ rs. IsTrue b ↔ HasNonzeros M (line_sets nodes) rs columns) e h))

apart_decides : (m : Matrix) (lines : LineSet) (children : List LineSet) (b : Bool) → IsTrue b ↔ AreApart (entry m) lines children → IsFirstBrokenRule m lines OneSum children (unless b rule.NotApart)
apart_decides m lines children true h = kept
  where
    kept : (broken : Rule) → Demands broken m lines OneSum children
    kept rule.NotApart = h.0 refl
    kept _ = tt
apart_decides m lines children false h = ((λ d. true≢false (sym (h.1 d))), before)
  where
    before : (earlier : Rule) → rule_number earlier < rule_number rule.NotApart → Demands earlier m lines OneSum children
    before rule.NotApart l = absurd (omega (arith, l))
    before _ l = tt

pub apart_says : (m : Matrix) (lines : LineSet) (children : NodeList) (nodes : List Node) (b : Bool) → nodes ≡ nodes_in children
    → IsTrue b ↔ AreApart (entry m) lines (line_sets nodes) → IsFirstBrokenRule m lines OneSum (lines_of_each (trees_of children)) (unless b rule.NotApart)
apart_says m lines children nodes b e h =
    apart_decides m lines (lines_of_each (trees_of children)) b (subst (λ each. IsTrue b ↔ AreApart (entry m) lines each) (ap line_sets e ∙ sym (children_lines children)) h)
