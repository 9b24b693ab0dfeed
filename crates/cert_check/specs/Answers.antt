-- The answers of the checker, and the intermediate answers of its functions.
use Rattle.std.specs.Prelude.{◌≡◌, ◌<◌, ℕ, Bool, true, false, List, [], ◌∷◌, Option, Some, None}
use Rattle.std.specs.List.{AllByRecursion}
use Rattle.cmr_base.specs.declared.line_set.LineSet.{LineSet}
use Rattle.cmr_base.specs.Matrix.{Matrix}
use Rattle.tree_type.specs.declared.refusal.Refusal.{Refusal}
use Rattle.tree_type.specs.declared.refusal.Rule.{Rule}
use Rattle.tree_type.specs.DecompositionTrees.{Finding, Cycle, Violator, Undecided, Tree, Branch, SizedTree, lines_at_root, finding_of, trees_below}
use Rattle.tree_type.specs.Invariant.{AreLines, IsTreeWithin}
use Rattle.tree_type.specs.Places.{Due, These, Unnamed, MadePivot, matrix_after, Place, due_child, pivots_below, places_from, places_below, lines_of_each}
use Rattle.tree_type.specs.Soundness.{Demands, KeepsAll, rule_number, BreaksFirst, IsSound, IsFirstBroken, IsBroken}

-- no refusal if and only if the tree is sound; otherwise the first node that breaks a rule, with this rule
abbrev pub Answers : Matrix → SizedTree → Option Refusal → Type 0
Answers m tree None = IsSound m tree
Answers m tree (Some refusal) = IsBroken m tree refusal

-- the same for a list of nodes
abbrev pub AnswersOn : Matrix → List Place → Option Refusal → Type 0
AnswersOn m nodes None = AllByRecursion (KeepsAll m) nodes
AnswersOn m nodes (Some refusal) = IsFirstBroken m nodes refusal.path refusal.rule

-- the first rule that the finding of a node with these lines breaks, if its children have those lines, or none
abbrev pub IsFirstBrokenRule : Matrix → LineSet → Finding → List LineSet → Option Rule → Type 0
IsFirstBrokenRule m lines finding children None = (rule : Rule) → Demands rule m lines finding children
IsFirstBrokenRule m lines finding children (Some broken) = (¬ (Demands broken m lines finding children)) × ((earlier : Rule) → rule_number earlier < rule_number broken → Demands earlier m lines finding children)

-- the same for all children
abbrev pub Says : Matrix → LineSet → Finding → Option Rule → Type 0
Says m lines finding answer = (children : List LineSet) → IsFirstBrokenRule m lines finding children answer

-- the first rule on the finding of a node that the node breaks, or none
abbrev pub IsOwnRule : Matrix → Tree → Option Rule → Type 0
IsOwnRule m (Branch lines finding trees) answer = IsFirstBrokenRule m lines finding (lines_of_each trees) answer

-- no rule if it is kept, and the rule otherwise
abbrev pub unless : Bool → Rule → Option Rule
unless true rule = None
unless false rule = Some rule

-- a node whose lines are lines of the matrix, with a valid tree below it
abbrev pub IsValidNode : Matrix → Tree → Type 0
IsValidNode m tree = (parent : LineSet) × (levels : ℕ) × AreLines m parent × IsTreeWithin parent levels tree

-- the nodes below a node that has these pivots above it
abbrev pub nodes_below : List ℕ → List MadePivot → Tree → List Place
nodes_below path pivots tree = places_below path (pivots_below (lines_at_root tree) (finding_of tree) pivots) (lines_at_root tree) (finding_of tree) 0 (trees_below tree)

-- the lines that a child must have, if its parent names them
abbrev pub due_from : Option LineSet → Due
due_from None = Unnamed
due_from (Some lines) = These lines

-- the lines that the child of a node with this number must have
abbrev pub due_child_of : Tree → ℕ → Due
due_child_of tree number = due_child (lines_at_root tree) (finding_of tree) number

-- the node itself at its place
abbrev pub place_of : List ℕ → List MadePivot → Due → Tree → Place
place_of path pivots due tree =
    record { path = path; pivots = pivots; due = due; lines = lines_at_root tree; finding = finding_of tree; children = lines_of_each (trees_below tree) }

abbrev pub has_pivot : List MadePivot → Bool
has_pivot [] = false
has_pivot (last ∷ pivots) = true

-- the node names no fault, and leaves no lines open
abbrev pub is_settled : Finding → Bool
is_settled (Cycle fault) = false
is_settled (Violator fault) = false
is_settled Undecided = false
is_settled finding = true

-- `here` is the matrix after these pivots of m, and `below_pivot` says whether there are any
pub record IsAfter (m : Matrix) (pivots : List MadePivot) (here : Matrix) (below_pivot : Bool) : Type 0 where
  pub matrix : matrix_after m pivots ≡ here
  pub pivoted : has_pivot pivots ≡ below_pivot

-- the first rule that a node breaks at its place, or none, for all paths and for all pivots after which the matrix is `here`
abbrev pub IsRuleAt : Matrix → Bool → Due → Tree → Option Rule → Type 0
IsRuleAt here below_pivot due tree None = (m : Matrix) (pivots : List MadePivot) (path : List ℕ) → IsAfter m pivots here below_pivot → KeepsAll m (place_of path pivots due tree)
IsRuleAt here below_pivot due tree (Some broken) =
    (m : Matrix) (pivots : List MadePivot) (path : List ℕ) → IsAfter m pivots here below_pivot → BreaksFirst m (place_of path pivots due tree) broken

-- if the node keeps all rules, it keeps the rules on its finding
abbrev pub KeepsOwn : Matrix → Tree → Option Rule → Type 0
KeepsOwn here tree None = IsOwnRule here tree None
KeepsOwn here tree (Some broken) = Unit {0}

-- the answer on a node and the nodes below it, and the answer on the nodes below it only
abbrev pub AnswersFrom : Matrix → Bool → List ℕ → Due → Tree → Option Refusal → Type 0
AnswersFrom here below_pivot path due tree answer = (m : Matrix) (pivots : List MadePivot) → IsAfter m pivots here below_pivot → AnswersOn m (places_from path pivots due tree) answer

abbrev pub AnswersBelow : Matrix → Bool → List ℕ → Tree → Option Refusal → Type 0
AnswersBelow here below_pivot path tree answer = (m : Matrix) (pivots : List MadePivot) → IsAfter m pivots here below_pivot → AnswersOn m (nodes_below path pivots tree) answer
