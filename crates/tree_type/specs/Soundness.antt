-- The rules of decomposition trees, and the first node that breaks one.
use Rattle.std.specs.Prelude.{◌≡◌, ◌≢◌, ◌≤◌, ◌<◌, ◌&&◌, true, false, ℕ, ℤ, pos, min, List, [], ◌∷◌, ◌++◌, length, count_by, Contains, IsSome}
use Rattle.std.specs.List.{AllByRecursion, list_any}
use Rattle.cmr_base.specs.declared.limits.TheConstants.{MAX_LINES}
use Rattle.cmr_base.specs.declared.line.Line.{Line}
use Rattle.cmr_base.specs.declared.line_set.LineSet.{LineSet}
use Rattle.cmr_base.specs.Matrix.{Matrix, height, entry, transposed}
use Rattle.cmr_base.specs.LineSets.{first_lines, submatrix}
use Rattle.cmr_base.specs.Violator.{IsViolator, HasNoViolator}
use Rattle.cmr_base.specs.Reductions.{HasLine, line_reason, rows_without, columns_without}
use Rattle.cmr_base.specs.CyclePlaces.{HasNoCycleFault}
use Rattle.cmr_base.specs.Trees.{Reproduces}
use Rattle.cmr_base.specs.R10.{IsR10}
use Rattle.cmr_base.specs.PlacedPivots.{IsTernaryPivot}
use Rattle.tree_type.specs.Sides.{is_among, sides, HaveLines, IsReference, AreTwoBlocks, AreConnectorsOfSides, HasCornerSign, AreThreeBlocks}
use Rattle.tree_type.specs.declared.refusal.Refusal.{Refusal}
use Rattle.tree_type.specs.declared.refusal.Rule.{Rule}
use Rattle.tree_type.specs.declared.refusal.Rule.TheVariants as rule
use Rattle.tree_type.specs.DecompositionTrees.{Finding, Empty, Cycle, Reduced, OneSum, Network, Conetwork, R10, TwoSum, ThreeSum, Enumerated, Violator, Undecided, Pivoted, Tree, SizedTree, tree_of}
use Rattle.tree_type.specs.Invariant.{size_of}
use Rattle.tree_type.specs.Places.{Due, AllLines, These, Unnamed, MadePivot, matrix_after, Place, places}

-- the submatrix on these lines
abbrev pub part : Matrix → LineSet → Matrix
part m lines = submatrix m lines.rows lines.columns

-- the tree is for a matrix of the sizes of this one
abbrev pub HasItsSizes : Matrix → Due → Type 0
HasItsSizes m (AllLines rows columns) = (rows ≡ height m) × (columns ≡ m.width)
HasItsSizes m (These lines) = Unit {0}
HasItsSizes m Unnamed = Unit {0}

-- the node has the lines that it must have
abbrev pub HasItsLines : Due → LineSet → Type 0
HasItsLines (AllLines rows columns) lines = (lines.rows ≡ first_lines rows) × (lines.columns ≡ first_lines columns)
HasItsLines (These due) lines = (lines.rows ≡ due.rows) × (lines.columns ≡ due.columns)
HasItsLines Unnamed lines = Unit {0}

-- each of these lines is present when it is removed in this order, and it is reducible then
abbrev pub AreReductions : (ℕ → ℕ → ℤ) → List ℕ → List ℕ → List Line → Type 0
AreReductions M rows columns [] = Unit {0}
AreReductions M rows columns (line ∷ lines) =
    HasLine rows columns line × IsSome (line_reason false M rows columns line)
    × AreReductions M (rows_without rows line) (columns_without columns line) lines

-- two or more children, each with a line; each line of the node is in exactly one child, and each nonzero is in a child
pub record AreApart (M : ℕ → ℕ → ℤ) (lines : LineSet) (children : List LineSet) : Type 0 where
  pub two : 2 ≤ length children
  pub filled : AllByRecursion (λ child. 0 < size_of child) children
  pub rows : AllByRecursion (λ row. count_by (λ child. is_among child.rows row) children ≡ 1) lines.rows
  pub columns : AllByRecursion (λ column. count_by (λ child. is_among child.columns column) children ≡ 1) lines.columns
  pub nonzeros : (row column : ℕ) → Contains lines.rows row → Contains lines.columns column → M row column ≢ pos 0
      → list_any (λ child. is_among child.rows row && is_among child.columns column) children ≡ true

-- the demands of a rule on the finding of a node; a rule demands nothing of other findings
abbrev pub Demands : Rule → Matrix → LineSet → Finding → List LineSet → Type 0
Demands rule.NotEmpty m lines Empty children = size_of lines ≡ 0
Demands rule.NotViolator m lines (Cycle fault) children = IsViolator (entry m) fault.rows fault.columns
Demands rule.NotViolator m lines (Violator fault) children = IsViolator (entry m) fault.rows fault.columns
Demands rule.NotReducible m lines (Reduced steps) children = (0 < length steps) × AreReductions (entry m) lines.rows lines.columns steps
Demands rule.NotApart m lines OneSum children = AreApart (entry m) lines children
Demands rule.NotNetwork m lines (Network net) children = Reproduces net (part m lines)
Demands rule.NotNetwork m lines (Conetwork net) children = Reproduces net (transposed (part m lines))
Demands rule.NotR10 m lines R10 children = IsR10 (part m lines)
Demands rule.CycleFault m lines R10 children = HasNoCycleFault (entry (part m lines))
Demands rule.TooShort m lines (TwoSum two) children = HaveLines 2 (sides lines two.side)
Demands rule.TooShort m lines (ThreeSum three) children = HaveLines 4 (sides lines three.side)
Demands rule.BadConnector m lines (TwoSum two) children = IsReference (entry m) (sides lines two.side) two.row two.column
Demands rule.BadConnector m lines (ThreeSum three) children = AreConnectorsOfSides (entry m) (sides lines three.side) three
Demands rule.CornerSign m lines (ThreeSum three) children = HasCornerSign (entry m) three
Demands rule.BadBlock m lines (TwoSum two) children = AreTwoBlocks (entry m) (sides lines two.side) two.row two.column
Demands rule.BadBlock m lines (ThreeSum three) children = AreThreeBlocks (entry m) (sides lines three.side) three
Demands rule.TooMany m lines Enumerated children = min (length lines.rows) (length lines.columns) ≤ MAX_LINES
Demands rule.NotClean m lines Enumerated children = HasNoViolator (part m lines)
Demands rule.NotPivot m lines (Pivoted place) children = (entry m place.row place.column ≢ pos 0) × IsTernaryPivot m lines place
Demands other m lines finding children = Unit {0}

-- Below a pivot no node names a fault or leaves its lines open, since its fault would be a fault of the pivoted matrix.
abbrev pub MayStand : List MadePivot → Finding → Type 0
MayStand [] finding = Unit {0}
MayStand pivots (Cycle fault) = ⊥
MayStand pivots (Violator fault) = ⊥
MayStand pivots Undecided = ⊥
MayStand pivots finding = Unit {0}

-- a node keeps a rule for the matrix after the pivots above it
abbrev pub Keeps : Matrix → Place → Rule → Type 0
Keeps m place rule.Size = HasItsSizes m place.due
Keeps m place rule.Lines = HasItsLines place.due place.lines
Keeps m place rule.BelowPivot = MayStand place.pivots place.finding
Keeps m place other = Demands other (matrix_after m place.pivots) place.lines place.finding place.children

abbrev pub KeepsAll : Matrix → Place → Type 0
KeepsAll m place = (rule : Rule) → Keeps m place rule

-- each node of a tree for a matrix of these sizes keeps each rule
abbrev pub IsSoundTree : Matrix → ℕ → ℕ → Tree → Type 0
IsSoundTree m rows columns tree = AllByRecursion (KeepsAll m) (places rows columns tree)

-- the order in which the checker tests the rules
abbrev pub rule_number : Rule → ℕ
rule_number rule.Size = 0
rule_number rule.Lines = 1
rule_number rule.NotEmpty = 2
rule_number rule.NotViolator = 3
rule_number rule.NotReducible = 4
rule_number rule.NotApart = 5
rule_number rule.NotNetwork = 6
rule_number rule.NotR10 = 7
rule_number rule.CycleFault = 8
rule_number rule.TooShort = 9
rule_number rule.BadConnector = 10
rule_number rule.CornerSign = 11
rule_number rule.BadBlock = 12
rule_number rule.TooMany = 13
rule_number rule.NotClean = 14
rule_number rule.NotPivot = 15
rule_number rule.BelowPivot = 16

-- the first rule that a node breaks
pub record BreaksFirst (m : Matrix) (place : Place) (broken : Rule) : Type 0 where
  pub breaks : ¬ (Keeps m place broken)
  pub keeps : (earlier : Rule) → rule_number earlier < rule_number broken → Keeps m place earlier

-- the path and the first broken rule of the first of these nodes that breaks a rule
pub record IsFirstBroken (m : Matrix) (nodes : List Place) (path : List ℕ) (broken : Rule) : Type 0 where
  pub before : List Place
  pub place : Place
  pub after : List Place
  pub order : nodes ≡ before ++ place ∷ after
  pub sound : AllByRecursion (KeepsAll m) before
  pub breaks : BreaksFirst m place broken
  pub path_is : path ≡ place.path

-- the first node in preorder that breaks a rule
abbrev pub IsBrokenTree : Matrix → ℕ → ℕ → Tree → List ℕ → Rule → Type 0
IsBrokenTree m rows columns tree path broken = IsFirstBroken m (places rows columns tree) path broken

-- soundness of a whole tree
abbrev pub IsSound : Matrix → SizedTree → Type 0
IsSound m tree = IsSoundTree m tree.rows tree.columns (tree_of tree.root)

abbrev pub IsBroken : Matrix → SizedTree → Refusal → Type 0
IsBroken m tree refusal = IsBrokenTree m tree.rows tree.columns (tree_of tree.root) refusal.path refusal.rule
