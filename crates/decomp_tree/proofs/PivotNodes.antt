-- Nodes that pivots make keep all rules.
use Rattle.std.proofs.Common.{◌≡◌, ◌≢◌, ◌++◌, ℕ, pos, List, [], ◌∷◌, ap}
use Rattle.std.specs.List.{AllByRecursion}
use Rattle.cmr_base.specs.declared.line_set.LineSet.{LineSet}
use Rattle.cmr_base.specs.Matrix.{Matrix, entry}
use Rattle.cmr_base.specs.Violator.{IsViolator}
use Rattle.cmr_base.proofs.Lists.{all-append}
use Rattle.cmr_base.specs.declared.position.Position.{Position}
use Rattle.cmr_base.specs.PlacedPivots.{IsTernaryPivot}
use Rattle.tree_type.specs.declared.refusal.Rule.{Rule}
use Rattle.tree_type.specs.declared.refusal.Rule.TheVariants as rule
use Rattle.tree_type.specs.DecompositionTrees.{Violator, Undecided, Pivoted, Tree, Branch, NoTrees, one_tree, lines_at_root}
use Rattle.tree_type.specs.Places.{Due, These, MadePivot, matrix_after, places_from}
use Rattle.tree_type.specs.Soundness.{HasItsSizes, HasItsLines, Demands, KeepsAll}
use Rattle.decomp_tree.specs.PivotedShapes.{undecided}
use Rattle.decomp_tree.proofs.ShapeSound.{keeps_all}
use Rattle.decomp_tree.proofs.YesTrees.{MayBelow, may_stand}

-- the tree keeps all rules below these pivots
abbrev pub IsSoundBelow : Matrix → List MadePivot → Tree → Type 0
IsSoundBelow m pivots tree = (path : List ℕ) (due : Due) → HasItsSizes m due → HasItsLines due (lines_at_root tree) → AllByRecursion (KeepsAll m) (places_from path pivots due tree)

module _ (m : Matrix) (pivots : List MadePivot) (lines : LineSet) where
  abbrev n : Matrix
  n = matrix_after m pivots

  nothing_demanded : (broken : Rule) → Demands broken n lines Undecided []
  nothing_demanded rule.Size = tt
  nothing_demanded rule.Lines = tt
  nothing_demanded rule.NotEmpty = tt
  nothing_demanded rule.NotViolator = tt
  nothing_demanded rule.NotReducible = tt
  nothing_demanded rule.NotApart = tt
  nothing_demanded rule.NotNetwork = tt
  nothing_demanded rule.NotR10 = tt
  nothing_demanded rule.CycleFault = tt
  nothing_demanded rule.TooShort = tt
  nothing_demanded rule.BadConnector = tt
  nothing_demanded rule.CornerSign = tt
  nothing_demanded rule.BadBlock = tt
  nothing_demanded rule.TooMany = tt
  nothing_demanded rule.NotClean = tt
  nothing_demanded rule.NotPivot = tt
  nothing_demanded rule.BelowPivot = tt

  violator_demanded : (fault : LineSet) → IsViolator (entry n) fault.rows fault.columns → (broken : Rule) → Demands broken n lines (Violator fault) []
  violator_demanded fault v rule.Size = tt
  violator_demanded fault v rule.Lines = tt
  violator_demanded fault v rule.NotEmpty = tt
  violator_demanded fault v rule.NotViolator = v
  violator_demanded fault v rule.NotReducible = tt
  violator_demanded fault v rule.NotApart = tt
  violator_demanded fault v rule.NotNetwork = tt
  violator_demanded fault v rule.NotR10 = tt
  violator_demanded fault v rule.CycleFault = tt
  violator_demanded fault v rule.TooShort = tt
  violator_demanded fault v rule.BadConnector = tt
  violator_demanded fault v rule.CornerSign = tt
  violator_demanded fault v rule.BadBlock = tt
  violator_demanded fault v rule.TooMany = tt
  violator_demanded fault v rule.NotClean = tt
  violator_demanded fault v rule.NotPivot = tt
  violator_demanded fault v rule.BelowPivot = tt

  pivot_demanded : (place : Position) (children : List LineSet) → entry n place.row place.column ≢ pos 0 → IsTernaryPivot n lines place → (broken : Rule)
      → Demands broken n lines (Pivoted place) children
  pivot_demanded place children nonzero ternary rule.Size = tt
  pivot_demanded place children nonzero ternary rule.Lines = tt
  pivot_demanded place children nonzero ternary rule.NotEmpty = tt
  pivot_demanded place children nonzero ternary rule.NotViolator = tt
  pivot_demanded place children nonzero ternary rule.NotReducible = tt
  pivot_demanded place children nonzero ternary rule.NotApart = tt
  pivot_demanded place children nonzero ternary rule.NotNetwork = tt
  pivot_demanded place children nonzero ternary rule.NotR10 = tt
  pivot_demanded place children nonzero ternary rule.CycleFault = tt
  pivot_demanded place children nonzero ternary rule.TooShort = tt
  pivot_demanded place children nonzero ternary rule.BadConnector = tt
  pivot_demanded place children nonzero ternary rule.CornerSign = tt
  pivot_demanded place children nonzero ternary rule.BadBlock = tt
  pivot_demanded place children nonzero ternary rule.TooMany = tt
  pivot_demanded place children nonzero ternary rule.NotClean = tt
  pivot_demanded place children nonzero ternary rule.NotPivot = (nonzero, ternary)
  pivot_demanded place children nonzero ternary rule.BelowPivot = tt

  pub undecided_sound : MayBelow pivots (undecided lines) → IsSoundBelow m pivots (undecided lines)
  undecided_sound may path due sizes has = (
    keeps_all m (record { path = path; pivots = pivots; due = due; lines = lines; finding = Undecided; children = [] }) sizes has nothing_demanded (may_stand pivots lines Undecided NoTrees may),
    tt,
  )

  pub violator_sound : (fault : LineSet) → IsViolator (entry n) fault.rows fault.columns → MayBelow pivots (Branch lines (Violator fault) NoTrees)
      → IsSoundBelow m pivots (Branch lines (Violator fault) NoTrees)
  violator_sound fault v may path due sizes has = (
    keeps_all m (record { path = path; pivots = pivots; due = due; lines = lines; finding = Violator fault; children = [] }) sizes has (violator_demanded fault v) (may_stand pivots lines (Violator fault) NoTrees may),
    tt,
  )

  pub pivot_sound : (place : Position) (after : Tree) → entry n place.row place.column ≢ pos 0 → IsTernaryPivot n lines place → lines_at_root after ≡ lines
      → IsSoundBelow m (record { lines = lines; place = place } ∷ pivots) after → MayBelow pivots (Branch lines (Pivoted place) (one_tree after)) → IsSoundBelow m pivots (Branch lines (Pivoted place) (one_tree after))
  pivot_sound place after nonzero ternary same sound may path due sizes has = (
    keeps_all m (record { path = path; pivots = pivots; due = due; lines = lines; finding = Pivoted place; children = lines_at_root after ∷ [] }) sizes has (pivot_demanded place (lines_at_root after ∷ []) nonzero ternary)
        (may_stand pivots lines (Pivoted place) (one_tree after) may),
    all-append (KeepsAll m) (places_from (path ++ 0 ∷ []) (record { lines = lines; place = place } ∷ pivots) (These lines) after) []
        (sound (path ++ 0 ∷ []) (These lines) tt (ap (λ (some : LineSet). some.rows) same, ap (λ (some : LineSet). some.columns) same)) tt,
  )
