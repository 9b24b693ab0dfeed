-- The reports on total unimodularity, under the label of a tool and within a budget of lines.
use Rattle.std.specs.Prelude.{◌≡◌, ◌<◌, ◌++◌, ℕ, false, min, List, [], length, Option, None, option_map}
use Rattle.cmr_base.specs.declared.line_set.LineSet.{LineSet}
use Rattle.cmr_base.specs.Matrix.{Matrix, height, entry}
use Rattle.cmr_base.specs.Components.{AreComponents}
use Rattle.cmr_base.specs.CyclePlaces.{HasNoCycleFault}
use Rattle.cmr_base.specs.R10.{IsR10}
use Rattle.cmr_base.specs.Trees.{IsNetworkMatrix, IsConetworkMatrix}
use Rattle.matrix_text.specs.CanonicalMatrices.{submatrix_text}
use Rattle.sp_reduce.specs.RowDigests.{HasNoReducibleLine}
use Rattle.cmr_base.specs.Separations.{HasNoTwoSeparation, HasNoThreeSeparation}
use Rattle.tree_type.specs.Invariant.{AreLines, IsDecTree}
use Rattle.tree_type.specs.Soundness.{IsSound, part}
use Rattle.tree_type.specs.DecompositionTrees.{SizedTree, tree_of}
use Rattle.tree_type.specs.Verdicts as verdicts
use Rattle.tree_type.specs.Verdicts.{Verdict, verdict_of}
use Rattle.tree_text.specs.CanonicalTrees.{tree_text}
use Rattle.decomp_tree.specs.OpenEnds.{HasEnd}
use Rattle.open_parts.specs.Rests.{IsFoundInRests}
use Rattle.open_parts.specs.TriedShapes.{IsTriedWith}
use Rattle.tree_laws.specs.Laws.{VerdictMeans}
use Rattle.cmr_evidence.specs.VerdictWords.{answer_of, answer_word, named_line}
use Rattle.cmr_unimodular.specs.declared.verdict.VerdictOptions.{VerdictOptions}
use Rattle.cmr_unimodular.specs.Outline.{outline_from}
use Rattle.cmr_front.specs.Report.{File, Report, asked_file}
use Rattle.cmr_front.specs.Status.{answer_status}

-- The label of the verdict, the maximum number of lines on the shorter side of an exhaustive search, the maximum number of pivots on
-- the path to a node, and the files of the tree and of a violator.
pub record VerdictOrder : Type 0 where
  pub label : List ℕ
  pub budget : ℕ
  pub pivots : ℕ
  pub tree : Option (List ℕ)
  pub fault : Option (List ℕ)

abbrev pub verdict_order_of : VerdictOptions → VerdictOrder
verdict_order_of options = record {
  label = options.label.now;
  budget = options.budget;
  pivots = options.pivots;
  tree = option_map (λ name. name.now) options.tree;
  fault = option_map (λ name. name.now) options.fault;
}

-- ---- the tree

-- A tree for the matrix of the stated shape, which keeps all rules of the checker.
pub record IsDecomposition (budget pivots : ℕ) (m : Matrix) (tree : SizedTree) : Type 0 where
  pub rows : tree.rows ≡ height m
  pub columns : tree.columns ≡ m.width
  pub is_tree : IsDecTree tree
  pub shape : IsTriedWith budget pivots m (tree_of tree.root)
  pub sound : IsSound m tree

abbrev pub verdict_in : SizedTree → Verdict
verdict_in tree = verdict_of (tree_of tree.root)

-- it has one connected part
abbrev pub IsConnected : Matrix → Type 0
IsConnected m = (parts : List LineSet) → AreComponents m parts → length parts < 2

-- A matrix that a budget leaves open: it is neither recognised nor separated, and its shorter side has more lines.
pub record IsLeftOpen (budget : ℕ) (m : Matrix) : Type 0 where
  pub no_fault : HasNoCycleFault (entry m)
  pub irreducible : HasNoReducibleLine false m
  pub connected : IsConnected m
  pub no_network : ¬ (IsNetworkMatrix m)
  pub no_conetwork : ¬ (IsConetworkMatrix m)
  pub no_r10 : ¬ (IsR10 m)
  pub no_two_separation : HasNoTwoSeparation m
  pub no_three_separation : HasNoThreeSeparation m
  pub above : budget < min (height m) m.width

-- The submatrix with these lines is left open. If pivots are allowed, no rest of it that was tried is a no, and the pivots have an end: all
-- are made, or they lead to a submatrix that is neither recognised nor separated and has no three-separation of any kind.
pub record IsOpenPart (budget pivots : ℕ) (m : Matrix) (lines : LineSet) : Type 0 where
  pub are_lines : AreLines m lines
  pub left : IsLeftOpen budget (part m lines)
  pub tried : 0 < pivots → IsFoundInRests budget m lines None
  pub ends : HasEnd budget pivots m lines

-- ---- the report

abbrev pub verdict_output : List ℕ → Matrix → SizedTree → List ℕ
verdict_output label m tree = label ++ answer_word (verdict_in tree) ++ named_line m (verdict_in tree) ++ outline_from 0 (tree_of tree.root)

abbrev pub fault_file : Option (List ℕ) → Matrix → Verdict → List File
fault_file name m verdicts.Yes = []
fault_file name m (verdicts.No fault) = asked_file name (submatrix_text (height m) m.width fault)
fault_file name m (verdicts.Open lines) = []

abbrev pub tree_file : Option (List ℕ) → SizedTree → List File
tree_file name tree = asked_file name (tree_text tree.rows tree.columns (tree_of tree.root))

abbrev pub verdict_report : VerdictOrder → Matrix → SizedTree → Report
verdict_report o m tree = record {
  status = answer_status (answer_of (verdict_in tree));
  output = verdict_output o.label m tree;
  error = [];
  files = tree_file o.tree tree ++ fault_file o.fault m (verdict_in tree);
}

-- the meaning of a verdict for the matrix
abbrev pub IsRightVerdict : (budget pivots : ℕ) → Matrix → Verdict → Type 0
IsRightVerdict budget pivots m verdicts.Yes = VerdictMeans m verdicts.Yes
IsRightVerdict budget pivots m (verdicts.No fault) = VerdictMeans m (verdicts.No fault)
IsRightVerdict budget pivots m (verdicts.Open lines) = IsOpenPart budget pivots m lines

-- on a matrix: by a decomposition; there are several with networks, since the nodes of a network have any numbers
pub record Decides (o : VerdictOrder) (m : Matrix) (report : Report) : Type 0 where
  pub tree : SizedTree
  pub decomposition : IsDecomposition o.budget o.pivots m tree
  pub right : IsRightVerdict o.budget o.pivots m (verdict_in tree)
  pub report_is : report ≡ verdict_report o m tree
