-- Lines of a matrix that are removed in turn, until the decomposition of the rest is a no.
use Rattle.std.specs.Prelude.{◌≡◌, ℕ, List, [], ◌∷◌, Option, Some, None}
use Rattle.cmr_base.specs.declared.line.Line.{Line}
use Rattle.cmr_base.specs.declared.line_set.LineSet.{LineSet}
use Rattle.cmr_base.specs.Matrix.{Matrix}
use Rattle.cmr_base.specs.Reductions.{rows_without, columns_without, lines_of}
use Rattle.tree_type.specs.DecompositionTrees.{Tree}
use Rattle.tree_type.specs.Soundness.{part}
use Rattle.tree_type.specs.Verdicts.{Verdict, Yes, No, Open, verdict_of}
use Rattle.decomp_tree.specs.Shapes.{IsShape, set_in}

-- the lines without a line
abbrev pub rest_without : LineSet → Line → LineSet
rest_without kept line = record { rows = rows_without kept.rows line; columns = columns_without kept.columns line }

-- How the search goes on after the verdict on a rest: after a yes with the lines before, so the line stays; if the rest is open, without
-- the line; after a no it ends with the fault, by the line numbers of the whole matrix.
abbrev pub GoesOnAfter : (LineSet → Option LineSet → Type 0) → LineSet → LineSet → Verdict → Option LineSet → Type 0
GoesOnAfter Later kept rest Yes found = Later kept found
GoesOnAfter Later kept rest (No fault) found = found ≡ Some (set_in rest fault)
GoesOnAfter Later kept rest (Open left) found = Later rest found

-- Each of these lines is removed in its turn, and the rest is decomposed without pivots. `found` is the fault of the first rest whose
-- verdict is a no, or `None` if there is none.
abbrev pub RemovesInTurn : (limit : ℕ) → Matrix → List Line → LineSet → Option LineSet → Type 0
RemovesInTurn limit m [] kept found = found ≡ None
RemovesInTurn limit m (line ∷ turns) kept found =
    (tree : Tree) × IsShape limit (part m (rest_without kept line)) tree
    × GoesOnAfter (RemovesInTurn limit m turns) kept (rest_without kept line) (verdict_of tree) found

-- the turns: the rows, and then the columns
abbrev pub turns_of : LineSet → List Line
turns_of lines = lines_of lines.rows lines.columns

-- what is found if the lines of a submatrix are removed in turn, each once
abbrev pub IsFoundInRests : (limit : ℕ) → Matrix → LineSet → Option LineSet → Type 0
IsFoundInRests limit m lines found = RemovesInTurn limit m (turns_of lines) lines found
