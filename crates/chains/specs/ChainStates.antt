-- The state of the check of a chain.
use Rattle.std.specs.Prelude.{◌≡◌, ◌≢◌, ◌≤◌, ◌+◌, ◌⊎◌, ℕ, ℤ, pos, List, ◌∷◌, take, drop, length, slice_index}
use Rattle.cmr_base.specs.Matrix.{Matrix, height, entry}
use Rattle.cmr_base.specs.Members.{IsIn}
use Rattle.cmr_base.specs.declared.line.Line.{Line}
use Rattle.cmr_base.specs.declared.line.Line.TheVariants.{Row, Column}
use Rattle.chains.specs.declared.step.SignStep.{SignStep}
use Rattle.chains.specs.declared.check.Followed.{Followed}
use Rattle.chains.specs.SignSteps.{AreSigns, IsUnsignedOne, unsigned, LeadTo}
use Rattle.chains.specs.Chains.{AreLinked, KeepsRule}
use Rattle.cmr_base.specs.Components.{IsLineOf}

-- the position of a line's label: rows come first, then columns
abbrev pub label_place : Matrix → Line → ℕ
label_place a (Row row) = row
label_place a (Column column) = height a + column

abbrev pub label_in : Matrix → List ℕ → Line → ℕ
label_in a labels line = slice_index labels (label_place a line)

-- two lines have one label if and only if signed entries link them
pub record AreLabels (a s : Matrix) (labels : List ℕ) : Type 0 where
  pub one_each : length labels ≡ height a + a.width
  pub joined : (row column : ℕ) → entry s row column ≢ pos 0 → label_in a labels (Row row) ≡ label_in a labels (Column column)
  pub linked : (x y : Line) → IsLineOf a x → IsLineOf a y → label_in a labels x ≡ label_in a labels y → AreLinked s x y

-- a one without sign in another position
pub record IsOpenBut (a s : Matrix) (row column i j : ℕ) : Type 0 where
  pub open_one : IsUnsignedOne a s i j
  pub other : (i ≢ row) ⊎ (j ≢ column)

-- all ones in the submatrix of some lines have signs, except in one position
abbrev pub AllSignedBut : Matrix → Matrix → List ℕ → List ℕ → ℕ → ℕ → Type 0
AllSignedBut a s rows columns row column = (i j : ℕ) → IsIn i rows → IsIn j columns → entry a i j ≢ pos 0 → (i ≢ row) ⊎ (j ≢ column) → entry s i j ≢ pos 0

-- the first `kept` steps keep their rules, and the next step, if there is one, breaks its rule
pub record HasFollowed (a : Matrix) (steps : List SignStep) (followed : Followed) : Type 0 where
  pub within : followed.kept ≤ length steps
  pub signs : AreSigns a followed.signs
  pub leads : LeadTo (KeepsRule a) (unsigned a) (take followed.kept steps) followed.signs
  pub breaks : (step : SignStep) (rest : List SignStep) → drop followed.kept steps ≡ step ∷ rest → (sign : ℤ) → ¬ (KeepsRule a followed.signs step sign)
