-- The verdict on a large matrix.
use Rattle.std.specs.Prelude.{◌≡◌, ◌⊎◌, ◌++◌, ℕ, List, ◌∷◌}
use Rattle.std.specs.List.{AllByRecursion}
use Rattle.cmr_base.specs.declared.line_set.LineSet.{LineSet}
use Rattle.cmr_base.specs.Matrix.{Matrix}
use Rattle.tree_type.specs.Soundness.{part}
use Rattle.decomp_tree.specs.Shapes.{set_in}
use Rattle.large_unimodular.specs.declared.part_verdicts.PartVerdict.{PartVerdict}
use Rattle.large_unimodular.specs.declared.part_verdicts.PartVerdict.TheVariants as own
use Rattle.large_unimodular.specs.declared.verdict.LargeVerdict.{LargeVerdict}
use Rattle.large_unimodular.specs.declared.verdict.LargeVerdict.TheVariants.{Yes, No, Open}
use Rattle.core_parts.specs.CoreParts.{AreCoreParts}
use Rattle.large_unimodular.specs.PartVerdicts.{IsPartVerdict}

-- the verdict on the submatrix of a part
abbrev pub HasVerdict : (limit pivots : ℕ) → Matrix → PartVerdict → LineSet → Type 0
HasVerdict limit pivots m verdict lines = IsPartVerdict limit pivots (part m lines) verdict

abbrev pub IsYesOrOpen : (limit pivots : ℕ) → Matrix → LineSet → Type 0
IsYesOrOpen limit pivots m lines = HasVerdict limit pivots m own.Yes lines ⊎ HasVerdict limit pivots m own.Open lines

-- the violator of the first part that is a no, by the numbers of the whole matrix
pub record IsFirstNo (limit pivots : ℕ) (m : Matrix) (parts : List LineSet) (fault : LineSet) : Type 0 where
  pub before : List LineSet
  pub lines : LineSet
  pub after : List LineSet
  pub order : parts ≡ before ++ lines ∷ after
  pub earlier : AllByRecursion (IsYesOrOpen limit pivots m) before
  pub own_fault : LineSet
  pub refuted : HasVerdict limit pivots m (own.No own_fault) lines
  pub fault_is : fault ≡ set_in lines own_fault

-- the first part that stays open, and no part is a no
pub record IsFirstOpen (limit pivots : ℕ) (m : Matrix) (parts : List LineSet) (lines : LineSet) : Type 0 where
  pub before : List LineSet
  pub after : List LineSet
  pub order : parts ≡ before ++ lines ∷ after
  pub earlier : AllByRecursion (HasVerdict limit pivots m own.Yes) before
  pub stays : HasVerdict limit pivots m own.Open lines
  pub later : AllByRecursion (IsYesOrOpen limit pivots m) after

-- no by the first part that is a no; otherwise open by the first part that stays open; otherwise yes
abbrev pub IsVerdictOn : (limit pivots : ℕ) → Matrix → List LineSet → LargeVerdict → Type 0
IsVerdictOn limit pivots m parts Yes = AllByRecursion (HasVerdict limit pivots m own.Yes) parts
IsVerdictOn limit pivots m parts (No fault) = IsFirstNo limit pivots m parts fault
IsVerdictOn limit pivots m parts (Open lines) = IsFirstOpen limit pivots m parts lines

-- the verdict on the connected parts of the core in the order of their first rows
pub record IsLargeVerdict (limit pivots : ℕ) (m : Matrix) (verdict : LargeVerdict) : Type 0 where
  pub parts : List LineSet
  pub are : AreCoreParts m parts
  pub verdict_is : IsVerdictOn limit pivots m parts verdict
