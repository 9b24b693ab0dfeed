-- Reports that can differ only in what their files contain.
use Rattle.std.specs.Prelude.{◌≡◌, ℕ, List, [], ◌∷◌}
use Rattle.cmr_front.specs.Report.{File, Report}
use Rattle.cmr_front.specs.Tool.{Tool}

-- files in their order are alike, one by one
abbrev pub AllAlike : (File → File → Type 0) → List File → List File → Type 0
AllAlike Alike [] [] = Unit {0}
AllAlike Alike [] (g ∷ gs) = ⊥
AllAlike Alike (f ∷ fs) [] = ⊥
AllAlike Alike (f ∷ fs) (g ∷ gs) = Alike f g × AllAlike Alike fs gs

-- Two reports can differ only in their files, which are alike, one by one. Their statuses, standard outputs and standard errors are
-- equal.
pub record DifferInFiles (Alike : File → File → Type 0) (r s : Report) : Type 0 where
  pub status : r.status ≡ s.status
  pub output : r.output ≡ s.output
  pub error : r.error ≡ s.error
  pub files : AllAlike Alike r.files s.files

-- the texts determine the report, except for what differs between files that are alike
abbrev pub HasAlikeReports : (File → File → Type 0) → Tool → Type 0
HasAlikeReports Alike tool = (bytes : List (List ℕ)) (r s : Report) → tool.Reports bytes r → tool.Reports bytes s → DifferInFiles Alike r s
