-- Reports that can differ only in what their files contain.
use Rattle.std.proofs.Common.{◌≡◌, ◌++◌, List, [], ◌∷◌, refl, sym, subst}
use Rattle.cmr_front.specs.AlikeReports.{AllAlike, DifferInFiles, HasAlikeReports}
use Rattle.cmr_front.specs.Report.{File, Report}
use Rattle.cmr_front.specs.Tool.{HasOneReport, Tool}

module _ (Alike : File → File → Type 0) where
  module _ (same : (f : File) → Alike f f) where
    pub same_files : (fs : List File) → AllAlike Alike fs fs
    same_files [] = tt
    same_files (f ∷ fs) = (same f, same_files fs)

    pub equal_reports : (r s : Report) → r ≡ s → DifferInFiles Alike r s
    equal_reports r s e = subst (DifferInFiles Alike r) e (record { status = refl; output = refl; error = refl; files = same_files r.files })

    -- a tool with one report
    pub one_is_alike : (tool : Tool) → HasOneReport tool → HasAlikeReports Alike tool
    one_is_alike tool one bytes r s a b = equal_reports r s (one bytes r s a b)

  pub alike_append : (fs gs hs ks : List File) → AllAlike Alike fs gs → AllAlike Alike hs ks → AllAlike Alike (fs ++ hs) (gs ++ ks)
  alike_append [] [] hs ks a b = b
  alike_append [] (g ∷ gs) hs ks a b = absurd a
  alike_append (f ∷ fs) [] hs ks a b = absurd a
  alike_append (f ∷ fs) (g ∷ gs) hs ks a b = (a.0, alike_append fs gs hs ks a.1 b)

  pub alike_reports : (r r' s s' : Report) → r ≡ r' → s ≡ s' → DifferInFiles Alike r' s' → DifferInFiles Alike r s
  alike_reports r r' s s' e f alike = subst (λ x. DifferInFiles Alike x s) (sym e) (subst (DifferInFiles Alike r') (sym f) alike)

  -- if alike files are alike in a wider sense, so are the reports
  module _ (Wider : File → File → Type 0) (wider : (f g : File) → Alike f g → Wider f g) where
    files_wider : (fs gs : List File) → AllAlike Alike fs gs → AllAlike Wider fs gs
    files_wider [] [] a = tt
    files_wider [] (g ∷ gs) a = absurd a
    files_wider (f ∷ fs) [] a = absurd a
    files_wider (f ∷ fs) (g ∷ gs) a = (wider f g a.0, files_wider fs gs a.1)

    pub reports_wider : (tool : Tool) → HasAlikeReports Alike tool → HasAlikeReports Wider tool
    reports_wider tool alike bytes r s a b =
        let d = alike bytes r s a b in
        record { status = d.status; output = d.output; error = d.error; files = files_wider r.files s.files d.files }
