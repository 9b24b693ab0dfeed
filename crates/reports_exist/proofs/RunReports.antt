-- Arguments have a report on the contents of the names.
use Rattle.std.proofs.Common.{◌≡◌, ◌⊎◌, inl, inr, ℕ, suc, Bool, true, false, nat_lt, List, [], ◌∷◌, Option, Some, None, length, refl, ap, sym, subst}
use Rattle.cmr_front.specs.Inputs.{Given, InputFile, and_then, given, most_bytes, reading_of, texts, too_much}
use Rattle.cmr_front.specs.Outcome.{bad_words, too_long}
use Rattle.cmr_front.specs.Report.{Held, Report}
use Rattle.cmr_front.specs.Run.{Reports, ReportsGiven}
use Rattle.cmr_tools.specs.ToolOrders.{Order, order, ordered, tool_of}
use Rattle.tree_type.specs.Laws.{SoundOrBroken}
use Rattle.reports_exist.specs.Laws.{AllExist, FilesExist, RunsHaveReports}
use Rattle.reports_exist.proofs.OrderRanges.{order_in_ranges}
use Rattle.reports_exist.proofs.OrderReports.{order_has_report}

-- a text for each file, or a file that is too long
abbrev AreGiven : List InputFile → Given → Type 0
AreGiven files found = ((bytes : List (List ℕ)) × (found ≡ texts bytes) × (length bytes ≡ length files)) ⊎ ((name : List ℕ) × (found ≡ too_much name))

one_more : (file : InputFile) (files : List InputFile) (content : List ℕ) (long : Bool) (others : Given) → nat_lt (most_bytes file.kind) (length content) ≡ long
    → AreGiven files others → AreGiven (file ∷ files) (and_then file.name (reading_of (most_bytes file.kind) (Some content)) others)
one_more file files content true others e given = inr (file.name, rw e refl)
one_more file files content false others e (inl (bytes, f, count)) = inl (content ∷ bytes, rw (e, f) refl, ap suc count)
one_more file files content false others e (inr (name, f)) = inr (name, rw (e, f) refl)

are_given : (held : Held) (files : List InputFile) → AllExist held files → AreGiven files (given held files)
are_given held [] exist = inl ([], refl, refl)
are_given held (file ∷ files) exist =
    let here = exist.0 in
    subst (λ found. AreGiven (file ∷ files) (and_then file.name (reading_of (most_bytes file.kind) found) (given held files))) (sym here.1)
    (one_more file files here.0 (nat_lt (most_bytes file.kind) (length here.0)) (given held files) refl (are_given held files exist.1))

module _ (either : SoundOrBroken) (held : Held) where
  by_order : (words : List (List ℕ)) (found : Option Order) → order words ≡ found → FilesExist (ordered found) held → ((report : Report) → ¬ (Reports (ordered found) held report)) → ⊥
  by_order words None e exist none = none bad_words refl
  by_order words (Some o) e exist none = elim (are_given held (tool_of o).inputs exist) [
    | inl found ↦ order_has_report either o found.0 (order_in_ranges words o e) found.2 (λ report. none report.0 (subst (λ found. ReportsGiven (tool_of o) found report.0) (sym found.1) report.1))
    | inr long ↦ none (too_long long.0) (subst (λ found. ReportsGiven (tool_of o) found (too_long long.0)) (sym long.1) refl)
  ]

pub runs_have_reports : SoundOrBroken → RunsHaveReports
runs_have_reports either words held exist none = by_order either held words (order words) refl exist none
