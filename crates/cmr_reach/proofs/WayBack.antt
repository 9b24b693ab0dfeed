-- `compose` inverts `parts` on the files that `parts` writes.
use Rattle.std.proofs.Common.{◌≡◌, ◌≢◌, ◌≤◌, ℕ, Bool, false, List, [], ◌∷◌, Some, length, ap, ap₂, sym, subst, refl, arith}
use Rattle.std.specs.Prelude.{if◌then◌else◌}
use Rattle.std.specs.Str.{bytes_eq}
use Rattle.cmr_base.specs.LineSets.{submatrix}
use Rattle.cmr_base.specs.Matrix.{Matrix}
use Rattle.text_fields.specs.TextWords.{text_of}
use Rattle.matrix_text.specs.CanonicalMatrices.{dense_text}
use Rattle.matrix_text.proofs.TextLengths.{dense_text_within}
use Rattle.compose.specs.declared.arrangement.Arranged.{Arranged}
use Rattle.compose.specs.declared.sum_kind.SumKind.{SumKind}
use Rattle.tree_text.specs.TreeReading.{PlainTree, tree}
use Rattle.cmr_front.specs.declared.outcome.FaultKind.TheVariants as faults
use Rattle.cmr_front.specs.declared.status.Answer.TheVariants.{Yes}
use Rattle.cmr_front.specs.Evidence.{ReportsTree, evidence_files}
use Rattle.cmr_front.specs.Inputs.{Given, and_then, given, not_there, texts, too_much}
use Rattle.cmr_front.specs.MatrixText.{matrix_file, matrix_in}
use Rattle.cmr_front.specs.Report.{File, Held, Report, with_files}
use Rattle.cmr_front.specs.Run.{ReportsGiven, ReportsHeld}
use Rattle.cmr_front.specs.Status.{answer_status}
use Rattle.cmr_front.proofs.HeldTexts.{other_name, read_whole, same_name}
use Rattle.cmr_front.proofs.Statuses.{status_of}
use Rattle.cmr_front.proofs.Texts.{answered}
use Rattle.cmr_reach.specs.Compose.{compose_tool, composed_report}
use Rattle.cmr_reach.specs.Parts.{ArePartsOfRoot, PartsDecides, PartsReports, parted, other_root, refused, parts_report, parts_tool, root_of, root_word, PartsOrder}
use Rattle.cmr_reach.specs.WayBack.{PartsComposeBack, back_order}
use Rattle.cmr_reach.proofs.PartsAnswers.{composed_to}

-- ---- the contents of the names after two files were written

module _ (held : Held) (f g : File) where
  first_held : f.name ≢ g.name → with_files held (f ∷ g ∷ []) f.name ≡ Some f.bytes
  first_held apart = ap₂ (λ (a b : Bool). if a then Some g.bytes else (if b then Some f.bytes else held f.name)) (other_name f.name g.name apart) (same_name f.name)

  second_held : with_files held (f ∷ g ∷ []) g.name ≡ Some g.bytes
  second_held = ap (λ (a : Bool). if a then Some g.bytes else (if bytes_eq g.name f.name then Some f.bytes else held g.name)) (same_name g.name)

both_read : (held : Held) (f g : File) → f.name ≢ g.name → length f.bytes ≤ 16777216 → length g.bytes ≤ 16777216
    → given (with_files held (f ∷ g ∷ [])) (matrix_file f.name ∷ matrix_file g.name ∷ []) ≡ texts (f.bytes ∷ g.bytes ∷ [])
both_read held f g apart few many =
    let written = with_files held (f ∷ g ∷ []) in
    ap₂ (λ x y. and_then f.name x (and_then g.name y (texts [])))
    (read_whole written (matrix_file f.name) f.bytes (first_held held f g apart) few) (read_whole written (matrix_file g.name) g.bytes (second_held held f g) many)

-- ---- the texts that were read

pair_reported : (o : PartsOrder) (read : Given) (report : Report) → ReportsGiven (parts_tool o) read report → report.status ≡ answer_status Yes
    → (matrix : List ℕ) × (evidence : List ℕ) × (read ≡ texts (matrix ∷ evidence ∷ [])) × PartsReports o matrix evidence report
pair_reported o (not_there name) report reports answered_yes = absurd reports
pair_reported o (too_much name) report reports answered_yes = let s = status_of report _ reports in absurd (omega arith)
pair_reported o (texts []) report reports answered_yes = absurd reports
pair_reported o (texts (matrix ∷ [])) report reports answered_yes = absurd reports
pair_reported o (texts (matrix ∷ evidence ∷ [])) report reports answered_yes = (matrix, evidence, refl, reports)
pair_reported o (texts (matrix ∷ evidence ∷ other ∷ bytes)) report reports answered_yes = absurd reports

parts_found : (o : PartsOrder) (m : Matrix) (t : PlainTree) (report : Report) → PartsDecides o m t report → report.status ≡ answer_status Yes
    → (kind : SumKind) × (both : Arranged) × ArePartsOfRoot m (root_of t) kind both × (report ≡ parts_report o (root_word (root_of t)) both)
parts_found o m t report (parted sound kind both are e) answered_yes = (kind, both, are, e)
parts_found o m t report (other_root sound none e) answered_yes = let s = status_of report _ e in absurd (omega arith)
parts_found o m t report (refused path broken is e) answered_yes = let s = status_of report _ e in absurd (omega arith)

-- ---- the law

module _ (o : PartsOrder) (held : Held) (m : Matrix) (t : PlainTree) (kind : SumKind) (both : Arranged) (are : ArePartsOfRoot m (root_of t) kind both) (apart : o.first ≢ o.second) where
  abbrev first_file : File
  first_file = record { name = o.first; bytes = dense_text both.first }

  abbrev second_file : File
  second_file = record { name = o.second; bytes = dense_text both.second }

  back : (output : List ℕ) → ReportsHeld (compose_tool (back_order o kind output)) (with_files held (first_file ∷ second_file ∷ [])) (composed_report output (submatrix m both.rows both.columns))
  back output =
      subst (λ read. ReportsGiven (compose_tool (back_order o kind output)) read (composed_report output (submatrix m both.rows both.columns)))
      (sym (both_read held first_file second_file apart (dense_text_within both.first are.first) (dense_text_within both.second are.second)))
      (composed_to m (root_of t) kind both are (back_order o kind output) refl refl)

pub parts_compose_back : PartsComposeBack
parts_compose_back o held report reports answered_yes apart =
    let pair = pair_reported o (given held (evidence_files o.matrix o.tree)) report reports answered_yes in
    let found = answered faults.Matrix o.matrix (λ m. ReportsTree o.tree (PartsDecides o m) pair.1) (matrix_in o.form false pair.0) report Yes pair.3 answered_yes in
    let read = answered faults.Tree o.tree (PartsDecides o found.0) (tree (text_of pair.1)) report Yes found.2 answered_yes in
    let parts = parts_found o found.0 read.0 report read.2 answered_yes in
    record {
      matrix_text = pair.0;
      tree_text = pair.1;
      held_texts = pair.2;
      matrix = found.0;
      matrix_is = found.1;
      plain_tree = read.0;
      tree_is = read.1;
      kind = parts.0;
      both = parts.1;
      are_parts = parts.2;
      printed = ap (λ (r : Report). r.output) parts.3;
      composed = λ output. subst (λ (r : Report). ReportsHeld (compose_tool (back_order o parts.0 output)) (with_files held r.files) (composed_report output (submatrix found.0 (parts.1).rows (parts.1).columns)))
          (sym parts.3) (back o held found.0 read.0 parts.0 parts.1 parts.2 apart output);
    }
