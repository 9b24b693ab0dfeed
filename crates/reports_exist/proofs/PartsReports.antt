-- `parts` has a report on each matrix and each tree.
use Rattle.std.proofs.Common.{◌≡◌, ◌⊎◌, inl, inr, ℕ, false, List, length, Ok, refl}
use Rattle.cmr_base.specs.Matrix.{Matrix, IsMatrix}
use Rattle.cmr_base.specs.declared.separation.Three.{Three}
use Rattle.cmr_base.specs.declared.separation.Two.{Two}
use Rattle.compose.specs.Arrangements.{HasSignedLines, arranged, three_arrangement, two_arrangement}
use Rattle.compose.specs.RoundTrips.{IsRoundTrip, IsThreeOf, IsTwoOf}
use Rattle.compose.specs.SumKinds.{kind_of_form}
use Rattle.compose.specs.declared.arrangement.Arranged.{Arranged}
use Rattle.compose.specs.declared.arrangement.Arrangement.{Arrangement}
use Rattle.compose.specs.declared.sum_kind.SumKind.{SumKind}
use Rattle.compose.specs.declared.sum_kind.SumKind.TheVariants as sums
use Rattle.compose.proofs.FittingArrangements.{three_arrangement_fits, two_arrangement_fits}
use Rattle.compose.proofs.RoundTrips.{three_round_trips, two_round_trips}
use Rattle.text_fields.specs.TextWords.{text_of}
use Rattle.tree_type.specs.DecompositionTrees.{Branch, Conetwork, Cycle, Empty, Enumerated, Finding, Network, OneSum, Pivoted, R10, Reduced, ThreeSum, Tree, TwoSum, Undecided, Violator, finding_of}
use Rattle.tree_type.specs.Laws.{SoundOrBroken}
use Rattle.tree_type.specs.Soundness.{IsSoundTree}
use Rattle.tree_text.specs.TreeReading.{PlainTree, tree}
use Rattle.tree_text.proofs.ReadTrees.{read_for}
use Rattle.cmr_front.specs.declared.outcome.FaultKind.TheVariants as faults
use Rattle.cmr_front.specs.Evidence.{ReportsTree}
use Rattle.cmr_front.specs.MatrixText.{matrix_in}
use Rattle.cmr_front.specs.Refusals.{refusal_line}
use Rattle.cmr_front.proofs.MatrixText.{read_is_matrix}
use Rattle.cmr_reach.specs.Parts.{ArePartsOfRoot, HasNoParts, IsRootSum, PartsDecides, PartsOrder, PartsReports, other_root, other_root_report, parted, parts_report, parts_tool, refused, root_of, root_word, said_refused}
use Rattle.cmr_reach.proofs.RootSums.{three_of_root, two_of_root}
use Rattle.reports_exist.proofs.SignedParts.{first_is_matrix, second_is_matrix}
use Rattle.reports_exist.proofs.SoundTrees.{sound_or_refused}
use Rattle.reports_exist.proofs.TextReports.{HasReport, on_pair, on_text}

-- the sum of the root with its two matrices, or none
abbrev HasParts : Matrix → Finding → Type 0
HasParts m finding = (kind : SumKind) × (both : Arranged) × ArePartsOfRoot m finding kind both

module _ (m : Matrix) (is : IsMatrix m) where
  made : (finding : Finding) (kind : SumKind) (arrangement : Arrangement) → IsRootSum m kind (arranged m arrangement) finding → HasSignedLines m arrangement
      → IsRoundTrip kind m (arranged m arrangement) → HasParts m finding
  made finding kind arrangement of_root fits round = (
    kind,
    arranged m arrangement,
    record { of_root = of_root; round_trip = round; whole = is; first = first_is_matrix m is arrangement fits; second = second_is_matrix m is arrangement fits },
  )

  two_parts : (two : Two) → IsTwoOf m two → HasParts m (TwoSum two)
  two_parts two of = made (TwoSum two) sums.Two (two_arrangement m two) (refl, refl) (two_arrangement_fits m two is.small of) (two_round_trips m two of)

  three_parts : (three : Three) → IsThreeOf m three → HasParts m (ThreeSum three)
  three_parts three of = made (ThreeSum three) (kind_of_form three.form) (three_arrangement m three) (refl, refl) (three_arrangement_fits m three is.small of) (three_round_trips m three is.small of)

  parts_or_none : (rows columns : ℕ) (t : Tree) → IsSoundTree m rows columns t → HasParts m (finding_of t) ⊎ HasNoParts m (finding_of t)
  parts_or_none rows columns (Branch lines (TwoSum two) trees) sound = inl (two_parts two (two_of_root m rows columns lines two trees sound))
  parts_or_none rows columns (Branch lines (ThreeSum three) trees) sound = inl (three_parts three (three_of_root m rows columns lines three trees sound))
  parts_or_none rows columns (Branch lines Empty trees) sound = inr (λ kind both root. root)
  parts_or_none rows columns (Branch lines (Cycle fault) trees) sound = inr (λ kind both root. root)
  parts_or_none rows columns (Branch lines (Reduced steps) trees) sound = inr (λ kind both root. root)
  parts_or_none rows columns (Branch lines OneSum trees) sound = inr (λ kind both root. root)
  parts_or_none rows columns (Branch lines (Network net) trees) sound = inr (λ kind both root. root)
  parts_or_none rows columns (Branch lines (Conetwork net) trees) sound = inr (λ kind both root. root)
  parts_or_none rows columns (Branch lines R10 trees) sound = inr (λ kind both root. root)
  parts_or_none rows columns (Branch lines Enumerated trees) sound = inr (λ kind both root. root)
  parts_or_none rows columns (Branch lines (Violator fault) trees) sound = inr (λ kind both root. root)
  parts_or_none rows columns (Branch lines Undecided trees) sound = inr (λ kind both root. root)
  parts_or_none rows columns (Branch lines (Pivoted place) trees) sound = inr (λ kind both root. root)

module _ (either : SoundOrBroken) (o : PartsOrder) where
  decided : (m : Matrix) → IsMatrix m → (bytes : List ℕ) (t : PlainTree) → tree (text_of bytes) ≡ Ok t → HasReport (PartsDecides o m t)
  decided m is bytes t e none = sound_or_refused either m t (read_for (text_of bytes) t e) (λ answer. elim answer [
    | inl sound ↦ elim (parts_or_none m is t.rows t.columns t.root sound) [
      | inl found ↦ none (parts_report o (root_word (root_of t)) found.1, parted sound found.0 found.1 found.2 refl)
      | inr other ↦ none (other_root_report (root_word (root_of t)), other_root sound other refl)
    ]
    | inr broken ↦ none (said_refused (refusal_line broken.0 broken.1), refused broken.0 broken.1 broken.2 refl)
  ])

  pub parts_has_report : (texts : List (List ℕ)) → length texts ≡ 2 → HasReport ((parts_tool o).Reports texts)
  parts_has_report texts count = on_pair (PartsReports o)
      (λ matrix evidence. on_text faults.Matrix o.matrix (λ m. ReportsTree o.tree (PartsDecides o m) evidence) (matrix_in o.form false matrix)
      (λ m e. on_text faults.Tree o.tree (PartsDecides o m) (tree (text_of evidence)) (decided m (read_is_matrix o.form false matrix m e) evidence)))
      texts count
