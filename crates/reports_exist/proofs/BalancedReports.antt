-- `balanced` has a report on each text.
use Rattle.std.proofs.Common.{◌≡◌, ◌≤◌, inl, inr, ℕ, false, List, [], ◌∷◌, length, refl, sym, subst, arith}
use Rattle.std.proofs.lemmas.Bool.{cases_lt}
use Rattle.cmr_base.specs.CyclePlaces.{HasNoCycleFault, IsFaultAt}
use Rattle.cmr_base.specs.LineSets.{IsColumnSet, IsRowSet, set_number}
use Rattle.cmr_base.specs.Matrix.{Matrix, IsMatrix, entry, height}
use Rattle.cmr_base.specs.declared.limits.TheConstants.{MAX_LINES}
use Rattle.cmr_base.specs.declared.line_set.LineSet.{LineSet}
use Rattle.cmr_front.proofs.MatrixText.{read_is_matrix}
use Rattle.balance.specs.BalanceFaults.{IsBalanceFault, IsBalanced, IsLeastFault, IsLeastFaultByColumns, IsLeastFaultByRows}
use Rattle.balance.specs.SearchedFaults.{HasSearchedFaults}
use Rattle.tree_type.specs.DecompositionTrees.{SizedTree}
use Rattle.tree_type.specs.Soundness.{IsSoundTree}
use Rattle.tree_type.specs.Invariant.{IsTreeFor}
use Rattle.tree_type.specs.Verdicts as verdicts
use Rattle.tree_type.specs.Verdicts.{verdict_of}
use Rattle.decomp_tree.proofs.PivotedRoots.{pivoted_shapes_are_sound}
use Rattle.cmr_reach.specs.Balanced.{BalancedDecides, BalancedOrder, IsDecomposed, balanced_label, balanced_source, balanced_tool, cycle, decomposed, search_report, searched}
use Rattle.cmr_reach.specs.FaultReports.{fault_report, yes_report}
use Rattle.cmr_reach.proofs.BalancedAnswers.{balanced_by_tree, cycle_is_fault}
use Rattle.decompositions_exist.proofs.FaultsExist.{first_fault}
use Rattle.decompositions_exist.proofs.LeastKeys.{IsFirstBy, first_key}
use Rattle.decompositions_exist.proofs.NodesExist.{node_of_tree}
use Rattle.decompositions_exist.proofs.NotExcluded.{NotExcluded, one_of_two}
use Rattle.reports_exist.proofs.TextReports.{HasReport, on_matrix}
use Rattle.leaf_enumerate.specs.Searched.{shorter_side}
use Rattle.leaf_enumerate.specs.declared.search.LeastSubmatrix.{LeastSubmatrix}
use Rattle.leaf_enumerate.specs.declared.search.LeastSubmatrix.TheVariants.{Clean, Found, TooMany}

-- ---- the least fault

record IsFault (m : Matrix) (lines : LineSet) : Type 0 where
  row_set : IsRowSet m lines.rows
  column_set : IsColumnSet m lines.columns
  fault : IsBalanceFault (entry m) lines.rows lines.columns

by_rows : LineSet → List ℕ
by_rows lines = set_number lines.rows ∷ set_number lines.columns ∷ []

by_columns : LineSet → List ℕ
by_columns lines = set_number lines.columns ∷ set_number lines.rows ∷ []

two_by_rows : (lines : LineSet) → length (by_rows lines) ≡ 2
unfolding by_rows
two_by_rows lines = refl

two_by_columns : (lines : LineSet) → length (by_columns lines) ≡ 2
unfolding by_columns
two_by_columns lines = refl

module _ (m : Matrix) where
  least_by_rows : (lines : LineSet) → IsFirstBy by_rows (IsFault m) lines → IsLeastFaultByRows m lines.rows lines.columns
  unfolding by_rows
  least_by_rows lines f = record {
    row_set = f.has.row_set;
    columns_least = record {
      column_set = f.has.column_set;
      fault = f.has.fault;
      least = λ others is v. elim (cases_lt (set_number others) (set_number lines.columns)) [
        | inl less ↦ absurd (f.first (record { rows = lines.rows; columns = others }) (record { row_set = f.has.row_set; column_set = is; fault = v }) (inr (refl, inl less)))
        | inr most ↦ most
      ];
    };
    rows_least = λ others columns is is' v. elim (cases_lt (set_number others) (set_number lines.rows)) [
      | inl less ↦ absurd (f.first (record { rows = others; columns = columns }) (record { row_set = is; column_set = is'; fault = v }) (inl less))
      | inr most ↦ most
    ];
  }

  least_by_columns : (lines : LineSet) → IsFirstBy by_columns (IsFault m) lines → IsLeastFaultByColumns m lines.rows lines.columns
  unfolding by_columns
  least_by_columns lines f = record {
    column_set = f.has.column_set;
    rows_least = record {
      row_set = f.has.row_set;
      fault = f.has.fault;
      least = λ others is v. elim (cases_lt (set_number others) (set_number lines.rows)) [
        | inl less ↦ absurd (f.first (record { rows = others; columns = lines.columns }) (record { row_set = is; column_set = f.has.column_set; fault = v }) (inr (refl, inl less)))
        | inr most ↦ most
      ];
    };
    columns_least = λ rows others is is' v. elim (cases_lt (set_number others) (set_number lines.columns)) [
      | inl less ↦ absurd (f.first (record { rows = rows; columns = others }) (record { row_set = is; column_set = is'; fault = v }) (inl less))
      | inr most ↦ most
    ];
  }

  least_of_some : (lines : LineSet) → IsFault m lines → NotExcluded ((fault : LineSet) × IsLeastFault m fault.rows fault.columns)
  least_of_some lines is none = elim (cases_lt m.width (height m)) [
    | inl tall ↦ first_key by_columns 2 two_by_columns (IsFault m) lines is (λ found. none (found.0, record { few_rows = λ flat. absurd (omega (arith, tall, flat)); few_columns = λ l. least_by_columns found.0 found.1 }))
    | inr flat ↦ first_key by_rows 2 two_by_rows (IsFault m) lines is (λ found. none (found.0, record { few_rows = λ l. least_by_rows found.0 found.1; few_columns = λ tall. absurd (omega (arith, tall, flat)) }))
  ]

  searched_exists : (budget : ℕ) → NotExcluded ((found : LeastSubmatrix) × HasSearchedFaults m budget found)
  searched_exists budget none = elim (cases_lt budget (shorter_side m)) [
    | inl many ↦ none (TooMany (shorter_side m), (many, refl))
    | inr few ↦ one_of_two ((lines : LineSet) × IsFault m lines) (λ either. elim either [
      | inl some ↦ least_of_some some.0 some.1 (λ least. none (Found least.0, (few, least.1)))
      | inr balanced ↦ none (Clean, (few, λ rows columns is is' v. balanced (record { rows = rows; columns = columns }, record { row_set = is; column_set = is'; fault = v })))
    ])
  ]

-- ---- the tool

module _ (o : BalancedOrder) (low : o.budget ≤ MAX_LINES) where
  balanced_if_decomposed : (m : Matrix) → IsMatrix m → IsDecomposed o.budget o.pivots m → IsBalanced m
  balanced_if_decomposed m is d =
      let node = node_of_tree (height m) m.width d.tree d.is_tree in
      let sized : SizedTree = record { rows = height m; columns = m.width; root = node.0 } in
      let sound = pivoted_shapes_are_sound o.budget o.pivots m d.tree low is d.shape in
      balanced_by_tree m is sized (subst (IsTreeFor (height m) m.width) (sym node.1) d.is_tree) (subst (IsSoundTree m (height m) m.width) (sym node.1) sound)
      (subst (λ tree. verdict_of tree ≡ verdicts.Yes) (sym node.1) d.verdict)

  decided : (m : Matrix) → IsMatrix m → HasReport (BalancedDecides o m)
  decided m is none = one_of_two ((t : ℕ) × (c : ℕ) × (d : ℕ) × (path : List ℕ) × IsFaultAt (entry m) t c d path) (λ either. elim either [
    | inl f ↦ first_fault m is f.0 f.1 f.2 f.3 f.4 (λ fault. none (fault_report balanced_label o.fault m fault.0, cycle fault.0 fault.1 (cycle_is_fault m fault.0 is fault.1) refl))
    | inr without ↦ without_fault m is (λ t c d path fault. without (t, c, d, path, fault)) none
  ])
    where
      without_fault : (m : Matrix) → IsMatrix m → HasNoCycleFault (entry m) → HasReport (BalancedDecides o m)
      without_fault m is no_fault none = one_of_two (IsDecomposed o.budget o.pivots m) (λ either. elim either [
        | inl d ↦ none (yes_report balanced_label, decomposed no_fault d (balanced_if_decomposed m is d) refl)
        | inr not ↦ searched_exists m o.budget (λ found. none (search_report o m found.0, searched (record { no_fault = no_fault; undecomposed = not }) found.0 found.1 refl))
      ])

  pub balanced_has_report : (texts : List (List ℕ)) → length texts ≡ 1 → HasReport ((balanced_tool o).Reports texts)
  balanced_has_report = on_matrix (balanced_source o) (BalancedDecides o) (λ bytes m e. decided m (read_is_matrix o.form false bytes m e))
