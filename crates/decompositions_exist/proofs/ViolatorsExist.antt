-- A matrix has a least violator, or it has none.
use Rattle.std.proofs.Common.{◌≡◌, ◌⊎◌, inl, inr, ℕ, List, [], ◌∷◌, length, refl, arith}
use Rattle.std.proofs.lemmas.Bool.{cases_lt}
use Rattle.cmr_base.specs.declared.line_set.LineSet.{LineSet}
use Rattle.cmr_base.specs.Matrix.{Matrix, height, entry}
use Rattle.cmr_base.specs.LineSets.{IsRowSet, IsColumnSet, set_number}
use Rattle.cmr_base.specs.Violator.{IsViolator, HasNoViolator, IsLeastByRows, IsLeastByColumns, IsLeastViolator}
use Rattle.decompositions_exist.proofs.NotExcluded.{NotExcluded, one_of_two}
use Rattle.decompositions_exist.proofs.LeastKeys.{IsFirstBy, first_key}

record IsViolatorOf (m : Matrix) (lines : LineSet) : Type 0 where
  row_set : IsRowSet m lines.rows
  column_set : IsColumnSet m lines.columns
  violator : IsViolator (entry m) lines.rows lines.columns

by_rows : LineSet → List ℕ
by_rows lines = set_number lines.rows ∷ set_number lines.columns ∷ []

by_columns : LineSet → List ℕ
by_columns lines = set_number lines.columns ∷ set_number lines.rows ∷ []

module _ (m : Matrix) where
  least_by_rows : (lines : LineSet) → IsFirstBy by_rows (IsViolatorOf m) lines → IsLeastByRows m lines.rows lines.columns
  unfolding by_rows
  least_by_rows lines f = record {
    row_set = f.has.row_set;
    columns_least = record {
      column_set = f.has.column_set;
      violator = f.has.violator;
      least = λ others is v. elim (cases_lt (set_number others) (set_number lines.columns)) [
        | inl less ↦ absurd (f.first (record { rows = lines.rows; columns = others }) (record { row_set = f.has.row_set; column_set = is; violator = v }) (inr (refl, inl less)))
        | inr most ↦ most
      ];
    };
    rows_least = λ others columns is is' v. elim (cases_lt (set_number others) (set_number lines.rows)) [
      | inl less ↦ absurd (f.first (record { rows = others; columns = columns }) (record { row_set = is; column_set = is'; violator = v }) (inl less))
      | inr most ↦ most
    ];
  }

  least_by_columns : (lines : LineSet) → IsFirstBy by_columns (IsViolatorOf m) lines → IsLeastByColumns m lines.rows lines.columns
  unfolding by_columns
  least_by_columns lines f = record {
    column_set = f.has.column_set;
    rows_least = record {
      row_set = f.has.row_set;
      violator = f.has.violator;
      least = λ others is v. elim (cases_lt (set_number others) (set_number lines.rows)) [
        | inl less ↦ absurd (f.first (record { rows = others; columns = lines.columns }) (record { row_set = is; column_set = f.has.column_set; violator = v }) (inr (refl, inl less)))
        | inr most ↦ most
      ];
    };
    columns_least = λ rows others is is' v. elim (cases_lt (set_number others) (set_number lines.columns)) [
      | inl less ↦ absurd (f.first (record { rows = rows; columns = others }) (record { row_set = is; column_set = is'; violator = v }) (inl less))
      | inr most ↦ most
    ];
  }

  two_by_rows : (lines : LineSet) → length (by_rows lines) ≡ 2
  unfolding by_rows
  two_by_rows lines = refl

  two_by_columns : (lines : LineSet) → length (by_columns lines) ≡ 2
  unfolding by_columns
  two_by_columns lines = refl

  least_of_some : (lines : LineSet) → IsViolatorOf m lines → NotExcluded ((fault : LineSet) × IsLeastViolator m fault.rows fault.columns)
  least_of_some lines is none = elim (cases_lt m.width (height m)) [
    | inl tall ↦ first_key by_columns 2 two_by_columns (IsViolatorOf m) lines is (λ found. none (found.0, record { few_rows = λ flat. absurd (omega (arith, tall, flat)); few_columns = λ l. least_by_columns found.0 found.1 }))
    | inr flat ↦ first_key by_rows 2 two_by_rows (IsViolatorOf m) lines is (λ found. none (found.0, record { few_rows = λ l. least_by_rows found.0 found.1; few_columns = λ tall. absurd (omega (arith, tall, flat)) }))
  ]

  pub least_or_none : NotExcluded (((fault : LineSet) × IsLeastViolator m fault.rows fault.columns) ⊎ HasNoViolator m)
  least_or_none neither = one_of_two ((lines : LineSet) × IsViolatorOf m lines) (λ either. elim either [
    | inl some ↦ least_of_some some.0 some.1 (λ least. neither (inl least))
    | inr none ↦ neither (inr (λ rows columns is is' v. none (record { rows = rows; columns = columns }, record { row_set = is; column_set = is'; violator = v })))
  ])
