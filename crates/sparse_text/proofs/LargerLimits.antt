-- A reading within larger limits is the same reading if no size is above the smaller limits.
use Rattle.std.proofs.Common.{◌≡◌, ◌*◌, ◌≤◌, ◌⊎◌, inl, inr, ℕ, Bool, true, false, cond, nat_le, List, [], ◌∷◌, Result, Ok, Err, refl, arith}
use Rattle.std.proofs.lemmas.Bool.Decides.{nat_tests}
use Rattle.cmr_base.specs.Matrix.{Matrix, rows_of}
use Rattle.cmr_base.specs.declared.limits.TheConstants.{MAX_COLUMNS, MAX_ROWS}
use Rattle.text_fields.specs.Numbers.{count_in}
use Rattle.text_fields.specs.Reading.{Fault, ended, field, fields}
use Rattle.text_fields.specs.Result.{◌>>=◌, renamed}
use Rattle.text_fields.specs.TextWords.{Text}
use Rattle.text_fields.specs.declared.error.LimitFault.TheVariants.{Number, OutOfRange}
use Rattle.text_fields.specs.declared.error.NumberFault.{NumberFault}
use Rattle.text_fields.proofs.Results.{bind-same}
use Rattle.matrix_text.specs.declared.error.TextKind.{TextKind}
use Rattle.matrix_text.specs.declared.error.TextKind.TheVariants.{Extra, Short, TooManyColumns, TooManyRows}
use Rattle.matrix_text.specs.TextKinds.{limit_kind}
use Rattle.matrix_text.specs.Values.{count, entry_in, limited}
use Rattle.matrix_text.specs.Dense.{dense}
use Rattle.matrix_text.specs.Sparse.{matrix_by_triples, sparse}
use Rattle.sparse_matrix.specs.declared.nonzero.TheConstants.{MAX_SPARSE_LINES}
use Rattle.sparse_text.specs.LargeTexts.{large_dense, large_sparse}
use Rattle.sparse_text.specs.LargeTextLaws.{HaveOneReading}

module _ (most larger : ℕ) (beyond : TextKind) (le : most ≤ larger) where
  -- a count has one reading, or is above the smaller limit
  one_size : (word : List ℕ) → (limited larger beyond word ≡ limited most beyond word) ⊎ (limited most beyond word ≡ Err beyond)
  one_size word = go (count_in word)
    where
      within : ℕ → Result ℕ NumberFault → Result ℕ TextKind
      within limit counted = renamed (limit_kind beyond) (renamed Number counted >>= λ n. cond (nat_le n limit) (Ok n) (Err OutOfRange))

      tested : (n : ℕ) (small large : Bool) → nat_le n most ≡ small → nat_le n larger ≡ large → (within larger (Ok n) ≡ within most (Ok n)) ⊎ (within most (Ok n) ≡ Err beyond)
      tested n false large is_small is_large = inr (rw is_small refl)
      tested n true true is_small is_large = inl (rw (is_small, is_large) refl)
      tested n true false is_small is_large = absurd (grind (arith, nat_tests))

      go : (counted : Result ℕ NumberFault) → (within larger counted ≡ within most counted) ⊎ (within most counted ≡ Err beyond)
      go (Ok n) = tested n (nat_le n most) (nat_le n larger) refl refl
      go (Err fault) = inl refl

  one_size_field : (text : Text) → (field Short (limited larger beyond) text ≡ field Short (limited most beyond) text) ⊎ ((place : ℕ) × (field Short (limited most beyond) text ≡ Err (beyond, place)))
  one_size_field text = go text.words
    where
      go : (words : List (ℕ × List ℕ)) → let text : Text = record { size = text.size; words = words } in
          (field Short (limited larger beyond) text ≡ field Short (limited most beyond) text) ⊎ ((place : ℕ) × (field Short (limited most beyond) text ≡ Err (beyond, place)))
      go [] = inl refl
      go (word ∷ words) = elim (one_size word.1) [
        | inl same ↦ inl (rw same refl)
        | inr above ↦ inr (word.0, rw above refl)
      ]

-- two sizes within limits, and what follows them
abbrev sized : (ℕ → ℕ → Text → Result Matrix (Fault TextKind)) → ℕ → ℕ → Text → Result Matrix (Fault TextKind)
sized rest most_rows most_columns text = do
  height ← field Short (limited most_rows TooManyRows) text
  width ← field Short (limited most_columns TooManyColumns) height.1
  rest height.0 width.0 width.1

one_reading : (rest : ℕ → ℕ → Text → Result Matrix (Fault TextKind)) → HaveOneReading (sized rest MAX_ROWS MAX_COLUMNS) (sized rest MAX_SPARSE_LINES MAX_SPARSE_LINES)
one_reading rest text within = elim (one_size_field MAX_ROWS MAX_SPARSE_LINES TooManyRows (omega arith) text) [
  | inl same_height ↦ rw same_height (bind-same (field Short (limited MAX_ROWS TooManyRows) text) (columns MAX_SPARSE_LINES) (columns MAX_COLUMNS) (λ height height_is. one_width height height_is))
  | inr above ↦ absurd ((within above.0).0 (rw above.1 refl))
]
  where
    columns : ℕ → ℕ × Text → Result Matrix (Fault TextKind)
    columns most height = field Short (limited most TooManyColumns) height.1 >>= λ width. rest height.0 width.0 width.1

    one_width : (height : ℕ × Text) → field Short (limited MAX_ROWS TooManyRows) text ≡ Ok height → columns MAX_SPARSE_LINES height ≡ columns MAX_COLUMNS height
    one_width height height_is = elim (one_size_field MAX_COLUMNS MAX_SPARSE_LINES TooManyColumns (omega arith) height.1) [
      | inl same_width ↦ rw same_width refl
      | inr above ↦ absurd ((within above.0).1 (rw (height_is, above.1) refl))
    ]

pub one_dense_reading : HaveOneReading (dense false) large_dense
one_dense_reading = one_reading entries
  where
    entries : ℕ → ℕ → Text → Result Matrix (Fault TextKind)
    entries height width text = fields Short (entry_in false) (height * width) text >>= λ cells. ended Extra (record { rows = rows_of height width cells.0; width = width }) cells.1

pub one_sparse_reading : HaveOneReading (sparse false) large_sparse
one_sparse_reading = one_reading triples
  where
    triples : ℕ → ℕ → Text → Result Matrix (Fault TextKind)
    triples height width text = field Short count text >>= λ n. matrix_by_triples false height width n.0 n.1 >>= λ matrix. ended Extra matrix.0 matrix.1
