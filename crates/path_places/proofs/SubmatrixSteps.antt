-- Rows and columns of a submatrix with nonzeros, row by row.
use Rattle.std.proofs.Common.{◌≡◌, ◌<◌, ◌+◌, ◌||◌, ◌&&◌, ◌⊎◌, ◌∙◌, inl, inr, ℕ, true, false, List, [], ◌∷◌, sym, subst, arith}
use Rattle.std.proofs.lemmas.Bool.{cases_lt}
use Rattle.cmr_base.specs.BitSets.{Bits}
use Rattle.cmr_base.specs.ColumnSets.{has_column, HasCommon}
use Rattle.cmr_base.specs.Matrix.{height}
use Rattle.cmr_base.specs.Seeds.{IsBefore}
use Rattle.cmr_base.specs.Trees.{support}
use Rattle.cmr_base.proofs.Booleans.{and_is, is_and, not_both, or_is, or_left, or_right}
use Rattle.path_places.specs.Submatrices.{IsFirstInRow, IsFirstNonzero, IsMeetingColumn, IsMeetingRow, IsNonzeroAmong, SubmatrixView}

-- a number below the next one is below or the same
below_next : (P : ℕ → Type 0) (x row : ℕ) → x < row + 1 → (x < row → P x) → P row → P x
below_next P x row l low here = elim (cases_lt x row) [
  | inl h ↦ low h
  | inr h ↦ let is : row ≡ x = omega arith in subst P is here
]

-- the rows below this one that meet the columns
pub record AreRowsMet (s : SubmatrixView) (set : Bits) (row : ℕ) : Type 0 where
  pub size : set.size ≡ height s.matrix
  pub only : (r : ℕ) → has_column set.words r ≡ true → IsMeetingRow s r
  pub all : (r : ℕ) → r < row → IsMeetingRow s r → has_column set.words r ≡ true

-- the columns that the rows below this one meet
pub record AreColumnsMet (s : SubmatrixView) (set : Bits) (row : ℕ) : Type 0 where
  pub size : set.size ≡ s.matrix.width
  pub only : (c : ℕ) → has_column set.words c ≡ true → IsMeetingColumn s c
  pub all : (r c : ℕ) → r < row → IsNonzeroAmong s r c → has_column set.words c ≡ true

module _ (s : SubmatrixView) where
  pub no_rows_met : (set : Bits) → set.size ≡ height s.matrix → ((r : ℕ) → has_column set.words r ≡ false) → AreRowsMet s set 0
  no_rows_met set size none = record {
    size = size;
    only = λ r e. absurd (not_both (has_column set.words r) e (none r));
    all = λ r l h. absurd (omega arith);
  }

  pub row_met : (old new : Bits) (row : ℕ) → AreRowsMet s old row → IsMeetingRow s row → new.size ≡ old.size
      → ((x : ℕ) → has_column new.words x ≡ true → (x ≡ row) ⊎ (has_column old.words x ≡ true)) → has_column new.words row ≡ true
      → ((x : ℕ) → has_column old.words x ≡ true → has_column new.words x ≡ true)
      → AreRowsMet s new (row + 1)
  row_met old new row so meets size only here kept = record {
    size = size ∙ so.size;
    only = λ r e. elim (only r e) [ inl is ↦ subst (λ (x : ℕ). IsMeetingRow s x) (sym is) meets | inr h ↦ so.only r h ];
    all = λ r l h. below_next (λ x. has_column new.words x ≡ true) r row l (λ low. kept r (so.all r low h)) here;
  }

  pub row_passed : (old : Bits) (row : ℕ) → AreRowsMet s old row → (IsMeetingRow s row → ⊥) → AreRowsMet s old (row + 1)
  row_passed old row so never = record {
    size = so.size;
    only = so.only;
    all = λ r l h. below_next (λ x. IsMeetingRow s x → has_column old.words x ≡ true) r row l (λ low h. so.all r low h) (λ h. absurd (never h)) h;
  }

  pub no_columns_met : (set : Bits) → set.size ≡ s.matrix.width → ((c : ℕ) → has_column set.words c ≡ false) → AreColumnsMet s set 0
  no_columns_met set size none = record {
    size = size;
    only = λ c e. absurd (not_both (has_column set.words c) e (none c));
    all = λ r c l h. absurd (omega arith);
  }

  -- ---- one row, whose nonzeros are given as words

  module _ (words : List ℕ) (row : ℕ) (is : (c : ℕ) → has_column words c ≡ support s.matrix row c) where
    pub meets_row : row < height s.matrix → has_column s.rows.words row ≡ true → HasCommon s.columns.words words → IsMeetingRow s row
    meets_row inside has (c, e, f) = (c, record { inside = inside; row = has; column = e; nonzero = sym (is c) ∙ f })

    pub row_meets : IsMeetingRow s row → HasCommon s.columns.words words
    row_meets (c, among) = (c, among.column, is c ∙ among.nonzero)

    pub columns_met : (old new : Bits) → AreColumnsMet s old row → row < height s.matrix → has_column s.rows.words row ≡ true → new.size ≡ old.size
        → ((c : ℕ) → has_column new.words c ≡ (has_column old.words c || (has_column s.columns.words c && has_column words c)))
        → AreColumnsMet s new (row + 1)
    columns_met old new so inside has size added = record {
      size = size ∙ so.size;
      only = λ c e. elim (or_is (has_column old.words c) (has_column s.columns.words c && has_column words c) (sym (added c) ∙ e)) [
        | inl h ↦ so.only c h
        | inr h ↦ let both = and_is (has_column s.columns.words c) (has_column words c) h in (row, record { inside = inside; row = has; column = both.0; nonzero = sym (is c) ∙ both.1 })
      ];
      all = λ r c l among. below_next (λ x. IsNonzeroAmong s x c → has_column new.words c ≡ true) r row l
          (λ low among. added c ∙ or_left (has_column old.words c) (has_column s.columns.words c && has_column words c) (so.all r c low among))
          (λ among. added c ∙ or_right (has_column old.words c) (has_column s.columns.words c && has_column words c) (is_and (has_column s.columns.words c) (has_column words c) among.column (is c ∙ among.nonzero)))
          among;
    }

  pub columns_passed : (old : Bits) (row : ℕ) → AreColumnsMet s old row → has_column s.rows.words row ≡ false → AreColumnsMet s old (row + 1)
  columns_passed old row so not_in = record {
    size = so.size;
    only = so.only;
    all = λ r c l among. below_next (λ x. IsNonzeroAmong s x c → has_column old.words c ≡ true) r row l
        (λ low among. so.all r c low among) (λ among. absurd (not_both (has_column s.rows.words row) among.row not_in)) among;
  }

  -- ---- the first nonzero

  pub first_nonzero : (row column : ℕ) → ((i j : ℕ) → i < row → ¬ (IsNonzeroAmong s i j)) → IsFirstInRow s row column → IsFirstNonzero s row column
  first_nonzero row column none found = record { here = found.here; first = λ i j among before. never i j among before }
    where
      never : (i j : ℕ) → IsNonzeroAmong s i j → IsBefore (i ∷ j ∷ []) (row ∷ column ∷ []) → ⊥
      never i j among (inl l) = none i j l among
      never i j among (inr (same, inl l)) = found.first j l (subst (λ (x : ℕ). IsNonzeroAmong s x j) same among)
      never i j among (inr (same, inr (other, h))) = absurd h

  pub none_above : (row : ℕ) → ((i j : ℕ) → i < row → ¬ (IsNonzeroAmong s i j)) → ((j : ℕ) → ¬ (IsNonzeroAmong s row j)) → (i j : ℕ) → i < row + 1 → ¬ (IsNonzeroAmong s i j)
  none_above row none here i j l = below_next (λ x. IsNonzeroAmong s x j → ⊥) i row l (λ low. none i j low) (here j)
