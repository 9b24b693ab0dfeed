-- The columns that a row has in common with a list of rows.
use Rattle.std.proofs.Common.{ℕ, ◌+◌, Bool, true, false, List, ◌≡◌, ◌<◌, ◌≤◌, ◌∙◌, ◌&&◌, ◌||◌, ◌⊎◌, inl, inr, length, get_or, sym, ap, arith}
use Rattle.std.proofs.lemmas.Bool.{cases_lt}
use Rattle.cmr_base.specs.BitSets.{Bits}
use Rattle.cmr_base.specs.ColumnSets.{has_column}
use Rattle.cmr_base.specs.Matrix.{Matrix}
use Rattle.cmr_base.specs.Trees.{support}
use Rattle.cmr_base.proofs.Booleans.{and_is, is_and, not_both, or_is, or_left, or_right}
use Rattle.cmr_base.proofs.Members.{in_at}
use Rattle.cmr_base.proofs.Places.{found_at}
use Rattle.bridge_split.specs.Cutting.{AreCommonColumns, HasCommonBefore}

module _ (m : Matrix) (i : ℕ) (P : List ℕ) where
  -- the column is in row i and in the row at a place
  abbrev pub is_shared : ℕ → ℕ → Bool
  is_shared place column = support m i column && support m (get_or P place 0) column

  pub common_starts : (set : Bits) → set.size ≡ m.width → ((column : ℕ) → has_column set.words column ≡ false) → HasCommonBefore m i P 0 set
  common_starts set size none = record {
    size = size;
    into = λ column e. absurd (not_both (has_column set.words column) e (none column));
    from = λ p column l. absurd (omega arith);
  }

  pub common_more : (place : ℕ) (before after : Bits) → place < length P → HasCommonBefore m i P place before → after.size ≡ before.size
      → ((column : ℕ) → has_column after.words column ≡ (has_column before.words column || is_shared place column)) → HasCommonBefore m i P (place + 1) after
  common_more place before after inside so size more = record {
    size = size ∙ so.size;
    into = λ column e. elim (or_is (has_column before.words column) (is_shared place column) (sym (more column) ∙ e)) [
      | inl f ↦ so.into column f
      | inr f ↦ let both = and_is (support m i column) (support m (get_or P place 0) column) f in (both.0, (get_or P place 0, in_at P place inside, both.1))
    ];
    from = λ p column l own other. more column ∙ at p column l own other (cases_lt p place);
  }
    where
      at : (p column : ℕ) → p < place + 1 → support m i column ≡ true → support m (get_or P p 0) column ≡ true → (p < place) ⊎ (place ≤ p)
          → (has_column before.words column || is_shared place column) ≡ true
      at p column l own other (inl k) = or_left (has_column before.words column) (is_shared place column) (so.from p column k own other)
      at p column l own other (inr k) =
          let e : p ≡ place = omega arith in
          or_right (has_column before.words column) (is_shared place column)
          (is_and (support m i column) (support m (get_or P place 0) column) own (ap (λ (z : ℕ). support m (get_or P z 0) column) (sym e) ∙ other))

  -- all rows have been read
  pub common_ends : (place : ℕ) (set : Bits) → length P ≤ place → HasCommonBefore m i P place set → AreCommonColumns (support m) i P (has_column set.words)
  common_ends place set past so column = (so.into column, λ (own, (k, inside, other)). at own k other (found_at P k inside))
    where
      at : support m i column ≡ true → (k : ℕ) → support m k column ≡ true → (p : ℕ) × (p < length P) × (get_or P p 0 ≡ k) → has_column set.words column ≡ true
      at own k other (p, l, e) = so.from p column (omega arith) own (ap (λ (z : ℕ). support m z column) e ∙ other)

  -- all columns of row i have been found
  pub common_full : (place : ℕ) (set : Bits) → ((column : ℕ) → support m i column ≡ true → has_column set.words column ≡ true) → HasCommonBefore m i P place set
      → AreCommonColumns (support m) i P (has_column set.words)
  common_full place set all so column = (so.into column, λ common. all column common.0)
