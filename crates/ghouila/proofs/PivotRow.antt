-- A pivot made in a matrix, entry by entry and row by row.
use Rattle.std.proofs.Common.{◌≡◌, ◌≢◌, ◌<◌, ◌≤◌, ◌+◌, ◌++◌, ◌∙◌, inl, inr, ℕ, ℤ, pos, neg_ℤ, ◌-ℤ◌, ◌*ℤ◌, false, List, [], ◌∷◌, refl, ap, sym, subst, arith}
use Rattle.std.proofs.lemmas.Bool.{cases_eq, cases_lt}
use Rattle.cmr_base.specs.Matrix.{Matrix, height, entry, with_entry, IsMatrix, IsEntry}
use Rattle.cmr_base.specs.Trees.{support}
use Rattle.cmr_base.proofs.Booleans.{zero_is}
use Rattle.cmr_base.proofs.Entries.{height-with_entry, entry-with_entry_same, entry-with_entry_other_column, entry-with_entry_other_row, is_matrix-with_entry}
use Rattle.cmr_base.proofs.Integers.{sums, products}
use Rattle.cmr_base.proofs.Lists.{all-append, all_both, all_prefix, all_back}
use Rattle.cmr_base.specs.PlacedPivots.{reduced, pivoted}
use Rattle.ghouila.specs.Pivot.{IsOutside, IsTernaryRow, KeepsRowsElsewhere, PivotsRows}
use Rattle.ghouila.proofs.PivotSums.{pivoted_apart, pivoted_at}

pub keeps_all : (m : Matrix) (rows : List ℕ) → KeepsRowsElsewhere m m rows
keeps_all m rows = record { same_height = refl; same_width = refl; others = λ i j out. refl }

pub keeps_with_entry : (before now : Matrix) (other column : ℕ) (value : ℤ) → KeepsRowsElsewhere before now (other ∷ []) → KeepsRowsElsewhere before (with_entry now other column value) (other ∷ [])
keeps_with_entry before now other column value keeps = record {
  same_height = height-with_entry now other column value ∙ keeps.same_height;
  same_width = keeps.same_width;
  others = λ i j out. entry-with_entry_other_row now other column value i j (λ e. out.0 (sym e)) ∙ keeps.others i j out;
}

-- the entries of one row are reduced in the columns before k
pub record IsReduced (before now : Matrix) (row column other k : ℕ) : Type 0 where
  pub shape : IsMatrix now
  pub others : KeepsRowsElsewhere before now (other ∷ [])
  pub done : (j : ℕ) → j < k → entry now other j ≡ reduced (entry before) row column other j
  pub ahead : (j : ℕ) → k ≤ j → entry now other j ≡ entry before other j

pub reduced_none : (m : Matrix) (row column other : ℕ) → IsMatrix m → IsReduced m m row column other 0
reduced_none m row column other is = record { shape = is; others = keeps_all m (other ∷ []); done = λ j h. absurd (omega arith); ahead = λ j h. refl }

-- a column with 0 in the pivot's row does not change
pub reduced_beside : (M : ℕ → ℕ → ℤ) (row column i j : ℕ) → M row j ≡ pos 0 → reduced M row column i j ≡ M i j
reduced_beside M row column i j e = ap (λ (q : ℤ). M i j -ℤ M row column *ℤ (M i column *ℤ q)) e ∙ less_nothing (M i j) (M row column) (M i column)
  where
    less_nothing : (x a p : ℤ) → x -ℤ a *ℤ (p *ℤ pos 0) ≡ x
    less_nothing x a p = simp products (omega (arith, sums))

-- the pivot gives no 2 and no -2 in a column with 0 in the pivot's row
pub small_over : (m : Matrix) (row column other k next : ℕ) → IsMatrix m → IsTernaryRow k (reduced (entry m) row column other)
    → ((j : ℕ) → k ≤ j → j < next → support m row j ≡ false) → IsTernaryRow next (reduced (entry m) row column other)
small_over m row column other k next is small zeros = λ j h. elim (cases_lt j k) [
  | inl earlier ↦ small j earlier
  | inr later ↦ subst IsEntry (sym (reduced_beside (entry m) row column other j (zero_is (entry m row j) (zeros j later h)))) (is.small other j)
]

-- columns with 0 in the pivot's row are already reduced
pub reduced_over : (before now : Matrix) (row column other k next : ℕ) → IsOutside row (other ∷ []) → k ≤ next → IsReduced before now row column other k
    → ((j : ℕ) → k ≤ j → j < next → support now row j ≡ false) → IsReduced before now row column other next
reduced_over before now row column other k next apart low r zeros = record {
  shape = r.shape;
  others = r.others;
  done = λ j h. elim (cases_lt j k) [
    | inl earlier ↦ r.done j earlier
    | inr later ↦ r.ahead j later ∙ sym (reduced_beside (entry before) row column other j (sym (r.others.others row j apart) ∙ zero_is (entry now row j) (zeros j later h)))
  ];
  ahead = λ j h. r.ahead j (omega arith);
}

module _ (before now : Matrix) (row column other k : ℕ) (other_in : other < height before) (r : IsReduced before now row column other k) where
  inside : other < height now
  inside = let e = r.others.same_height in omega arith

  pub reduced_more : (value : ℤ) → k < before.width → IsEntry value → value ≡ reduced (entry before) row column other k → IsReduced before (with_entry now other k value) row column other (k + 1)
  reduced_more value k_in small e = record {
    shape = is_matrix-with_entry now other k value inside small r.shape;
    others = keeps_with_entry before now other k value r.others;
    done = λ j h. elim (cases_eq j k) [
      | inl same ↦ subst (λ x. entry (with_entry now other k value) other x ≡ reduced (entry before) row column other x) (sym same)
          (entry-with_entry_same now other k value inside r.shape (let w = r.others.same_width in omega arith) ∙ e)
      | inr apart ↦ entry-with_entry_other_column now other k value inside j apart ∙ r.done j (omega arith)
    ];
    ahead = λ j h. entry-with_entry_other_column now other k value inside j (omega arith) ∙ r.ahead j (omega arith);
  }

  pub reduced_all : (value : ℤ) → column < before.width → before.width ≤ k → value ≡ neg_ℤ (entry before row column *ℤ entry before other column)
      → PivotsRows before (with_entry now other column value) row column (other ∷ [])
  reduced_all value column_in all e = (
    λ j h. elim (cases_eq j column) [
      | inl same ↦ subst (λ x. entry (with_entry now other column value) other x ≡ pivoted (entry before) row column other x) (sym same)
          (entry-with_entry_same now other column value inside r.shape (let w = r.others.same_width in omega arith) ∙ e ∙ sym (pivoted_at (entry before) row column other))
      | inr apart ↦ entry-with_entry_other_column now other column value inside j apart ∙ r.done j (omega arith) ∙ sym (pivoted_apart (entry before) row column other j apart)
    ],
    tt,
  )

-- ---- row by row

pub pivoted_same : (M N : ℕ → ℕ → ℤ) (row column i j : ℕ) → M row column ≡ N row column → M i column ≡ N i column → M row j ≡ N row j → M i j ≡ N i j
    → pivoted M row column i j ≡ pivoted N row column i j
pivoted_same M N row column i j a p q x = cc

pub reduced_same : (M N : ℕ → ℕ → ℤ) (row column i j : ℕ) → M row column ≡ N row column → M i column ≡ N i column → M row j ≡ N row j → M i j ≡ N i j
    → reduced M row column i j ≡ reduced N row column i j
reduced_same M N row column i j a p q x = cc

module _ (before now after : Matrix) (row column other : ℕ) (rows : List ℕ) (row_out : IsOutside row rows) (other_out : IsOutside other rows) (apart : IsOutside row (other ∷ [])) where
  pub keeps_more : KeepsRowsElsewhere before now rows → KeepsRowsElsewhere now after (other ∷ []) → KeepsRowsElsewhere before after (rows ++ other ∷ [])
  keeps_more keeps step = record {
    same_height = step.same_height ∙ keeps.same_height;
    same_width = step.same_width ∙ keeps.same_width;
    others = λ i j out. step.others i j (all_back (λ x. x ≢ i) rows (other ∷ []) out) ∙ keeps.others i j (all_prefix (λ x. x ≢ i) rows (other ∷ []) out);
  }

  pub pivots_more : column < before.width → PivotsRows before now row column rows → KeepsRowsElsewhere before now rows
      → PivotsRows now after row column (other ∷ []) → KeepsRowsElsewhere now after (other ∷ []) → PivotsRows before after row column (rows ++ other ∷ [])
  pivots_more column_in pivots keeps step kept = all-append (λ i. (j : ℕ) → j < before.width → entry after i j ≡ pivoted (entry before) row column i j) rows (other ∷ [])
      (all_both (λ i. i ≢ other) (λ i. (j : ℕ) → j < before.width → entry now i j ≡ pivoted (entry before) row column i j) (λ i. (j : ℕ) → j < before.width → entry after i j ≡ pivoted (entry before) row column i j)
      (λ i ne is j h. kept.others i j ((λ e. ne (sym e)), tt) ∙ is j h) rows other_out pivots) (
        λ j h. step.0 j (let w = keeps.same_width in omega arith)
            ∙ pivoted_same (entry now) (entry before) row column other j (keeps.others row column row_out) (keeps.others other column other_out) (keeps.others row j row_out) (keeps.others other j other_out),
        tt,
      )
