-- A row that is multiplied by one of its entries, entry by entry.
use Rattle.std.proofs.Common.{◌≡◌, ◌≢◌, ◌<◌, ◌≤◌, ◌+◌, ◌∙◌, inl, inr, ℕ, ℤ, ◌*ℤ◌, [], ◌∷◌, refl, sym, subst, arith}
use Rattle.std.proofs.lemmas.Bool.{cases_eq, cases_lt}
use Rattle.cmr_base.specs.Matrix.{Matrix, height, entry, with_entry, IsEntry, IsMatrix}
use Rattle.cmr_base.proofs.Entries.{entry-with_entry_same, entry-with_entry_other_column, is_matrix-with_entry}
use Rattle.ghouila.specs.Pivot.{KeepsRowsElsewhere}
use Rattle.cmr_base.specs.PlacedPivots.{pivot_entry}
use Rattle.ghouila.proofs.PivotRow.{keeps_all, keeps_with_entry}
use Rattle.ghouila.proofs.WholePivots.{entry_there, entry_in_row}

-- the entries before column k are multiplied
pub record IsMultiplied (before now : Matrix) (row column k : ℕ) : Type 0 where
  pub shape : IsMatrix now
  pub others : KeepsRowsElsewhere before now (row ∷ [])
  pub done : (j : ℕ) → j < k → entry now row j ≡ pivot_entry (entry before) row column row j
  pub ahead : (j : ℕ) → k ≤ j → entry now row j ≡ entry before row j

pub multiplied_none : (m : Matrix) (row column : ℕ) → IsMatrix m → IsMultiplied m m row column 0
multiplied_none m row column is = record { shape = is; others = keeps_all m (row ∷ []); done = λ j h. absurd (omega arith); ahead = λ j h. refl }

pub multiplied_there : (before now : Matrix) (row column k : ℕ) → k ≡ column → IsMultiplied before now row column k → IsMultiplied before now row column (k + 1)
multiplied_there before now row column k e h = record {
  shape = h.shape;
  others = h.others;
  done = λ j l. elim (cases_lt j k) [
    | inl lt ↦ h.done j lt
    | inr ge ↦ let same : column ≡ j = omega arith in subst (λ x. entry now row x ≡ pivot_entry (entry before) row column row x) same (h.ahead column (omega arith) ∙ sym (entry_there (entry before) row column))
  ];
  ahead = λ j l. h.ahead j (omega arith);
}

pub multiplied_more : (before now : Matrix) (row column k : ℕ) (value : ℤ) → row < height before → k < before.width → k ≢ column → IsEntry value → value ≡ entry before row column *ℤ entry before row k
    → IsMultiplied before now row column k → IsMultiplied before (with_entry now row k value) row column (k + 1)
multiplied_more before now row column k value row_in k_in other small e h =
    let inside : row < height now = let same = h.others.same_height in omega arith in
    record {
      shape = is_matrix-with_entry now row k value inside small h.shape;
      others = keeps_with_entry before now row k value h.others;
      done = λ j l. elim (cases_eq j k) [
        | inl same ↦ subst (λ x. entry (with_entry now row k value) row x ≡ pivot_entry (entry before) row column row x) (sym same)
            (entry-with_entry_same now row k value inside h.shape (let w = h.others.same_width in omega arith) ∙ e ∙ sym (entry_in_row (entry before) row column k other))
        | inr apart ↦ entry-with_entry_other_column now row k value inside j apart ∙ h.done j (omega arith)
      ];
      ahead = λ j l. entry-with_entry_other_column now row k value inside j (omega arith) ∙ h.ahead j (omega arith);
    }
