-- A submatrix has a violator if and only if it has one after a reducible line is removed.
use Rattle.std.proofs.Common.{◌≡◌, ◌≢◌, ◌⊎◌, inl, inr, ◌∙◌, ℕ, ℤ, pos, negsuc, neg_ℤ, ◌*ℤ◌, Bool, false, List, IsSome, ap, sym, arith}
use Rattle.std.specs.List.{Contains}
use Rattle.cmr_base.specs.declared.line.Line.{Line}
use Rattle.cmr_base.specs.declared.line.Line.TheVariants.{Row, Column}
use Rattle.cmr_base.specs.Matrix.{Matrix, entry, is_nonzero, HasTernaryEntries}
use Rattle.cmr_base.specs.LineSets.{submatrix, without}
use Rattle.cmr_base.specs.Signing.{IsSign}
use Rattle.cmr_base.specs.Reductions.{line_reason, rows_without, columns_without}
use Rattle.cmr_base.specs.Violator.{HasNoViolator}
use Rattle.cmr_base.proofs.Integers.{sums, products, one-mul}
use Rattle.cmr_base.proofs.RowLists.{two_cases, search_in}
use Rattle.cmr_base.proofs.ListsWithout.{in_from_contains, contains_from_in, in_without, without_in}
use Rattle.cmr_base.proofs.ThinLines.{nonzero_is, zero_is}
use Rattle.cmr_base.proofs.ReducibleLines.{IsReducible, reducible_from_reason}
use Rattle.ghouila.proofs.ViolatedLines.{narrower, free_from_submatrix, submatrix_from_free}
use Rattle.cmr_base.proofs.SignEntries.{sign_of_entry}
use Rattle.ghouila.proofs.ReducibleRows.{IsReducibleRow, crossed, But}
use Rattle.ghouila.proofs.ReducedLines.{reduce_row, reduce_column}

minus_back : (y z : ℤ) → y ≡ negsuc 0 *ℤ z → z ≡ neg_ℤ y
minus_back y z e = back y z (e ∙ minus z)
  where
    minus : (z : ℤ) → negsuc 0 *ℤ z ≡ neg_ℤ z
    minus z = simp products

    back : (y z : ℤ) → y ≡ neg_ℤ z → z ≡ neg_ℤ y
    back y z e = omega (arith, sums, e)

reducible_row : (binary : Bool) (M : ℕ → ℕ → ℤ) (R C : List ℕ) (i : ℕ) → ((c : ℕ) → M i c ≢ pos 0 → IsSign (M i c)) → IsReducible binary M R C i → IsReducibleRow M (Contains R) (Contains C) i
reducible_row binary M R C i sign (inl thin) = elim (search_in (λ c. M i c ≢ pos 0) (λ c. M i c ≡ pos 0) C (λ c _. elim (two_cases (is_nonzero (M i c))) [
  | inl e ↦ inl (nonzero_is (M i c) e)
  | inr e ↦ inr (zero_is (M i c) e)
])) [
  | inl found ↦ inr (inl (
    found.0,
    contains_from_in C found.0 found.1,
    sign found.0 found.2,
    λ x h other. elim (two_cases (is_nonzero (M i x))) [
      | inl e ↦ absurd (other (thin x found.0 (in_from_contains C x h) found.1 (nonzero_is (M i x) e) found.2))
      | inr e ↦ zero_is (M i x) e
    ],
  ))
  | inr none ↦ inl (λ c h. none c (in_from_contains C c h))
]
reducible_row binary M R C i sign (inr twin) = go twin.is_factor
  where
    go : (twin.factor ≡ pos 1) ⊎ ((binary ≡ false) × (twin.factor ≡ negsuc 0)) → IsReducibleRow M (Contains R) (Contains C) i
    go (inl e) = inr (inr (inl (twin.line, contains_from_in R twin.line twin.stays, twin.other, λ c h. sym (twin.same c (in_from_contains C c h) ∙ ap (λ (u : ℤ). u *ℤ M i c) e ∙ one-mul (M i c)))))
    go (inr e) = inr (inr (inr (twin.line, contains_from_in R twin.line twin.stays, twin.other, λ c h. minus_back (M twin.line c) (M i c) (twin.same c (in_from_contains C c h) ∙ ap (λ (u : ℤ). u *ℤ M i c) e.1))))

but_to : (xs : List ℕ) (i x : ℕ) → Contains (without xs i) x → But (Contains xs) i x
but_to xs i x h = let g = without_in i x xs (in_from_contains (without xs i) x h) in (contains_from_in xs x g.0, g.1)

but_from : (xs : List ℕ) (i x : ℕ) → But (Contains xs) i x → Contains (without xs i) x
but_from xs i x h = contains_from_in (without xs i) x (in_without i x xs (in_from_contains xs x h.0) h.1)

pub reductions_keep_violators : (m : Matrix) (rows columns : List ℕ) (line : Line) (binary : Bool) → HasTernaryEntries m → IsSome (line_reason binary (entry m) rows columns line)
    → (HasNoViolator (submatrix m rows columns) → HasNoViolator (submatrix m (rows_without rows line) (columns_without columns line)))
    × (HasNoViolator (submatrix m (rows_without rows line) (columns_without columns line)) → HasNoViolator (submatrix m rows columns))
reductions_keep_violators m rows columns (Row i) binary ternary some =
    let law = reduce_row (entry m) (Contains rows) (Contains columns) i
    (reducible_row binary (entry m) rows columns i (λ c h. sign_of_entry (entry m i c) (ternary i c) h) (reducible_from_reason binary (entry m) Row Column rows columns i some)) in (
      λ none. submatrix_from_free m (without rows i) columns (narrower (entry m) (But (Contains rows) i) (Contains columns) (Contains (without rows i)) (Contains columns) (but_to rows i) (λ c h. h) (law.0 (free_from_submatrix m rows columns none))),
      λ none. submatrix_from_free m rows columns (law.1 (narrower (entry m) (Contains (without rows i)) (Contains columns) (But (Contains rows) i) (Contains columns) (but_from rows i) (λ c h. h) (free_from_submatrix m (without rows i) columns none))),
    )
reductions_keep_violators m rows columns (Column j) binary ternary some =
    let law = reduce_column (entry m) (Contains rows) (Contains columns) j
    (reducible_row binary (crossed (entry m)) columns rows j (λ r h. sign_of_entry (entry m r j) (ternary r j) h) (reducible_from_reason binary (crossed (entry m)) Column Row columns rows j some)) in (
      λ none. submatrix_from_free m rows (without columns j) (narrower (entry m) (Contains rows) (But (Contains columns) j) (Contains rows) (Contains (without columns j)) (λ r h. h) (but_to columns j) (law.0 (free_from_submatrix m rows columns none))),
      λ none. submatrix_from_free m rows columns (law.1 (narrower (entry m) (Contains rows) (Contains (without columns j)) (Contains rows) (But (Contains columns) j) (λ r h. h) (but_from columns j) (free_from_submatrix m rows (without columns j) none))),
    )
