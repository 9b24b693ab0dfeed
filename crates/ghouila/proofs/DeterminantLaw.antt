-- Ghouila-Houri's equivalence: signings of row sets, and determinants of square submatrices.
use Rattle.std.proofs.Common.{◌≡◌, ◌<◌, inl, inr, ◌∙◌, ℕ, ℤ, pos, ◌+ℤ◌, ◌*ℤ◌, List, [], ◌∷◌, refl, sym, subst, arith}
use Rattle.std.specs.List.{AllByRecursion}
use Rattle.cmr_base.specs.Matrix.{Matrix, height, entry, IsEntry}
use Rattle.cmr_base.specs.LineSets.{IsRowSet, IsColumnSet}
use Rattle.cmr_base.specs.Signing.{IsSigning, IsTotallyUnimodular, signed_sum}
use Rattle.cmr_base.specs.Violator.{HasNoViolator}
use Rattle.cmr_base.specs.Determinants.{HasUnimodularMinors}
use Rattle.cmr_base.proofs.Integers.{sums}
use Rattle.cmr_base.proofs.Lists.{all_weaker}
use Rattle.cmr_base.proofs.IncreasingLists.{increasing_below, row_set_increases, column_set_increases, increasing_row_set, increasing_column_set}
use Rattle.ghouila.specs.Pivot.{IsTernaryRow}
use Rattle.ghouila.specs.DeterminantLaws.{GhouilaHouriEquivalence}
use Rattle.ghouila.proofs.Camion.{signed_or_violated}
use Rattle.ghouila.proofs.CamionLaw.{signing_of_pairs, no_violator, unsigned}
use Rattle.ghouila.proofs.Expansions.{determinant_is}
use Rattle.ghouila.proofs.Sublists.{sublist_increases}
use Rattle.ghouila.proofs.Minors.{HasMinorsOn, one_minor, entry_without_sign, no_violator_by_minors, minor_or_violator}

pub minors_on : (m : Matrix) → HasUnimodularMinors m → (R C : List ℕ) → IsRowSet m R → IsColumnSet m C → HasMinorsOn (entry m) R C
minors_on m minors R C row_set column_set P Q h k e = subst IsEntry (determinant_is (entry m) Q P e) (minors P Q
    (increasing_row_set m P (sublist_increases 0 (height m) R P (row_set_increases m R row_set) h))
    (increasing_column_set m Q (sublist_increases 0 m.width C Q (column_set_increases m C column_set) k)) e)

one_row : (m : Matrix) (row : ℕ) → row < height m → IsRowSet m (row ∷ [])
one_row m row l = increasing_row_set m (row ∷ []) (omega arith, l, tt)

one_column : (m : Matrix) (column : ℕ) → column < m.width → IsColumnSet m (column ∷ [])
one_column m column l = increasing_column_set m (column ∷ []) (omega arith, l, tt)

-- entries are -1, 0 or 1 if single rows have a signing, and if submatrices of one entry have these determinants
signed_entry : (m : Matrix) (row : ℕ) → (signs : List ℤ) × IsSigning m (row ∷ []) signs → IsTernaryRow m.width (entry m row)
signed_entry m row ([], s) column l = absurd (let e = s.one_each in omega arith)
signed_entry m row (sign ∷ signs, s) column l = entry_without_sign sign (entry m row column) s.each.0 (subst IsEntry (alone sign signs) (s.sums column l))
  where
    plain : (z : ℤ) → z +ℤ pos 0 ≡ z
    plain z = omega (arith, sums)

    alone : (sign : ℤ) (signs : List ℤ) → signed_sum m (row ∷ []) (sign ∷ signs) column ≡ sign *ℤ entry m row column
    alone sign signs = plain (sign *ℤ entry m row column)

minor_entry : (m : Matrix) → HasUnimodularMinors m → (row : ℕ) → row < height m → IsTernaryRow m.width (entry m row)
minor_entry m minors row l column k = subst IsEntry (determinant_is (entry m) (column ∷ []) (row ∷ []) refl ∙ one_minor (entry m) row column) (minors (row ∷ []) (column ∷ []) (one_row m row l) (one_column m column k) refl)

minors_of_signings : (m : Matrix) → IsTotallyUnimodular m → HasUnimodularMinors m
minors_of_signings m signings rows columns row_set column_set e = subst IsEntry (sym (determinant_is (entry m) columns rows e))
    (elim (minor_or_violator (height m) m.width columns rows 0 (entry m) (column_set_increases m columns column_set) inside
    (all_weaker (λ row. row < height m) (λ row. IsTernaryRow m.width (entry m row)) (λ row l. signed_entry m row (signings (row ∷ []) (one_row m row l))) rows inside)) [
      | inl h ↦ h
      | inr v ↦ absurd (no_violator m free v)
    ])
  where
    inside : AllByRecursion (λ row. row < height m) rows
    inside = increasing_below 0 (height m) rows (row_set_increases m rows row_set)

    free : HasNoViolator m
    free rows columns row_set column_set v = let s = signings rows row_set in unsigned m rows columns column_set v s.0 s.1

signings_of_minors : (m : Matrix) → HasUnimodularMinors m → IsTotallyUnimodular m
signings_of_minors m minors rows row_set =
    elim (signed_or_violated (height m) m.width rows (entry m) inside (all_weaker (λ row. row < height m) (λ row. IsTernaryRow m.width (entry m row)) (minor_entry m minors) rows inside)) [
      | inl s ↦ signing_of_pairs m rows s
      | inr v ↦ absurd (no_violator m free v)
    ]
  where
    inside : AllByRecursion (λ row. row < height m) rows
    inside = increasing_below 0 (height m) rows (row_set_increases m rows row_set)

    free : HasNoViolator m
    free rows columns row_set column_set v = no_violator_by_minors columns rows (entry m) (minors_on m minors rows columns row_set column_set) v

pub ghouila_houri : GhouilaHouriEquivalence
ghouila_houri m = (minors_of_signings m, signings_of_minors m)
