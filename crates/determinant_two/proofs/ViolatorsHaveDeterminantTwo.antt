-- A violator contains a square submatrix with determinant 2 or -2: the smallest one.
use Rattle.std.proofs.Common.{◌≡◌, ◌<◌, ◌≤◌, ◌⊎◌, inl, inr, ℕ, zero, suc, ℤ, pos, List, [], ◌∷◌, length, refl, sym, subst, arith}
use Rattle.std.proofs.lemmas.Bool.{cases_lt}
use Rattle.cmr_base.specs.Matrix.{Matrix, height, entry, IsEntry}
use Rattle.cmr_base.specs.LineSets.{IsRowSet, IsColumnSet}
use Rattle.cmr_base.specs.Violator.{IsViolator}
use Rattle.cmr_base.proofs.IncreasingLists.{row_set_increases, column_set_increases, increasing_row_set, increasing_column_set}
use Rattle.cmr_base.proofs.SignEntries.{sign_is_entry}
use Rattle.ghouila.proofs.Expansions.{determinant_is, minor}
use Rattle.ghouila.proofs.Fractions.{HasSmallerMinorsOn}
use Rattle.ghouila.proofs.Minors.{one_minor, no_violator_by_minors}
use Rattle.ghouila.proofs.Sublists.{IsSublist, sublist_increases}
use Rattle.determinant_two.specs.DeterminantTwo.{IsTwo}
use Rattle.determinant_two.specs.Laws.{ViolatorsHaveDeterminantTwo}
use Rattle.determinant_two.proofs.SearchedSublists.{sublist_of_sublist, sublist_members, sublist_short, every_or_one}
use Rattle.determinant_two.proofs.SmallestMinors.{two_or_not, entry_or_two}

-- a square submatrix with determinant 2 or -2; the determinants of the smaller ones are -1, 0 and 1
pub record HasSmallestTwo (M : ℕ → ℕ → ℤ) (R C : List ℕ) : Type 0 where
  pub rows : List ℕ
  pub columns : List ℕ
  pub rows_in : IsSublist rows R
  pub columns_in : IsSublist columns C
  pub square : length rows ≡ length columns
  pub two : IsTwo (minor M columns rows)
  pub smaller : HasSmallerMinorsOn M rows columns

module _ (M : ℕ → ℕ → ℤ) (small : (i j : ℕ) → IsEntry (M i j)) where
  -- a square submatrix with determinant 2 or -2 and less than this number of columns
  abbrev IsTwoBelow : ℕ → List ℕ → List ℕ → Type 0
  IsTwoBelow bound P Q = (length P ≡ length Q) × (length Q < bound) × IsTwo (minor M Q P)

  abbrev HasNoTwoBelow : ℕ → List ℕ → List ℕ → Type 0
  HasNoTwoBelow bound R C = (P : List ℕ) → IsSublist P R → (Q : List ℕ) → IsSublist Q C → ¬ IsTwoBelow bound P Q

  is_or_not : (bound : ℕ) (P Q : List ℕ) → (¬ IsTwoBelow bound P Q) ⊎ IsTwoBelow bound P Q
  is_or_not bound P Q = go (cases_lt (length P) (length Q)) (cases_lt (length Q) (length P)) (cases_lt (length Q) bound) (two_or_not (minor M Q P))
    where
      go : (length P < length Q) ⊎ (length Q ≤ length P) → (length Q < length P) ⊎ (length P ≤ length Q) → (length Q < bound) ⊎ (bound ≤ length Q)
          → IsTwo (minor M Q P) ⊎ (¬ IsTwo (minor M Q P)) → (¬ IsTwoBelow bound P Q) ⊎ IsTwoBelow bound P Q
      go (inl few) many below two = inl (λ is. let square = is.0 in omega (arith, square))
      go (inr few) (inl many) below two = inl (λ is. let square = is.0 in omega (arith, square))
      go (inr few) (inr many) (inr past) two = inl (λ is. let below = is.1 in omega (arith, below))
      go (inr few) (inr many) (inl below) (inr other) = inl (λ is. other is.2)
      go (inr few) (inr many) (inl below) (inl two) = inr (omega arith, below, two)

  two_or_none : (bound : ℕ) (R C : List ℕ) → HasNoTwoBelow bound R C ⊎ ((P : List ℕ) × IsSublist P R × (Q : List ℕ) × IsSublist Q C × IsTwoBelow bound P Q)
  two_or_none bound R C = elim (every_or_one R (λ P. (Q : List ℕ) → IsSublist Q C → ¬ IsTwoBelow bound P Q) (λ P. (Q : List ℕ) × IsSublist Q C × IsTwoBelow bound P Q)
      (λ P. every_or_one C (λ Q. ¬ IsTwoBelow bound P Q) (IsTwoBelow bound P) (is_or_not bound P))) [
        | inl none ↦ inl none
        | inr one ↦ inr (one.0, one.1, one.2.0, one.2.1, one.2.2)
      ]

  -- induction on a bound n of the number of columns
  entry_without_two : (bound n : ℕ) (R C : List ℕ) → HasNoTwoBelow bound R C → (Q P : List ℕ) → IsSublist P R → IsSublist Q C → length P ≡ length Q → length Q < bound
      → length Q < n → IsEntry (minor M Q P)
  entry_without_two bound zero R C none Q P h k e below l = absurd (omega arith)
  entry_without_two bound (suc n) R C none [] [] h k e below l = sign_is_entry (pos 1) (inl refl)
  entry_without_two bound (suc n) R C none [] (i ∷ P) h k e below l = absurd (omega arith)
  entry_without_two bound (suc n) R C none (c ∷ []) [] h k e below l = absurd (omega arith)
  entry_without_two bound (suc n) R C none (c ∷ []) (i ∷ []) h k e below l = subst IsEntry (sym (one_minor M i c)) (small i c)
  entry_without_two bound (suc n) R C none (c ∷ []) (i ∷ i' ∷ P) h k e below l = absurd (omega arith)
  entry_without_two bound (suc n) R C none (c ∷ d ∷ Q) P h k e below l = elim (entry_or_two c d Q P M e
      (λ P' Q' h' k' e' l'. entry_without_two bound n R C none Q' P' (sublist_of_sublist R P P' h h') (sublist_of_sublist C (c ∷ d ∷ Q) Q' k k') e' (omega arith) (omega arith))) [
        | inl is ↦ is
        | inr two ↦ absurd (none P h (c ∷ d ∷ Q) k (e, below, two))
      ]

  smallest_two : (n : ℕ) (R C P Q : List ℕ) → IsSublist P R → IsSublist Q C → IsTwoBelow n P Q → HasSmallestTwo M R C
  smallest_two zero R C P Q h k is = absurd (let below = is.1 in omega (arith, below))
  smallest_two (suc n) R C P Q h k is = elim (two_or_none (length Q) P Q) [
    | inl none ↦ record {
      rows = P;
      columns = Q;
      rows_in = h;
      columns_in = k;
      square = is.0;
      two = is.2;
      smaller = λ P' Q' h' k' e l. entry_without_two (length Q) (length Q) P Q none Q' P' h' k' e l l;
    }
    | inr one ↦ smallest_two n R C one.0 one.2 (sublist_of_sublist R P one.0 h one.1) (sublist_of_sublist C Q one.2 k one.3)
        (one.4.0, (let fewer = one.4.1 in let below = is.1 in omega (arith, fewer, below)), one.4.2)
  ]

  pub smallest_in_violator : (R C : List ℕ) → IsViolator M R C → HasSmallestTwo M R C
  smallest_in_violator R C v = elim (two_or_none (suc (length C)) R C) [
    | inl none ↦ absurd (no_violator_by_minors C R M (λ P Q h k e. entry_without_two (suc (length C)) (suc (length C)) R C none Q P h k e (short Q k) (short Q k)) v)
    | inr one ↦ smallest_two (suc (length C)) R C one.0 one.2 one.1 one.3 one.4
  ]
    where
      short : (Q : List ℕ) → IsSublist Q C → length Q < suc (length C)
      short Q k = let few = sublist_short C Q k in omega (arith, few)

pub part_row_set : (m : Matrix) (rows part : List ℕ) → IsRowSet m rows → IsSublist part rows → IsRowSet m part
part_row_set m rows part row_set h = increasing_row_set m part (sublist_increases 0 (height m) rows part (row_set_increases m rows row_set) h)

pub part_column_set : (m : Matrix) (columns part : List ℕ) → IsColumnSet m columns → IsSublist part columns → IsColumnSet m part
part_column_set m columns part column_set h = increasing_column_set m part (sublist_increases 0 m.width columns part (column_set_increases m columns column_set) h)

pub violators_have_determinant_two : ViolatorsHaveDeterminantTwo
violators_have_determinant_two m rows columns ternary row_set column_set v =
    let smallest = smallest_in_violator (entry m) ternary.small rows columns v in
    record {
      minor_rows = smallest.rows;
      minor_columns = smallest.columns;
      row_set = part_row_set m rows smallest.rows row_set smallest.rows_in;
      column_set = part_column_set m columns smallest.columns column_set smallest.columns_in;
      rows_among = sublist_members rows smallest.rows smallest.rows_in;
      columns_among = sublist_members columns smallest.columns smallest.columns_in;
      square = smallest.square;
      two = subst IsTwo (sym (determinant_is (entry m) smallest.columns smallest.rows smallest.square)) smallest.two;
    }
