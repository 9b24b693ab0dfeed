-- Unimodular minors exclude a violator, and a matrix without violators has unimodular minors.
use Rattle.std.proofs.Common.{◌≡◌, ◌≢◌, ◌<◌, ◌⊎◌, inl, inr, ◌+◌, ◌∙◌, ℕ, suc, ℤ, pos, negsuc, neg_ℤ, ◌+ℤ◌, ◌*ℤ◌, ◌-ℤ◌, List, [], ◌∷◌, length, refl, ap, sym, subst, arith}
use Rattle.std.specs.List.{AllByRecursion}
use Rattle.cmr_base.specs.Matrix.{IsEntry}
use Rattle.cmr_base.specs.Signing.{IsSign}
use Rattle.cmr_base.specs.Sums.{sum_over, IsEven, IsTwoModFour}
use Rattle.cmr_base.specs.Violator.{IsViolator}
use Rattle.cmr_base.proofs.Integers.{sums, products, mul_assoc, one-mul}
use Rattle.cmr_base.proofs.Parity.{two_mod_four_not_four, two_mod_four_by_difference}
use Rattle.cmr_base.proofs.SumLaws.{sum_over-add, sum_over-sub, sum_over-scale, sum_over-scale_right, sum_over-zero, sum_over_same}
use Rattle.cmr_base.proofs.Lists.{HasOneMore, all_weaker, all_both, all_without, item_of_one_more, sum_over-one_more}
use Rattle.cmr_base.proofs.IncreasingLists.{IncreasesIn, increasing_apart}
use Rattle.cmr_base.specs.PlacedPivots.{reduced, pivoted}
use Rattle.ghouila.specs.Pivot.{IsTernaryRow}
use Rattle.ghouila.proofs.PivotSums.{pivoted_apart}
use Rattle.ghouila.proofs.SignedSums.{entry_zero, sign_is_entry}
use Rattle.ghouila.proofs.Camion.{HasViolatorIn, rows_after, violator_back}
use Rattle.ghouila.proofs.Expansions.{expansion_zero_column, minor, minor_same, schur}
use Rattle.ghouila.proofs.Sublists.{IsSublist, sublist_none, sublist_each, sublist_with, length-one_more, HasSignIn, zeros_or_sign}
use Rattle.cmr_base.proofs.SignEntries.{sign_square}
use Rattle.cmr_base.proofs.SmallEntries.{negative_is_entry}

-- ---- signs

pub entry_by_sign : (s z : ℤ) → IsSign s → IsEntry z → IsEntry (s *ℤ z)
entry_by_sign s z (inl e) h = subst IsEntry (plain s z e) h
  where
    plain : (s z : ℤ) → s ≡ pos 1 → z ≡ s *ℤ z
    plain s z e = rw e (simp products)
entry_by_sign s z (inr e) h = subst IsEntry (plain s z e) (negative_is_entry z h)
  where
    plain : (s z : ℤ) → s ≡ negsuc 0 → neg_ℤ z ≡ s *ℤ z
    plain s z e = rw e (simp products)

-- twice the same sign
pub sign_twice : (s z : ℤ) → IsSign s → s *ℤ (s *ℤ z) ≡ z
sign_twice s z u = sym (mul_assoc s s z) ∙ ap (λ (n : ℤ). n *ℤ z) (sign_square s u) ∙ one-mul z

pub entry_without_sign : (s z : ℤ) → IsSign s → IsEntry (s *ℤ z) → IsEntry z
entry_without_sign s z u h = subst IsEntry (sign_twice s z u) (entry_by_sign s (s *ℤ z) u h)

-- ---- minors on some rows and columns

-- the square submatrices on some of these rows and columns have the determinant -1, 0 or 1
abbrev pub HasMinorsOn : (ℕ → ℕ → ℤ) → List ℕ → List ℕ → Type 0
HasMinorsOn M R C = (P Q : List ℕ) → IsSublist P R → IsSublist Q C → length P ≡ length Q → IsEntry (minor M Q P)

pub one_minor : (M : ℕ → ℕ → ℤ) (i j : ℕ) → minor M (j ∷ []) (i ∷ []) ≡ M i j
one_minor M i j = plain (M i j)
  where
    plain : (z : ℤ) → z *ℤ pos 1 -ℤ pos 0 ≡ z
    plain z = simp products (omega (arith, sums))

-- the entries of the first column
pub first_column_entries : (M : ℕ → ℕ → ℤ) (R : List ℕ) (c : ℕ) (C : List ℕ) → HasMinorsOn M R (c ∷ C) → AllByRecursion (λ i. IsEntry (M i c)) R
first_column_entries M R c C minors = all_weaker (λ i. IsSublist (i ∷ []) R) (λ i. IsEntry (M i c))
    (λ i h. subst IsEntry (one_minor M i c) (minors (i ∷ []) (c ∷ []) h (inr ([], refl, sublist_none C)) refl)) R (sublist_each R)

pub fewer_minors : (M : ℕ → ℕ → ℤ) (R : List ℕ) (c : ℕ) (C : List ℕ) → HasMinorsOn M R (c ∷ C) → HasMinorsOn M R C
fewer_minors M R c C minors P Q h k e = minors P Q h (inl k) e

-- a determinant is -1, 0 or 1 if and only if the determinant of its Schur complement is
pub entry_before : (M : ℕ → ℕ → ℤ) (r c : ℕ) (C R' R : List ℕ) → IsSign (M r c) → HasOneMore r R' R → IsEntry (minor (reduced M r c) C R') → IsEntry (minor M (c ∷ C) R)
entry_before M r c C R' R u more h =
    let s = schur M r c C R' R u more in
    subst IsEntry (sym s.equal) (entry_by_sign s.sign (M r c *ℤ minor (reduced M r c) C R') s.is_sign (entry_by_sign (M r c) (minor (reduced M r c) C R') u h))

pub entry_after : (M : ℕ → ℕ → ℤ) (r c : ℕ) (C R' R : List ℕ) → IsSign (M r c) → HasOneMore r R' R → IsEntry (minor M (c ∷ C) R) → IsEntry (minor (reduced M r c) C R')
entry_after M r c C R' R u more h =
    let s = schur M r c C R' R u more in
    entry_without_sign (M r c) (minor (reduced M r c) C R') u (entry_without_sign s.sign (M r c *ℤ minor (reduced M r c) C R') s.is_sign (subst IsEntry s.equal h))

pub pivoted_minors : (M : ℕ → ℕ → ℤ) (r c : ℕ) (R' R C : List ℕ) → IsSign (M r c) → HasOneMore r R' R → HasMinorsOn M R (c ∷ C) → HasMinorsOn (reduced M r c) R' C
pivoted_minors M r c R' R C u more minors P Q h k e =
    let w = sublist_with r R' R P more h in
    entry_after M r c Q P w.list u w.more (minors w.list (c ∷ Q) w.sublist (inr (Q, refl, k)) (length-one_more r P w.list w.more ∙ ap suc e))

-- ---- a violator before a pivot gives one after it

-- a row or column that is even before the pivot is even after it, as the pivot's own line is even
line_after : (a p h x : ℤ) → IsSign a → IsEven (a +ℤ h) → IsEven (p +ℤ x) → IsEven (x -ℤ a *ℤ (p *ℤ h))
line_after a p h x u (l, f) (k, e) = (k -ℤ a *ℤ (p *ℤ l), plain a p h x k l (sign_square a u) f e)
  where
    plain : (a p h x k l : ℤ) → a *ℤ a ≡ pos 1 → a +ℤ h ≡ l +ℤ l → p +ℤ x ≡ k +ℤ k → x -ℤ a *ℤ (p *ℤ h) ≡ (k -ℤ a *ℤ (p *ℤ l)) +ℤ (k -ℤ a *ℤ (p *ℤ l))
    plain a p h x k l one f e =
        let s : (z : ℤ) → a *ℤ (a *ℤ z) ≡ z = λ z. sym (mul_assoc a a z) ∙ ap (λ (n : ℤ). n *ℤ z) one ∙ one-mul z in
        let h_is : h ≡ (l +ℤ l) -ℤ a = omega (arith, sums) in
        let x_is : x ≡ (k +ℤ k) -ℤ p = omega (arith, sums) in
        rw (h_is, x_is) (simp (products, s) (omega (arith, sums)))

total_after : (a g h x : ℤ) → IsSign a → IsEven (a +ℤ g) → IsEven (a +ℤ h) → IsTwoModFour ((a +ℤ h) +ℤ (g +ℤ x)) → IsTwoModFour (x -ℤ a *ℤ (g *ℤ h))
total_after a g h x u (k, e) (l, f) two = two_mod_four_by_difference ((a +ℤ h) +ℤ (g +ℤ x)) (x -ℤ a *ℤ (g *ℤ h)) (a *ℤ (k *ℤ l), plain a g h x k l (sign_square a u) e f) two
  where
    plain : (a g h x k l : ℤ) → a *ℤ a ≡ pos 1 → a +ℤ g ≡ k +ℤ k → a +ℤ h ≡ l +ℤ l
        → ((a +ℤ h) +ℤ (g +ℤ x)) -ℤ (x -ℤ a *ℤ (g *ℤ h)) ≡ (a *ℤ (k *ℤ l) +ℤ a *ℤ (k *ℤ l)) +ℤ (a *ℤ (k *ℤ l) +ℤ a *ℤ (k *ℤ l))
    plain a g h x k l one e f =
        let s : (z : ℤ) → a *ℤ (a *ℤ z) ≡ z = λ z. sym (mul_assoc a a z) ∙ ap (λ (n : ℤ). n *ℤ z) one ∙ one-mul z in
        let g_is : g ≡ (k +ℤ k) -ℤ a = omega (arith, sums) in
        let h_is : h ≡ (l +ℤ l) -ℤ a = omega (arith, sums) in
        rw (g_is, h_is) (simp (products, s, one) (omega (arith, sums)))

module _ (M : ℕ → ℕ → ℤ) (r c : ℕ) (u : IsSign (M r c)) (R' R C : List ℕ) (more : HasOneMore r R' R) where
  row_reduced : (i : ℕ) → sum_over C (reduced M r c i) ≡ sum_over C (M i) -ℤ M r c *ℤ (M i c *ℤ sum_over C (M r))
  row_reduced i = sum_over-sub C (M i) (λ j. M r c *ℤ (M i c *ℤ M r j))
      ∙ ap (λ (z : ℤ). sum_over C (M i) -ℤ z) (sum_over-scale C (M r c) (λ j. M i c *ℤ M r j) ∙ ap (λ (z : ℤ). M r c *ℤ z) (sum_over-scale C (M i c) (M r)))

  column_reduced : (j : ℕ) → sum_over R' (λ i. reduced M r c i j) ≡ sum_over R' (λ i. M i j) -ℤ M r c *ℤ (M r j *ℤ sum_over R' (λ i. M i c))
  column_reduced j = sum_over-sub R' (λ i. M i j) (λ i. M r c *ℤ (M i c *ℤ M r j))
      ∙ ap (λ (z : ℤ). sum_over R' (λ i. M i j) -ℤ z) (sum_over-scale R' (M r c) (λ i. M i c *ℤ M r j)
      ∙ ap (λ (z : ℤ). M r c *ℤ z) (sum_over-scale_right R' (M r j) (λ i. M i c) ∙ turned (sum_over R' (λ i. M i c)) (M r j)))
    where
      turned : (g q : ℤ) → g *ℤ q ≡ q *ℤ g
      turned g q = simp products

  total_reduced : (R : List ℕ) → sum_over R (λ i. sum_over C (reduced M r c i)) ≡ sum_over R (λ i. sum_over C (M i)) -ℤ M r c *ℤ (sum_over R (λ i. M i c) *ℤ sum_over C (M r))
  total_reduced [] = simp products
  total_reduced (i ∷ R) = rw (row_reduced i, total_reduced R) (add (sum_over C (M i)) (sum_over R (λ i'. sum_over C (M i'))) (M r c) (M i c) (sum_over R (λ i'. M i' c)) (sum_over C (M r)))
    where
      add : (x y a p g h : ℤ) → (x -ℤ a *ℤ (p *ℤ h)) +ℤ (y -ℤ a *ℤ (g *ℤ h)) ≡ (x +ℤ y) -ℤ a *ℤ ((p +ℤ g) *ℤ h)
      add x y a p g h = simp products (omega (arith, sums))

  pub violator_reduced : IsViolator M R (c ∷ C) → IsViolator (reduced M r c) R' C
  violator_reduced v =
      let even_row : IsEven (M r c +ℤ sum_over C (M r)) = item_of_one_more (λ i. IsEven (M i c +ℤ sum_over C (M i))) r R' R more v.even_rows in
      let even_column : IsEven (M r c +ℤ sum_over R' (λ i. M i c)) = subst IsEven (sum_over-one_more r R' R (λ i. M i c) more) v.even_columns.0 in
      record {
        even_rows = all_weaker (λ i. IsEven (M i c +ℤ sum_over C (M i))) (λ i. IsEven (sum_over C (reduced M r c i)))
            (λ i e. subst IsEven (sym (row_reduced i)) (line_after (M r c) (M i c) (sum_over C (M r)) (sum_over C (M i)) u even_row e)) R'
            (all_without (λ i. IsEven (M i c +ℤ sum_over C (M i))) r R' R more v.even_rows);
        even_columns = all_weaker (λ j. IsEven (sum_over R (λ i. M i j))) (λ j. IsEven (sum_over R' (λ i. reduced M r c i j)))
            (λ j e. subst IsEven (sym (column_reduced j)) (line_after (M r c) (M r j) (sum_over R' (λ i. M i c)) (sum_over R' (λ i. M i j)) u even_column
            (subst IsEven (sum_over-one_more r R' R (λ i. M i j) more) e))) C v.even_columns.1;
        two_mod_four = subst IsTwoModFour (sym (total_reduced R')) (total_after (M r c) (sum_over R' (λ i. M i c)) (sum_over C (M r)) (sum_over R' (λ i. sum_over C (M i))) u even_column even_row
            (subst IsTwoModFour (sum_over-one_more r R' R (λ i. M i c +ℤ sum_over C (M i)) more ∙ ap (λ z. (M r c +ℤ sum_over C (M r)) +ℤ z) (sum_over-add R' (λ i. M i c) (λ i. sum_over C (M i)))) v.two_mod_four));
      }

-- the violator without a column of zeros
violator_without_zeros : (M : ℕ → ℕ → ℤ) (R : List ℕ) (c : ℕ) (C : List ℕ) → AllByRecursion (λ i. M i c ≡ pos 0) R → IsViolator M R (c ∷ C) → IsViolator M R C
violator_without_zeros M R c C zeros v = record {
  even_rows = all_both (λ i. M i c ≡ pos 0) (λ i. IsEven (M i c +ℤ sum_over C (M i))) (λ i. IsEven (sum_over C (M i))) (λ i z e. subst IsEven (less (M i c) (sum_over C (M i)) z) e) R zeros v.even_rows;
  even_columns = v.even_columns.1;
  two_mod_four = subst IsTwoModFour
      (sum_over_same R (λ i. M i c +ℤ sum_over C (M i)) (λ i. sum_over C (M i))
      (all_weaker (λ i. M i c ≡ pos 0) (λ i. M i c +ℤ sum_over C (M i) ≡ sum_over C (M i)) (λ i z. less (M i c) (sum_over C (M i)) z) R zeros))
      v.two_mod_four;
}
  where
    less : (p x : ℤ) → p ≡ pos 0 → p +ℤ x ≡ x
    less p x e = omega (arith, sums)

-- ---- unimodular minors exclude a violator: pivots in its columns remove all its lines

pub no_violator_by_minors : (C R : List ℕ) (M : ℕ → ℕ → ℤ) → HasMinorsOn M R C → IsViolator M R C → ⊥
no_violator_by_minors [] R M minors v = two_mod_four_not_four (sum_over R (λ i. pos 0)) v.two_mod_four (pos 0, sum_over-zero R)
no_violator_by_minors (c ∷ C) R M minors v = elim (zeros_or_sign (λ i. M i c) R (first_column_entries M R c C minors)) [
  | inl zeros ↦ no_violator_by_minors C R M (fewer_minors M R c C minors) (violator_without_zeros M R c C zeros v)
  | inr s ↦ no_violator_by_minors C s.others (reduced M s.row c) (pivoted_minors M s.row c s.others R C s.sign s.more minors)
      (violator_reduced M s.row c s.sign s.others R C s.more v)
]

-- ---- without violators, minors are unimodular

pub minor_or_violator : (height width : ℕ) (C R : List ℕ) (low : ℕ) (M : ℕ → ℕ → ℤ) → IncreasesIn low width C → AllByRecursion (λ i. i < height) R → AllByRecursion (λ i. IsTernaryRow width (M i)) R
    → IsEntry (minor M C R) ⊎ HasViolatorIn height width M
minor_or_violator height width [] [] low M increases inside ternary = inl (sign_is_entry (pos 1) (inl refl))
minor_or_violator height width [] (i ∷ R) low M increases inside ternary = inl entry_zero
minor_or_violator height width (c ∷ C) R low M increases inside ternary =
    elim (zeros_or_sign (λ i. M i c) R (all_weaker (λ i. IsTernaryRow width (M i)) (λ i. IsEntry (M i c)) (λ i h. h c increases.1) R ternary)) [
      | inl zeros ↦ inl (subst IsEntry (sym (expansion_zero_column (λ i. M i c) (minor M C) R zeros)) entry_zero)
      | inr s ↦ pivot s (rows_after height width M s.row c s.sign (row_in s) increases.1 (top s) s.others (all_without (λ i. i < height) s.row s.others R s.more inside)
          (all_without (λ i. IsTernaryRow width (M i)) s.row s.others R s.more ternary))
          (λ rows. minor_or_violator height width C s.others (c + 1) (pivoted M s.row c) increases.2 (all_without (λ i. i < height) s.row s.others R s.more inside) rows)
    ]
  where
    row_in : (s : HasSignIn (λ i. M i c) R) → s.row < height
    row_in s = item_of_one_more (λ i. i < height) s.row s.others R s.more inside

    top : (s : HasSignIn (λ i. M i c) R) → IsTernaryRow width (M s.row)
    top s = item_of_one_more (λ i. IsTernaryRow width (M i)) s.row s.others R s.more ternary

    kept : (s : HasSignIn (λ i. M i c) R) → minor (pivoted M s.row c) C s.others ≡ minor (reduced M s.row c) C s.others
    kept s = minor_same (pivoted M s.row c) (reduced M s.row c) C
        (all_weaker (λ j. j ≢ c) (λ j. (i : ℕ) → pivoted M s.row c i j ≡ reduced M s.row c i j) (λ j other i. pivoted_apart M s.row c i j other) C (increasing_apart (c + 1) width c C (omega arith) increases.2)) s.others

    back : (s : HasSignIn (λ i. M i c) R) → IsEntry (minor (pivoted M s.row c) C s.others) → IsEntry (minor M (c ∷ C) R)
    back s h = entry_before M s.row c C s.others R s.sign s.more (subst IsEntry (kept s) h)

    pivot : (s : HasSignIn (λ i. M i c) R) → AllByRecursion (λ i. IsTernaryRow width (pivoted M s.row c i)) s.others ⊎ HasViolatorIn height width M
        → (AllByRecursion (λ i. IsTernaryRow width (pivoted M s.row c i)) s.others → IsEntry (minor (pivoted M s.row c) C s.others) ⊎ HasViolatorIn height width (pivoted M s.row c))
        → IsEntry (minor M (c ∷ C) R) ⊎ HasViolatorIn height width M
    pivot s (inr v) next = inr v
    pivot s (inl rows) next = elim (next rows) [
      | inl h ↦ inl (back s h)
      | inr v ↦ inr (violator_back height width M s.row c s.sign (row_in s) increases.1 (top s) v)
    ]
