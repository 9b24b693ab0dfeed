-- A smallest square submatrix whose determinant is not -1, 0 or 1 has determinant 2 or -2.
use Rattle.std.proofs.Common.{◌≡◌, ◌⊎◌, inl, inr, ◌∙◌, ℕ, zero, suc, ℤ, pos, negsuc, ◌*ℤ◌, ◌-ℤ◌, ◌≤ℤ◌, List, [], ◌∷◌, length, refl, ap, sym, subst, arith}
use Rattle.std.specs.List.{AllByRecursion}
use Rattle.cmr_base.specs.Matrix.{IsEntry}
use Rattle.cmr_base.specs.Signing.{IsSign}
use Rattle.cmr_base.specs.PlacedPivots.{reduced}
use Rattle.cmr_base.proofs.Integers.{sums, products}
use Rattle.cmr_base.proofs.Lists.{HasOneMore, all_weaker}
use Rattle.cmr_base.proofs.SignEntries.{product_is_entry, sign_is_entry, zero_is_entry}
use Rattle.ghouila.proofs.Expansions.{expansion_zero_column, minor, schur}
use Rattle.ghouila.proofs.Fractions.{HasSmallerMinorsOn}
use Rattle.ghouila.proofs.Minors.{one_minor, sign_twice, entry_before, entry_after}
use Rattle.ghouila.proofs.Sublists.{IsSublist, sublist_none, sublist_each, sublist_with, length-one_more, HasSignIn, zeros_or_sign}
use Rattle.determinant_two.specs.DeterminantTwo.{IsTwo}

-- ---- 2 and -2

pub two_by_sign : (sign z : ℤ) → IsSign sign → IsTwo z → IsTwo (sign *ℤ z)
two_by_sign sign z (inl e) (inl f) = rw (e, f) (inl refl)
two_by_sign sign z (inl e) (inr f) = rw (e, f) (inr refl)
two_by_sign sign z (inr e) (inl f) = rw (e, f) (inr refl)
two_by_sign sign z (inr e) (inr f) = rw (e, f) (inl refl)

pub two_not_entry : (z : ℤ) → IsTwo z → IsEntry z → ⊥
two_not_entry z (inl e) h = let high = h.high in omega (arith, sums)
two_not_entry z (inr e) h = let low = h.low in omega (arith, sums)

pub two_or_not : (z : ℤ) → IsTwo z ⊎ (¬ IsTwo z)
two_or_not (pos zero) = inr (λ h. two_not_entry (pos 0) h zero_is_entry)
two_or_not (pos (suc zero)) = inr (λ h. two_not_entry (pos 1) h (sign_is_entry (pos 1) (inl refl)))
two_or_not (pos (suc (suc zero))) = inl (inl refl)
two_or_not (pos (suc (suc (suc n)))) = inr (λ h. elim h [ inl e ↦ omega (arith, sums) | inr e ↦ omega (arith, sums) ])
two_or_not (negsuc zero) = inr (λ h. two_not_entry (negsuc 0) h (sign_is_entry (negsuc 0) (inr refl)))
two_or_not (negsuc (suc zero)) = inl (inr refl)
two_or_not (negsuc (suc (suc n))) = inr (λ h. elim h [ inl e ↦ omega (arith, sums) | inr e ↦ omega (arith, sums) ])

difference_of_entries : (x y : ℤ) → IsEntry x → IsEntry y → IsEntry (x -ℤ y) ⊎ IsTwo (x -ℤ y)
difference_of_entries x y h k = within (x -ℤ y) (let low = h.low in let high = k.high in omega (arith, sums)) (let high = h.high in let low = k.low in omega (arith, sums))
  where
    within : (z : ℤ) → negsuc 1 ≤ℤ z → z ≤ℤ pos 2 → IsEntry z ⊎ IsTwo z
    within (pos zero) low high = inl zero_is_entry
    within (pos (suc zero)) low high = inl (sign_is_entry (pos 1) (inl refl))
    within (pos (suc (suc zero))) low high = inr (inl refl)
    within (pos (suc (suc (suc n)))) low high = absurd (omega (arith, sums))
    within (negsuc zero) low high = inl (sign_is_entry (negsuc 0) (inr refl))
    within (negsuc (suc zero)) low high = inr (inr refl)
    within (negsuc (suc (suc n))) low high = absurd (omega (arith, sums))

-- ---- pivots

-- a determinant is 2 or -2 if and only if the determinant of its Schur complement is
pub two_before : (M : ℕ → ℕ → ℤ) (r c : ℕ) (C fewer R : List ℕ) → IsSign (M r c) → HasOneMore r fewer R → IsTwo (minor (reduced M r c) C fewer) → IsTwo (minor M (c ∷ C) R)
two_before M r c C fewer R u more h =
    let up_to_sign = schur M r c C fewer R u more in
    subst IsTwo (sym up_to_sign.equal) (two_by_sign up_to_sign.sign (M r c *ℤ minor (reduced M r c) C fewer) up_to_sign.is_sign (two_by_sign (M r c) (minor (reduced M r c) C fewer) u h))

pub two_after : (M : ℕ → ℕ → ℤ) (r c : ℕ) (C fewer R : List ℕ) → IsSign (M r c) → HasOneMore r fewer R → IsTwo (minor M (c ∷ C) R) → IsTwo (minor (reduced M r c) C fewer)
two_after M r c C fewer R u more h =
    let up_to_sign = schur M r c C fewer R u more in
    without_sign (M r c) (minor (reduced M r c) C fewer) u
    (without_sign up_to_sign.sign (M r c *ℤ minor (reduced M r c) C fewer) up_to_sign.is_sign (subst IsTwo up_to_sign.equal h))
  where
    without_sign : (sign z : ℤ) → IsSign sign → IsTwo (sign *ℤ z) → IsTwo z
    without_sign sign z v two = subst IsTwo (sign_twice sign z v) (two_by_sign sign (sign *ℤ z) v two)

-- the smaller square submatrices after a pivot are those with the pivot's lines before it
pub smaller_after : (M : ℕ → ℕ → ℤ) (r c : ℕ) (fewer R C : List ℕ) → IsSign (M r c) → HasOneMore r fewer R → HasSmallerMinorsOn M R (c ∷ C) → HasSmallerMinorsOn (reduced M r c) fewer C
smaller_after M r c fewer R C u more minors P Q h k e l =
    let longer = sublist_with r fewer R P more h in
    entry_after M r c Q P longer.list u longer.more (minors longer.list (c ∷ Q) longer.sublist (inr (Q, refl, k)) (length-one_more r P longer.list longer.more ∙ ap suc e) (omega arith))

pub entries_below : (M : ℕ → ℕ → ℤ) (R : List ℕ) (c d : ℕ) (C : List ℕ) → HasSmallerMinorsOn M R (c ∷ d ∷ C) → AllByRecursion (λ i. IsEntry (M i c)) R
entries_below M R c d C minors = all_weaker (λ i. IsSublist (i ∷ []) R) (λ i. IsEntry (M i c))
    (λ i h. subst IsEntry (one_minor M i c) (minors (i ∷ []) (c ∷ []) h (inr ([], refl, sublist_none (d ∷ C))) refl (omega arith))) R (sublist_each R)

-- ---- induction on the number of columns

two_by_two : (M : ℕ → ℕ → ℤ) (r s c d : ℕ) → minor M (c ∷ d ∷ []) (r ∷ s ∷ []) ≡ M r c *ℤ M s d -ℤ M s c *ℤ M r d
two_by_two M r s c d = plain (M r c) (M s c) (M r d) (M s d)
  where
    plain : (p q x y : ℤ) → p *ℤ (y *ℤ pos 1 -ℤ pos 0) -ℤ (q *ℤ (x *ℤ pos 1 -ℤ pos 0) -ℤ pos 0) ≡ p *ℤ y -ℤ q *ℤ x
    plain p q x y = simp products (omega (arith, sums))

smallest_entry_or_two : (M : ℕ → ℕ → ℤ) (r s c d : ℕ) → HasSmallerMinorsOn M (r ∷ s ∷ []) (c ∷ d ∷ []) → IsEntry (minor M (c ∷ d ∷ []) (r ∷ s ∷ [])) ⊎ IsTwo (minor M (c ∷ d ∷ []) (r ∷ s ∷ []))
smallest_entry_or_two M r s c d minors = subst (λ z. IsEntry z ⊎ IsTwo z) (sym (two_by_two M r s c d))
    (difference_of_entries (M r c *ℤ M s d) (M s c *ℤ M r d)
    (product_is_entry (M r c) (M s d) (at r c rows.0 columns.0) (at s d rows.1.0 columns.1.0))
    (product_is_entry (M s c) (M r d) (at s c rows.1.0 columns.0) (at r d rows.0 columns.1.0)))
  where
    rows : AllByRecursion (λ i. IsSublist (i ∷ []) (r ∷ s ∷ [])) (r ∷ s ∷ [])
    rows = sublist_each (r ∷ s ∷ [])

    columns : AllByRecursion (λ j. IsSublist (j ∷ []) (c ∷ d ∷ [])) (c ∷ d ∷ [])
    columns = sublist_each (c ∷ d ∷ [])

    at : (i j : ℕ) → IsSublist (i ∷ []) (r ∷ s ∷ []) → IsSublist (j ∷ []) (c ∷ d ∷ []) → IsEntry (M i j)
    at i j h k = subst IsEntry (one_minor M i j) (minors (i ∷ []) (j ∷ []) h k refl (omega arith))

pub entry_or_two : (c d : ℕ) (C R : List ℕ) (M : ℕ → ℕ → ℤ) → length R ≡ length (c ∷ d ∷ C) → HasSmallerMinorsOn M R (c ∷ d ∷ C) → IsEntry (minor M (c ∷ d ∷ C) R) ⊎ IsTwo (minor M (c ∷ d ∷ C) R)
entry_or_two c d [] [] M e minors = absurd (omega arith)
entry_or_two c d [] (r ∷ []) M e minors = absurd (omega arith)
entry_or_two c d [] (r ∷ s ∷ []) M e minors = smallest_entry_or_two M r s c d minors
entry_or_two c d [] (r ∷ s ∷ t ∷ R) M e minors = absurd (omega arith)
entry_or_two c d (d' ∷ C) R M e minors = elim (zeros_or_sign (λ i. M i c) R (entries_below M R c d (d' ∷ C) minors)) [
  | inl zeros ↦ inl (subst IsEntry (sym (expansion_zero_column (λ i. M i c) (minor M (d ∷ d' ∷ C)) R zeros)) zero_is_entry)
  | inr s ↦ before s (entry_or_two d d' C s.others (reduced M s.row c) (let one_more = length-one_more s.row s.others R s.more in omega arith)
      (smaller_after M s.row c s.others R (d ∷ d' ∷ C) s.sign s.more minors))
]
  where
    before : (s : HasSignIn (λ i. M i c) R) → IsEntry (minor (reduced M s.row c) (d ∷ d' ∷ C) s.others) ⊎ IsTwo (minor (reduced M s.row c) (d ∷ d' ∷ C) s.others)
        → IsEntry (minor M (c ∷ d ∷ d' ∷ C) R) ⊎ IsTwo (minor M (c ∷ d ∷ d' ∷ C) R)
    before s (inl h) = inl (entry_before M s.row c (d ∷ d' ∷ C) s.others R s.sign s.more h)
    before s (inr h) = inr (two_before M s.row c (d ∷ d' ∷ C) s.others R s.sign s.more h)
