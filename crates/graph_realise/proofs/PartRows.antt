-- The rows of a part, by its name.
use Rattle.std.proofs.Common.{ℕ, Bool, true, false, not, List, ◌≡◌, ◌≢◌, ◌∙◌, ap, refl, ◌⊎◌, inl, inr, nat_eq, ◌==◌, ◌&&◌, ◌||◌}
use Rattle.cmr_base.specs.Members.{IsIn}
use Rattle.cmr_base.specs.Splits.{part_rows, with_row}
use Rattle.cmr_base.proofs.RowLists.{not_both, filter_in, in_filter, is_eq, is_ne, eq_of, ne_of}

module _ (part : ℕ → ℕ) (i name k : ℕ) where
  pub in_part : (S : List ℕ) → IsIn k (part_rows part i name S) → IsIn k S × (k ≢ i) × (part k ≡ name)
  in_part S h = let r = in_filter (λ k. not (k == i) && part k == name) k S h in let t = go (nat_eq k i) refl r.1 in (r.0, t.0, t.1)
    where
      go : (t : Bool) → nat_eq k i ≡ t → (not t && part k == name) ≡ true → (k ≢ i) × (part k ≡ name)
      go true e f = absurd (not_both false f refl)
      go false e f = (ne_of k i e, eq_of (part k) name f)

  pub part_in : (S : List ℕ) → IsIn k S → k ≢ i → part k ≡ name → IsIn k (part_rows part i name S)
  part_in S h n e = filter_in (λ k. not (k == i) && part k == name) k S h (ap (λ (t : Bool). not t && part k == name) (is_ne k i n) ∙ is_eq (part k) name e)

  pub in_with : (S : List ℕ) → IsIn k (with_row part i name S) → IsIn k S × ((k ≡ i) ⊎ (part k ≡ name))
  in_with S h = let r = in_filter (λ k. k == i || part k == name) k S h in (r.0, go (nat_eq k i) refl r.1)
    where
      go : (t : Bool) → nat_eq k i ≡ t → (t || part k == name) ≡ true → (k ≡ i) ⊎ (part k ≡ name)
      go true e f = inl (eq_of k i e)
      go false e f = inr (eq_of (part k) name f)

  pub with_in : (S : List ℕ) → IsIn k S → (k ≡ i) ⊎ (part k ≡ name) → IsIn k (with_row part i name S)
  with_in S h e = filter_in (λ k. k == i || part k == name) k S h (go (nat_eq k i) refl e)
    where
      go : (t : Bool) → nat_eq k i ≡ t → (k ≡ i) ⊎ (part k ≡ name) → (t || part k == name) ≡ true
      go true a e = refl
      go false a (inl e) = absurd (ne_of k i a e)
      go false a (inr e) = is_eq (part k) name e

  -- a row of another part is removed
  pub omitted : k ≢ i → part k ≢ name → (k == i || part k == name) ≡ false
  omitted n m = ap (λ (t : Bool). t || part k == name) (is_ne k i n) ∙ is_ne (part k) name m
