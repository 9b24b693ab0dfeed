-- Numbers of nonzeros as sums, and their parity.
use Rattle.std.proofs.Common.{◌≡◌, ◌+◌, ◌∙◌, inl, inr, ℕ, Bool, true, false, cond, ℤ, pos, ◌+ℤ◌, ◌-ℤ◌, List, [], ◌∷◌, refl, ap, subst, arith}
use Rattle.std.specs.Prelude.{count_by, if◌then◌else◌}
use Rattle.std.proofs.lemmas.List.Recursion.{is_count_by}
use Rattle.cmr_base.specs.Matrix.{IsEntry, is_nonzero}
use Rattle.cmr_base.specs.Signing.{IsSign}
use Rattle.cmr_base.specs.Sums.{sum_over, IsEven}
use Rattle.cmr_base.proofs.Integers.{sums}
use Rattle.cmr_base.proofs.Parity.{even_by_difference, even-sum_over}
use Rattle.cmr_base.proofs.Lists.{all_of}
use Rattle.cmr_base.proofs.SumLaws.{sum_over-sub}
use Rattle.ghouila.proofs.SignedSums.{zero_or_sign}

-- 1 for a nonzero, 0 for 0
abbrev pub mark : ℤ → ℤ
mark z = if is_nonzero z then pos 1 else pos 0

pub mark_zero : (z : ℤ) → z ≡ pos 0 → mark z ≡ pos 0
mark_zero z e = rw e refl

pub mark_sign : (z : ℤ) → IsSign z → mark z ≡ pos 1
mark_sign z (inl e) = rw e refl
mark_sign z (inr e) = rw e refl

abbrev count_nonzeros : (ℕ → ℤ) → List ℕ → ℕ
count_nonzeros f [] = 0
count_nonzeros f (x ∷ xs) = cond (is_nonzero (f x)) (1 + count_nonzeros f xs) (count_nonzeros f xs)

added : (b : Bool) (n : ℕ) → (if b then pos 1 else pos 0) +ℤ pos n ≡ pos (cond b (1 + n) n)
added true n = omega (arith, sums)
added false n = omega (arith, sums)

counted_by : (f : ℕ → ℤ) (xs : List ℕ) → sum_over xs (λ x. mark (f x)) ≡ pos (count_nonzeros f xs)
counted_by f [] = refl
counted_by f (x ∷ xs) = ap (λ (z : ℤ). mark (f x) +ℤ z) (counted_by f xs) ∙ added (is_nonzero (f x)) (count_nonzeros f xs)

pub counted : (f : ℕ → ℤ) (xs : List ℕ) → sum_over xs (λ x. mark (f x)) ≡ pos (count_by (λ x. is_nonzero (f x)) xs)
counted f xs = counted_by f xs ∙ ap pos (is_count_by (count_nonzeros f) (λ x. is_nonzero (f x)) refl (λ x ys. refl) xs)

pub two_from_sum : (f : ℕ → ℤ) (xs : List ℕ) → sum_over xs (λ x. mark (f x)) ≡ pos 2 → count_by (λ x. is_nonzero (f x)) xs ≡ 2
two_from_sum f xs e = let k = counted f xs in omega (arith, sums, k, e)

-- an entry has the parity of its mark
mark_even : (z : ℤ) → IsEntry z → IsEven (mark z -ℤ z)
mark_even z small = elim (zero_or_sign z small) [ inl e ↦ (pos 0, rw e refl) | inr u ↦ go z u ]
  where
    go : (z : ℤ) → IsSign z → IsEven (mark z -ℤ z)
    go z (inl e) = (pos 0, rw e refl)
    go z (inr e) = (pos 1, rw e refl)

pub two_is_even : (f : ℕ → ℤ) → ((x : ℕ) → IsEntry (f x)) → (xs : List ℕ) → count_by (λ x. is_nonzero (f x)) xs ≡ 2 → IsEven (sum_over xs f)
two_is_even f small xs e = even_by_difference (sum_over xs (λ x. mark (f x))) (sum_over xs f)
    (subst IsEven (sum_over-sub xs (λ x. mark (f x)) f) (even-sum_over xs (λ x. mark (f x) -ℤ f x) (all_of (λ x. IsEven (mark (f x) -ℤ f x)) (λ x. mark_even (f x) (small x)) xs)))
    (pos 1, counted f xs ∙ ap pos e)
