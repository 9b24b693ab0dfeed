-- Violators with added lines: a line is added if its bit is set.
use Rattle.std.proofs.Common.{ℕ, ℤ, pos, Bool, true, false, cond, List, [], ◌∷◌, ◌≡◌, ◌+ℤ◌, ◌∙◌, sym, ap, ap₂, refl, arith, subst}
use Rattle.std.specs.List.{AllByRecursion}
use Rattle.cmr_base.specs.Sums.{sum_over, IsEven, IsTwoModFour}
use Rattle.cmr_base.specs.Violator.{IsViolator}
use Rattle.cmr_base.proofs.Integers.{sums}
use Rattle.cmr_base.proofs.Lists.{all_weaker}
use Rattle.ghouila.proofs.ParityBits.{when}
use Rattle.ghouila.proofs.BlockViolators.{all_pairs}
use Rattle.ghouila.proofs.BorderedSides.{same_over}
use Rattle.ghouila.proofs.CoreParities.{core_line}

abbrev pub added : Bool → ℕ → List ℕ → List ℕ
added s x xs = cond s (x ∷ xs) xs

pub sum_over-added : (s : Bool) (x : ℕ) (xs : List ℕ) (f : ℕ → ℤ) → sum_over (added s x xs) f ≡ when s (f x) +ℤ sum_over xs f
sum_over-added true x xs f = refl
sum_over-added false x xs f = plain (sum_over xs f)
  where
    plain : (n : ℤ) → n ≡ pos 0 +ℤ n
    plain n = omega (arith, sums)

pub all-added : (P : ℕ → Type 0) (s : Bool) (x : ℕ) (xs : List ℕ) → (s ≡ true → P x) → AllByRecursion P xs → AllByRecursion P (added s x xs)
all-added P true x xs h k = (h refl, k)
all-added P false x xs h k = k

sum_over-two_added : (a b : Bool) (k o : ℕ) (xs : List ℕ) (f : ℕ → ℤ) → sum_over (added a k (added b o xs)) f ≡ when a (f k) +ℤ (when b (f o) +ℤ sum_over xs f)
sum_over-two_added a b k o xs f = sum_over-added a k (added b o xs) f ∙ ap (λ (n : ℤ). when a (f k) +ℤ n) (sum_over-added b o xs f)

pub sum_over-three_added : (s a b : Bool) (i k o : ℕ) (f : ℕ → ℤ) → sum_over (added s i (added a k (added b o []))) f ≡ core_line (f i) (f k) (f o) s a b
sum_over-three_added s a b i k o f = sum_over-added s i (added a k (added b o [])) f ∙ ap (λ (n : ℤ). when s (f i) +ℤ n) (sum_over-two_added a b k o [] f)

comm : (m n : ℤ) → m +ℤ n ≡ n +ℤ m
comm m n = omega (arith, sums)

module _ (M : ℕ → ℕ → ℤ) (R C : List ℕ) (k o j : ℕ) (a b s : Bool) (zero : AllByRecursion (λ r. M r j ≡ pos 0) R) where
  row_is : (r : ℕ) → sum_over (added s j C) (λ c. M r c) ≡ sum_over C (λ c. M r c) +ℤ when s (M r j)
  row_is r = sum_over-added s j C (λ c. M r c) ∙ comm (when s (M r j)) (sum_over C (λ c. M r c))

  old_row : (r : ℕ) → M r j ≡ pos 0 → sum_over (added s j C) (λ c. M r c) ≡ sum_over C (λ c. M r c)
  old_row r e = row_is r ∙ plain s (sum_over C (λ c. M r c)) (M r j) e
    where
      plain : (s : Bool) (m n : ℤ) → n ≡ pos 0 → m +ℤ when s n ≡ m
      plain true m n e = omega (arith, sums)
      plain false m n e = omega (arith, sums)

  column_is : (c : ℕ) → sum_over (added a k (added b o R)) (λ r. M r c) ≡ sum_over R (λ r. M r c) +ℤ (when a (M k c) +ℤ when b (M o c))
  column_is c = sum_over-two_added a b k o R (λ r. M r c) ∙ plain (when a (M k c)) (when b (M o c)) (sum_over R (λ r. M r c))
    where
      plain : (x y z : ℤ) → x +ℤ (y +ℤ z) ≡ z +ℤ (x +ℤ y)
      plain x y z = omega (arith, sums)

  -- a violator with the rows k and o and the column j added; column j is 0 in the rows before them
  pub with_lines_added : AllByRecursion (λ r. IsEven (sum_over C (λ c. M r c))) R → AllByRecursion (λ c. IsEven (sum_over R (λ r. M r c) +ℤ (when a (M k c) +ℤ when b (M o c)))) C
      → (a ≡ true → IsEven (sum_over C (λ c. M k c) +ℤ when s (M k j))) → (b ≡ true → IsEven (sum_over C (λ c. M o c) +ℤ when s (M o j))) → (s ≡ true → IsEven (when a (M k j) +ℤ when b (M o j)))
      → IsTwoModFour ((sum_over R (λ r. sum_over C (λ c. M r c)) +ℤ when a (sum_over C (λ c. M k c) +ℤ when s (M k j))) +ℤ when b (sum_over C (λ c. M o c) +ℤ when s (M o j)))
      → IsViolator M (added a k (added b o R)) (added s j C)
  with_lines_added rows columns row_k row_o column_j two = record {
    even_rows = all-added (λ r. IsEven (sum_over (added s j C) (λ c. M r c))) a k (added b o R) (λ h. subst IsEven (sym (row_is k)) (row_k h))
        (all-added (λ r. IsEven (sum_over (added s j C) (λ c. M r c))) b o R (λ h. subst IsEven (sym (row_is o)) (row_o h))
        (all_weaker (λ r. (M r j ≡ pos 0) × IsEven (sum_over C (λ c. M r c))) (λ r. IsEven (sum_over (added s j C) (λ c. M r c))) (λ r h. subst IsEven (sym (old_row r h.0)) h.1) R
        (all_pairs (λ r. M r j ≡ pos 0) (λ r. IsEven (sum_over C (λ c. M r c))) R zero rows)));
    even_columns = all-added (λ c. IsEven (sum_over (added a k (added b o R)) (λ r. M r c))) s j C
        (λ h. subst IsEven (sym (column_is j ∙ (ap (λ (n : ℤ). n +ℤ (when a (M k j) +ℤ when b (M o j))) (none R zero) ∙ plain (when a (M k j) +ℤ when b (M o j))))) (column_j h))
        (all_weaker (λ c. IsEven (sum_over R (λ r. M r c) +ℤ (when a (M k c) +ℤ when b (M o c)))) (λ c. IsEven (sum_over (added a k (added b o R)) (λ r. M r c))) (λ c h. subst IsEven (sym (column_is c)) h) C columns);
    two_mod_four = subst IsTwoModFour (sym (sum_over-two_added a b k o R (λ r. sum_over (added s j C) (λ c. M r c))
        ∙ (ap₂ (λ (m n : ℤ). when a m +ℤ n) (row_is k) (ap₂ (λ (m n : ℤ). when b m +ℤ n) (row_is o)
        (same_over R (λ r. M r j ≡ pos 0) (λ r. sum_over (added s j C) (λ c. M r c)) (λ r. sum_over C (λ c. M r c)) old_row zero))
        ∙ turn (when a (sum_over C (λ c. M k c) +ℤ when s (M k j))) (when b (sum_over C (λ c. M o c) +ℤ when s (M o j))) (sum_over R (λ r. sum_over C (λ c. M r c)))))) two;
  }
    where
      none : (ys : List ℕ) → AllByRecursion (λ r. M r j ≡ pos 0) ys → sum_over ys (λ r. M r j) ≡ pos 0
      none [] h = refl
      none (y ∷ ys) h = rw (h.0, none ys h.1) refl

      plain : (n : ℤ) → pos 0 +ℤ n ≡ n
      plain n = omega (arith, sums)

      turn : (x y z : ℤ) → x +ℤ (y +ℤ z) ≡ (z +ℤ x) +ℤ y
      turn x y z = omega (arith, sums)

-- a violator on lines of the core
pub core_violator : (M : ℕ → ℕ → ℤ) (i k o j p q : ℕ) (s a b t e f : Bool)
    → (s ≡ true → IsEven (core_line (M i j) (M i p) (M i q) t e f)) → (a ≡ true → IsEven (core_line (M k j) (M k p) (M k q) t e f)) → (b ≡ true → IsEven (core_line (M o j) (M o p) (M o q) t e f))
    → (t ≡ true → IsEven (core_line (M i j) (M k j) (M o j) s a b)) → (e ≡ true → IsEven (core_line (M i p) (M k p) (M o p) s a b)) → (f ≡ true → IsEven (core_line (M i q) (M k q) (M o q) s a b))
    → IsTwoModFour (when s (core_line (M i j) (M i p) (M i q) t e f) +ℤ (when a (core_line (M k j) (M k p) (M k q) t e f) +ℤ (when b (core_line (M o j) (M o p) (M o q) t e f) +ℤ pos 0)))
    → IsViolator M (added s i (added a k (added b o []))) (added t j (added e p (added f q [])))
core_violator M i k o j p q s a b t e f ri rk ro cj cp cq two = record {
  even_rows = all-added (λ r. IsEven (sum_over (added t j (added e p (added f q []))) (λ c. M r c))) s i (added a k (added b o [])) (λ h. subst IsEven (sym (row i)) (ri h))
      (all-added (λ r. IsEven (sum_over (added t j (added e p (added f q []))) (λ c. M r c))) a k (added b o []) (λ h. subst IsEven (sym (row k)) (rk h))
      (all-added (λ r. IsEven (sum_over (added t j (added e p (added f q []))) (λ c. M r c))) b o [] (λ h. subst IsEven (sym (row o)) (ro h)) tt));
  even_columns = all-added (λ c. IsEven (sum_over (added s i (added a k (added b o []))) (λ r. M r c))) t j (added e p (added f q [])) (λ h. subst IsEven (sym (column j)) (cj h))
      (all-added (λ c. IsEven (sum_over (added s i (added a k (added b o []))) (λ r. M r c))) e p (added f q []) (λ h. subst IsEven (sym (column p)) (cp h))
      (all-added (λ c. IsEven (sum_over (added s i (added a k (added b o []))) (λ r. M r c))) f q [] (λ h. subst IsEven (sym (column q)) (cq h)) tt));
  two_mod_four = subst IsTwoModFour (sym (sum_over-three_added s a b i k o (λ r. sum_over (added t j (added e p (added f q []))) (λ c. M r c))
      ∙ ap₂ (λ (m n : ℤ). when s m +ℤ n) (row i) (ap₂ (λ (m n : ℤ). when a m +ℤ (when b n +ℤ pos 0)) (row k) (row o)))) two;
}
  where
    row : (r : ℕ) → sum_over (added t j (added e p (added f q []))) (λ c. M r c) ≡ core_line (M r j) (M r p) (M r q) t e f
    row r = sum_over-three_added t e f j p q (λ c. M r c)

    column : (c : ℕ) → sum_over (added s i (added a k (added b o []))) (λ r. M r c) ≡ core_line (M i c) (M k c) (M o c) s a b
    column c = sum_over-three_added s a b i k o (λ r. M r c)
