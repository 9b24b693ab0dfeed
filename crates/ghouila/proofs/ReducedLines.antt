-- A set of lines has a violator if and only if it has one after a reducible line is removed.
use Rattle.std.proofs.Common.{ℕ, ℤ, pos, negsuc, Bool, true, false, cond, nat_eq, map, List, [], ◌∷◌, ◌≡◌, ◌≢◌, ◌+ℤ◌, ◌*ℤ◌, ◌-ℤ◌, neg_ℤ, ◌∙◌, sym, ap, ap₂, refl, arith, subst, ◌⊎◌, inl, inr}
use Rattle.std.specs.List.{AllByRecursion}
use Rattle.cmr_base.specs.Sums.{sum_over, IsEven, IsTwoModFour}
use Rattle.cmr_base.specs.Signing.{IsSign}
use Rattle.ghouila.proofs.ViolatedLines.{ViolatedIn, FreeIn, narrower}
use Rattle.ghouila.proofs.ReducibleRows.{IsZeroRow, IsUnitRow, IsCopyRow, IsNegativeRow, IsReducibleRow, But, crossed}
use Rattle.cmr_base.proofs.Integers.{sums, products, times_one}
use Rattle.cmr_base.proofs.SumLaws.{sum_over-add, sum_over-scale, sum_over-zero}
use Rattle.cmr_base.proofs.Parity.{IsFour, four-mul_evens}
use Rattle.cmr_base.proofs.Lists.{all_weaker}
use Rattle.ghouila.proofs.BlockViolators.{all_pairs, all_kept, all_other, kept, other, line}
use Rattle.ghouila.proofs.BorderedSides.{unit_times, same_over}
use Rattle.cmr_base.proofs.ViolatorLemmas.{violator-transposed}
use Rattle.cmr_base.proofs.Booleans.{eq_of, ne_of}

-- ---- rows moved to equal rows, or their negatives

same_parity : (u x y : ℤ) → IsSign u → x ≡ u *ℤ y → IsEven (x -ℤ y)
same_parity u x y unit e = elim (unit_times u y unit) [
  | inl f ↦ plus x (u *ℤ y) y e f
  | inr f ↦ minus x (u *ℤ y) y e f
]
  where
    plus : (x p y : ℤ) → x ≡ p → p ≡ y → IsEven (x -ℤ y)
    plus x p y e f = (pos 0, omega (arith, sums))

    minus : (x p y : ℤ) → x ≡ p → p ≡ neg_ℤ y → IsEven (x -ℤ y)
    minus x p y e f = (neg_ℤ y, omega (arith, sums))

same_four : (u x y : ℤ) → IsSign u → x ≡ u *ℤ y → IsEven y → IsFour (x -ℤ y)
same_four u x y unit e h = elim (unit_times u y unit) [
  | inl f ↦ plus x (u *ℤ y) y e f
  | inr f ↦ minus x (u *ℤ y) y e f h
]
  where
    plus : (x p y : ℤ) → x ≡ p → p ≡ y → IsFour (x -ℤ y)
    plus x p y e f = (pos 0, omega (arith, sums))

    minus : (x p y : ℤ) → x ≡ p → p ≡ neg_ℤ y → IsEven y → IsFour (x -ℤ y)
    minus x p y e f (k, g) = (neg_ℤ k, omega (arith, sums))

even_from : (x y : ℤ) → IsEven (x -ℤ y) → IsEven y → IsEven x
even_from x y (k, e) (l, f) = (k +ℤ l, omega (arith, sums))

two_from : (x y : ℤ) → IsFour (x -ℤ y) → IsTwoModFour y → IsTwoModFour x
two_from x y (k, e) (l, f) = (k +ℤ l, omega (arith, sums))

module _ (M M' : ℕ → ℕ → ℤ) (P Q P' : ℕ → Type 0) (f : ℕ → ℕ) (s : ℕ → ℤ) (unit : (r : ℕ) → IsSign (s r)) (into : (r : ℕ) → P r → P' (f r)) (is : (r c : ℕ) → P r → Q c → M' (f r) c ≡ s r *ℤ M r c) where
  row_is : (r : ℕ) → P r → (C : List ℕ) → AllByRecursion Q C → sum_over C (λ c. M' (f r) c) ≡ s r *ℤ sum_over C (λ c. M r c)
  row_is r p C qs = same_over C Q (λ c. M' (f r) c) (λ c. s r *ℤ M r c) (λ c q. is r c p q) qs ∙ sum_over-scale C (s r) (λ c. M r c)

  rows_moved : (C : List ℕ) → AllByRecursion Q C → (R : List ℕ) → AllByRecursion P R → AllByRecursion (λ r. IsEven (sum_over C (λ c. M r c))) R
      → AllByRecursion (λ r. IsEven (sum_over C (λ c. M' r c))) (map f R)
  rows_moved C qs [] ps h = tt
  rows_moved C qs (r ∷ R) ps h = (even_from (sum_over C (λ c. M' (f r) c)) (sum_over C (λ c. M r c)) (same_parity (s r) (sum_over C (λ c. M' (f r) c)) (sum_over C (λ c. M r c)) (unit r) (row_is r ps.0 C qs)) h.0, rows_moved C qs R ps.1 h.1)

  sum_even : (a b c d : ℤ) → IsEven (a -ℤ b) → IsEven (c -ℤ d) → IsEven ((a +ℤ c) -ℤ (b +ℤ d))
  sum_even a b c d (k, e) (l, f) = (k +ℤ l, omega (arith, sums))

  sum_four : (a b c d : ℤ) → IsFour (a -ℤ b) → IsFour (c -ℤ d) → IsFour ((a +ℤ c) -ℤ (b +ℤ d))
  sum_four a b c d (k, e) (l, f) = (k +ℤ l, omega (arith, sums))

  column_moved : (c : ℕ) → Q c → (R : List ℕ) → AllByRecursion P R → IsEven (sum_over (map f R) (λ r. M' r c) -ℤ sum_over R (λ r. M r c))
  column_moved c q [] ps = (pos 0, refl)
  column_moved c q (r ∷ R) ps = sum_even (M' (f r) c) (M r c) (sum_over (map f R) (λ r. M' r c)) (sum_over R (λ r. M r c)) (same_parity (s r) (M' (f r) c) (M r c) (unit r) (is r c ps.0 q)) (column_moved c q R ps.1)

  total_moved : (C : List ℕ) → AllByRecursion Q C → (R : List ℕ) → AllByRecursion P R → AllByRecursion (λ r. IsEven (sum_over C (λ c. M r c))) R
      → IsFour (sum_over (map f R) (λ r. sum_over C (λ c. M' r c)) -ℤ sum_over R (λ r. sum_over C (λ c. M r c)))
  total_moved C qs [] ps h = (pos 0, refl)
  total_moved C qs (r ∷ R) ps h = sum_four (sum_over C (λ c. M' (f r) c)) (sum_over C (λ c. M r c)) (sum_over (map f R) (λ r. sum_over C (λ c. M' r c))) (sum_over R (λ r. sum_over C (λ c. M r c)))
      (same_four (s r) (sum_over C (λ c. M' (f r) c)) (sum_over C (λ c. M r c)) (unit r) (row_is r ps.0 C qs) h.0) (total_moved C qs R ps.1 h.1)

  all_moved : (R : List ℕ) → AllByRecursion P R → AllByRecursion P' (map f R)
  all_moved [] ps = tt
  all_moved (r ∷ R) ps = (into r ps.0, all_moved R ps.1)

  pub moved : ViolatedIn M P Q → ViolatedIn M' P' Q
  moved v = record {
    R = map f v.R;
    C = v.C;
    rows = all_moved v.R v.rows;
    columns = v.columns;
    violator = record {
      even_rows = rows_moved v.C v.columns v.R v.rows v.violator.even_rows;
      even_columns = all_weaker (λ c. Q c × IsEven (sum_over v.R (λ r. M r c))) (λ c. IsEven (sum_over (map f v.R) (λ r. M' r c)))
          (λ c h. even_from (sum_over (map f v.R) (λ r. M' r c)) (sum_over v.R (λ r. M r c)) (column_moved c h.0 v.R v.rows) h.1) v.C (all_pairs Q (λ c. IsEven (sum_over v.R (λ r. M r c))) v.C v.columns v.violator.even_columns);
      two_mod_four = two_from (sum_over (map f v.R) (λ r. sum_over v.C (λ c. M' r c))) (sum_over v.R (λ r. sum_over v.C (λ c. M r c))) (total_moved v.C v.columns v.R v.rows v.violator.even_rows) v.violator.two_mod_four;
    };
  }

minus_is : (z : ℤ) → z ≡ negsuc 0 *ℤ neg_ℤ z
minus_is z = simp products (omega (arith, sums))

module _ (M : ℕ → ℕ → ℤ) (P Q : ℕ → Type 0) (r : ℕ) where
  -- row r is u times row s
  multiple : (u : ℤ) → IsSign u → (s : ℕ) → P s → s ≢ r → ((c : ℕ) → Q c → M s c ≡ u *ℤ M r c) → ViolatedIn M P Q → ViolatedIn M (But P r) Q
  multiple u unit s p apart e = moved M M P Q (But P r) (λ x. cond (nat_eq x r) s x) (λ x. cond (nat_eq x r) u (pos 1)) (λ x. units (nat_eq x r)) (λ x q. into x q (nat_eq x r) refl) (λ x c _ q. is x c q (nat_eq x r) refl)
    where
      units : (t : Bool) → IsSign (cond t u (pos 1))
      units true = unit
      units false = inl refl

      into : (x : ℕ) → P x → (t : Bool) → nat_eq x r ≡ t → But P r (cond t s x)
      into x q true f = (p, apart)
      into x q false f = (q, ne_of x r f)

      is : (x c : ℕ) → Q c → (t : Bool) → nat_eq x r ≡ t → M (cond t s x) c ≡ cond t u (pos 1) *ℤ M x c
      is x c q true f = e c q ∙ ap (λ (y : ℕ). u *ℤ M y c) (sym (eq_of x r f))
      is x c q false f = times_one (M x c)

  pub copy_row : IsCopyRow M P Q r → ViolatedIn M P Q → ViolatedIn M (But P r) Q
  copy_row (s, p, apart, e) = multiple (pos 1) (inl refl) s p apart (λ c q. sym (e c q) ∙ times_one (M r c))

  pub negative_row : IsNegativeRow M P Q r → ViolatedIn M P Q → ViolatedIn M (But P r) Q
  negative_row (s, p, apart, e) = multiple (negsuc 0) (inr refl) s p apart (λ c q. minus_is (M s c) ∙ ap (λ (z : ℤ). negsuc 0 *ℤ z) (sym (e c q)))

-- ---- zero and unit rows

abbrev hit : ℕ → ℕ → Bool
hit r x = nat_eq x r

abbrev itself : ℕ → ℕ
itself x = x

heap : (r : ℕ) (F : ℕ → ℤ) (xs : List ℕ) → AllByRecursion (λ x. x ≡ r) xs → sum_over xs F ≡ sum_over xs (λ x. pos 1) *ℤ F r
heap r F [] h = plain (F r)
  where
    plain : (z : ℤ) → pos 0 ≡ pos 0 *ℤ z
    plain z = simp products
heap r F (x ∷ xs) h = ap₂ (λ (a b : ℤ). a +ℤ b) (ap F h.0) (heap r F xs h.1) ∙ plain (F r) (sum_over xs (λ x. pos 1))
  where
    plain : (z k : ℤ) → z +ℤ k *ℤ z ≡ (pos 1 +ℤ k) *ℤ z
    plain z k = simp products

every : (xs : List ℕ) → AllByRecursion (λ x. Unit {0}) xs
every [] = tt
every (x ∷ xs) = (tt, every xs)

-- the number of times that the list contains the line
abbrev times : ℕ → List ℕ → ℤ
times r xs = sum_over (kept (hit r) itself xs) (λ x. pos 1)

abbrev rest : ℕ → List ℕ → List ℕ
rest r xs = kept (other (hit r)) itself xs

split : (r : ℕ) (F : ℕ → ℤ) (xs : List ℕ) → sum_over xs F ≡ times r xs *ℤ F r +ℤ sum_over (rest r xs) F
split r F xs = line (λ x. Unit {0}) (hit r) itself itself F F F (λ x _ _. refl) (λ x _ _. refl) xs (every xs)
    ∙ ap (λ (z : ℤ). z +ℤ sum_over (rest r xs) F) (heap r F (kept (hit r) itself xs) (all_kept (λ x. Unit {0}) (λ x. x ≡ r) (hit r) itself (λ x _ e. eq_of x r e) xs (every xs)))

-- the list does not contain the line, or the line has the property that all lines of the list have
some : (P : ℕ → Type 0) (r : ℕ) (xs : List ℕ) → AllByRecursion P xs → (times r xs ≡ pos 0) ⊎ P r
some P r [] h = inl refl
some P r (x ∷ xs) h = go (nat_eq x r) refl (some P r xs h.1)
  where
    go : (t : Bool) → nat_eq x r ≡ t → (times r xs ≡ pos 0) ⊎ P r → (sum_over (cond t (x ∷ kept (hit r) itself xs) (kept (hit r) itself xs)) (λ y. pos 1) ≡ pos 0) ⊎ P r
    go true e k = inr (subst P (eq_of x r e) h.0)
    go false e k = k

all_rest : (P : ℕ → Type 0) (r : ℕ) (xs : List ℕ) → AllByRecursion P xs → AllByRecursion (But P r) (rest r xs)
all_rest P r xs h = all_other P (But P r) (hit r) itself (λ x p e. (p, ne_of x r e)) xs h

sum_zero : (P : ℕ → Type 0) (F : ℕ → ℤ) (xs : List ℕ) → ((x : ℕ) → P x → F x ≡ pos 0) → AllByRecursion P xs → sum_over xs F ≡ pos 0
sum_zero P F xs e h = same_over xs P F (λ x. pos 0) e h ∙ sum_over-zero xs

-- x is y plus a multiple of 0
drop_zero : (x k z y : ℤ) → x ≡ k *ℤ z +ℤ y → z ≡ pos 0 → y ≡ x
drop_zero x k z y e f = plain x (k *ℤ z) y e (ap (λ (w : ℤ). k *ℤ w) f ∙ none k)
  where
    none : (k : ℤ) → k *ℤ pos 0 ≡ pos 0
    none k = simp products

    plain : (x m y : ℤ) → x ≡ m +ℤ y → m ≡ pos 0 → y ≡ x
    plain x m y e f = omega (arith, sums)

drop_none : (x k z y : ℤ) → x ≡ k *ℤ z +ℤ y → k ≡ pos 0 → y ≡ x
drop_none x k z y e f = plain x (k *ℤ z) y e (ap (λ (w : ℤ). w *ℤ z) f ∙ none z)
  where
    none : (z : ℤ) → pos 0 *ℤ z ≡ pos 0
    none z = simp products

    plain : (x m y : ℤ) → x ≡ m +ℤ y → m ≡ pos 0 → y ≡ x
    plain x m y e f = omega (arith, sums)

drop_even : (x k z y : ℤ) → x ≡ k *ℤ z +ℤ y → IsEven k → IsEven x → IsEven y
drop_even x k z y e (l, f) (m, g) = (m -ℤ l *ℤ z, plain x (k *ℤ z) (l *ℤ z) y m e (ap (λ (w : ℤ). w *ℤ z) f ∙ twice l z) g)
  where
    twice : (l z : ℤ) → (l +ℤ l) *ℤ z ≡ l *ℤ z +ℤ l *ℤ z
    twice l z = simp products

    plain : (x p q y m : ℤ) → x ≡ p +ℤ y → p ≡ q +ℤ q → x ≡ m +ℤ m → y ≡ (m -ℤ q) +ℤ (m -ℤ q)
    plain x p q y m e f g = omega (arith, sums)

module _ (M : ℕ → ℕ → ℤ) (P Q : ℕ → Type 0) (r : ℕ) where
  -- row r adds 0 to all sums
  without_row : (v : ViolatedIn M P Q) → ((c : ℕ) → Q c → sum_over (rest r v.R) (λ x. M x c) ≡ sum_over v.R (λ x. M x c))
      → sum_over (rest r v.R) (λ x. sum_over v.C (λ c. M x c)) ≡ sum_over v.R (λ x. sum_over v.C (λ c. M x c)) → ViolatedIn M (But P r) Q
  without_row v column whole = record {
    R = rest r v.R;
    C = v.C;
    rows = all_rest P r v.R v.rows;
    columns = v.columns;
    violator = record {
      even_rows = all_other (λ x. IsEven (sum_over v.C (λ c. M x c))) (λ x. IsEven (sum_over v.C (λ c. M x c))) (hit r) itself (λ x h _. h) v.R v.violator.even_rows;
      even_columns = all_weaker (λ c. Q c × IsEven (sum_over v.R (λ x. M x c))) (λ c. IsEven (sum_over (rest r v.R) (λ x. M x c))) (λ c h. subst IsEven (sym (column c h.0)) h.1) v.C
          (all_pairs Q (λ c. IsEven (sum_over v.R (λ x. M x c))) v.C v.columns v.violator.even_columns);
      two_mod_four = subst IsTwoModFour (sym whole) v.violator.two_mod_four;
    };
  }

  pub zero_row : IsZeroRow M Q r → ViolatedIn M P Q → ViolatedIn M (But P r) Q
  zero_row z v = without_row v (λ c q. drop_zero (sum_over v.R (λ x. M x c)) (times r v.R) (M r c) (sum_over (rest r v.R) (λ x. M x c)) (split r (λ x. M x c) v.R) (z c q))
      (drop_zero (sum_over v.R (λ x. sum_over v.C (λ c. M x c))) (times r v.R) (sum_over v.C (λ c. M r c)) (sum_over (rest r v.R) (λ x. sum_over v.C (λ c. M x c))) (split r (λ x. sum_over v.C (λ c. M x c)) v.R)
      (sum_zero Q (λ c. M r c) v.C z v.columns))

  pub unit_row : IsUnitRow M Q r → ViolatedIn M P Q → ViolatedIn M (But P r) Q
  unit_row (b, q, unit, z) v = go (some (λ x. IsEven (sum_over v.C (λ c. M x c))) r v.R v.violator.even_rows)
    where
      R' : List ℕ
      R' = rest r v.R

      row_r : sum_over v.C (λ c. M r c) ≡ times b v.C *ℤ M r b
      row_r = split b (λ c. M r c) v.C ∙ plain (times b v.C *ℤ M r b) (sum_over (rest b v.C) (λ c. M r c)) (sum_zero (But Q b) (λ c. M r c) (rest b v.C) (λ c h. z c h.0 h.1) (all_rest Q b v.C v.columns))
        where
          plain : (m n : ℤ) → n ≡ pos 0 → m +ℤ n ≡ m
          plain m n e = omega (arith, sums)

      even_count : IsEven (sum_over v.C (λ c. M r c)) → IsEven (times b v.C)
      even_count h = elim unit [
        | inl e ↦ subst IsEven (row_r ∙ (ap (λ (w : ℤ). times b v.C *ℤ w) e ∙ once (times b v.C))) h
        | inr e ↦ back (times b v.C) (subst IsEven (row_r ∙ (ap (λ (w : ℤ). times b v.C *ℤ w) e ∙ minus (times b v.C))) h)
      ]
        where
          once : (w : ℤ) → w *ℤ pos 1 ≡ w
          once w = simp products

          minus : (w : ℤ) → w *ℤ negsuc 0 ≡ neg_ℤ w
          minus w = simp products

          back : (w : ℤ) → IsEven (neg_ℤ w) → IsEven w
          back w (k, e) = (neg_ℤ k, omega (arith, sums))

      whole : sum_over v.R (λ x. sum_over v.C (λ c. M x c)) ≡ times b v.C *ℤ sum_over v.R (λ x. M x b) +ℤ sum_over (rest r v.R) (λ x. sum_over (rest b v.C) (λ c. M x c))
      whole =
          let sum : sum_over (rest r v.R) (λ x. sum_over v.C (λ c. M x c)) ≡ times b v.C *ℤ sum_over (rest r v.R) (λ x. M x b) +ℤ sum_over (rest r v.R) (λ x. sum_over (rest b v.C) (λ c. M x c)) =
          same_over (rest r v.R) (λ x. Unit {0}) (λ x. sum_over v.C (λ c. M x c)) (λ x. times b v.C *ℤ M x b +ℤ sum_over (rest b v.C) (λ c. M x c)) (λ x _. split b (λ c. M x c) v.C) (every (rest r v.R))
          ∙ (sum_over-add (rest r v.R) (λ x. times b v.C *ℤ M x b) (λ x. sum_over (rest b v.C) (λ c. M x c)) ∙ ap (λ (w : ℤ). w +ℤ sum_over (rest r v.R) (λ x. sum_over (rest b v.C) (λ c. M x c))) (sum_over-scale (rest r v.R) (times b v.C) (λ x. M x b))) in
          split r (λ x. sum_over v.C (λ c. M x c)) v.R
          ∙ (ap₂ (λ (m n : ℤ). times r v.R *ℤ m +ℤ n) row_r sum
          ∙ (plain (times r v.R) (times b v.C) (M r b) (sum_over (rest r v.R) (λ x. M x b)) (sum_over (rest r v.R) (λ x. sum_over (rest b v.C) (λ c. M x c)))
          ∙ ap (λ (m : ℤ). times b v.C *ℤ m +ℤ sum_over (rest r v.R) (λ x. sum_over (rest b v.C) (λ c. M x c))) (sym (split r (λ x. M x b) v.R))))
        where
          plain : (k l u a t : ℤ) → k *ℤ (l *ℤ u) +ℤ (l *ℤ a +ℤ t) ≡ l *ℤ (k *ℤ u +ℤ a) +ℤ t
          plain k l u a t = simp products (omega (arith, sums))

      four : IsEven (times b v.C) → (times b v.C ≡ pos 0) ⊎ IsEven (sum_over v.R (λ x. M x b)) → IsFour (times b v.C *ℤ sum_over v.R (λ x. M x b))
      four h (inl e) = (pos 0, ap (λ (w : ℤ). w *ℤ sum_over v.R (λ x. M x b)) e ∙ none (sum_over v.R (λ x. M x b)))
        where
          none : (w : ℤ) → pos 0 *ℤ w ≡ pos 0
          none w = simp products
      four h (inr k) = four-mul_evens (times b v.C) (sum_over v.R (λ x. M x b)) h k

      less_four : (x m y : ℤ) → x ≡ m +ℤ y → IsFour m → IsTwoModFour x → IsTwoModFour y
      less_four x m y e (k, f) (l, g) = (l -ℤ k, omega (arith, sums))

      go : (times r v.R ≡ pos 0) ⊎ IsEven (sum_over v.C (λ c. M r c)) → ViolatedIn M (But P r) Q
      go (inl e) = without_row v (λ c _. drop_none (sum_over v.R (λ x. M x c)) (times r v.R) (M r c) (sum_over (rest r v.R) (λ x. M x c)) (split r (λ x. M x c) v.R) e)
          (drop_none (sum_over v.R (λ x. sum_over v.C (λ c. M x c))) (times r v.R) (sum_over v.C (λ c. M r c)) (sum_over (rest r v.R) (λ x. sum_over v.C (λ c. M x c))) (split r (λ x. sum_over v.C (λ c. M x c)) v.R) e)
      go (inr h) = record {
        R = rest r v.R;
        C = rest b v.C;
        rows = all_rest P r v.R v.rows;
        columns = all_other Q Q (hit b) itself (λ c q _. q) v.C v.columns;
        violator = record {
          even_rows = all_other (λ x. IsEven (sum_over v.C (λ c. M x c))) (λ x. IsEven (sum_over (rest b v.C) (λ c. M x c))) (hit r) itself
              (λ x k _. drop_even (sum_over v.C (λ c. M x c)) (times b v.C) (M x b) (sum_over (rest b v.C) (λ c. M x c)) (split b (λ c. M x c) v.C) (even_count h) k) v.R v.violator.even_rows;
          even_columns = all_other (λ c. Q c × IsEven (sum_over v.R (λ x. M x c))) (λ c. IsEven (sum_over (rest r v.R) (λ x. M x c))) (hit b) itself
              (λ c k e. subst IsEven (sym (drop_zero (sum_over v.R (λ x. M x c)) (times r v.R) (M r c) (sum_over (rest r v.R) (λ x. M x c)) (split r (λ x. M x c) v.R) (z c k.0 (ne_of c b e)))) k.1) v.C
              (all_pairs Q (λ c. IsEven (sum_over v.R (λ x. M x c))) v.C v.columns v.violator.even_columns);
          two_mod_four = less_four (sum_over v.R (λ x. sum_over v.C (λ c. M x c))) (times b v.C *ℤ sum_over v.R (λ x. M x b)) (sum_over (rest r v.R) (λ x. sum_over (rest b v.C) (λ c. M x c))) whole
              (four (even_count h) (some (λ c. IsEven (sum_over v.R (λ x. M x c))) b v.C v.violator.even_columns)) v.violator.two_mod_four;
        };
      }

  pub reducible_row : IsReducibleRow M P Q r → ViolatedIn M P Q → ViolatedIn M (But P r) Q
  reducible_row (inl h) = zero_row h
  reducible_row (inr (inl h)) = unit_row h
  reducible_row (inr (inr (inl h))) = copy_row M P Q r h
  reducible_row (inr (inr (inr h))) = negative_row M P Q r h

-- ---- the law

turn : (M : ℕ → ℕ → ℤ) (P Q : ℕ → Type 0) → ViolatedIn M P Q → ViolatedIn (crossed M) Q P
turn M P Q v = record { R = v.C; C = v.R; rows = v.columns; columns = v.rows; violator = violator-transposed M v.R v.C v.violator }

pub reduce_row : (M : ℕ → ℕ → ℤ) (P Q : ℕ → Type 0) (r : ℕ) → IsReducibleRow M P Q r → (FreeIn M P Q → FreeIn M (But P r) Q) × (FreeIn M (But P r) Q → FreeIn M P Q)
reduce_row M P Q r h = (narrower M P Q (But P r) Q (λ x k. k.0) (λ x k. k), λ free v. free (reducible_row M P Q r h v))

pub reduce_column : (M : ℕ → ℕ → ℤ) (P Q : ℕ → Type 0) (c : ℕ) → IsReducibleRow (crossed M) Q P c → (FreeIn M P Q → FreeIn M P (But Q c)) × (FreeIn M P (But Q c) → FreeIn M P Q)
reduce_column M P Q c h = (narrower M P Q P (But Q c) (λ x k. k) (λ x k. k.0), λ free v. free (turn (crossed M) (But Q c) P (reducible_row (crossed M) Q P c h (turn M P Q v))))
