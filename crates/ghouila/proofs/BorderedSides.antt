-- A grown side is a violator of a child, which contains the added lines up to their signs.
use Rattle.std.proofs.Common.{ℕ, ℤ, pos, negsuc, Bool, true, false, List, [], ◌∷◌, ◌≡◌, ◌+ℤ◌, ◌*ℤ◌, ◌-ℤ◌, neg_ℤ, ◌∙◌, sym, ap, ap₂, refl, arith, subst, ◌⊎◌, inl, inr}
use Rattle.std.specs.List.{AllByRecursion}
use Rattle.cmr_base.specs.Sums.{sum_over, IsEven, IsTwoModFour}
use Rattle.cmr_base.specs.Signing.{IsSign}
use Rattle.ghouila.proofs.ViolatedLines.{ViolatedIn}
use Rattle.cmr_base.proofs.Integers.{sums, products}
use Rattle.cmr_base.proofs.SumLaws.{sum_over-add, sum_over-scale}
use Rattle.ghouila.proofs.CountedSides.{grown, Lines}
use Rattle.cmr_base.proofs.Lists.{all_weaker}
use Rattle.ghouila.proofs.BlockViolators.{all_pairs}

-- a row that continues as c and a column that continues as a, up to their signs; w is the entry at their crossing
pub record Edge (M : ℕ → ℕ → ℤ) (P Q S T : ℕ → Type 0) (a c : ℕ → ℤ) (w : ℤ) (s t : Bool) : Type 0 where
  pub row : ℕ
  pub column : ℕ
  pub row_sign : ℤ
  pub column_sign : ℤ
  pub row_unit : IsSign row_sign
  pub column_unit : IsSign column_sign
  pub in_row : s ≡ true → P row
  pub in_column : t ≡ true → Q column
  pub left : s ≡ true → (z : ℕ) → T z → M row z ≡ row_sign *ℤ c z
  pub top : t ≡ true → (r : ℕ) → S r → M r column ≡ column_sign *ℤ a r
  pub corner : s ≡ true → t ≡ true → M row column ≡ row_sign *ℤ (column_sign *ℤ w)

-- ---- arithmetic

pub unit_times : (u z : ℤ) → IsSign u → (u *ℤ z ≡ z) ⊎ (u *ℤ z ≡ neg_ℤ z)
unit_times u z (inl e) = inl (rw e (simp products))
unit_times u z (inr e) = inr (rw e (simp products))

line_even : (m u a y : ℤ) → IsSign u → m ≡ u *ℤ a → IsEven (y +ℤ a) → IsEven (m +ℤ y)
line_even m u a y unit e h = elim (unit_times u a unit) [
  | inl f ↦ plus m (u *ℤ a) a y e f h
  | inr f ↦ minus m (u *ℤ a) a y e f h
]
  where
    plus : (m p a y : ℤ) → m ≡ p → p ≡ a → IsEven (y +ℤ a) → IsEven (m +ℤ y)
    plus m p a y e f (k, g) = (k, omega (arith, sums))

    minus : (m p a y : ℤ) → m ≡ p → p ≡ neg_ℤ a → IsEven (y +ℤ a) → IsEven (m +ℤ y)
    minus m p a y e f (k, g) = (k -ℤ a, omega (arith, sums))

no_more : (y : ℤ) → IsEven (y +ℤ pos 0) → IsEven y
no_more y (k, e) = (k, omega (arith, sums))

two_none : (n : ℤ) → IsTwoModFour ((n +ℤ pos 0) +ℤ pos 0) → IsTwoModFour n
two_none n (k, e) = (k, omega (arith, sums))

two_row : (n g u : ℤ) → IsSign u → IsEven (g +ℤ pos 0) → IsTwoModFour ((n +ℤ pos 0) +ℤ (g +ℤ pos 0)) → IsTwoModFour (u *ℤ g +ℤ n)
two_row n g u unit h two = elim (unit_times u g unit) [
  | inl f ↦ plus n g (u *ℤ g) f two
  | inr f ↦ minus n g (u *ℤ g) f h two
]
  where
    plus : (n g p : ℤ) → p ≡ g → IsTwoModFour ((n +ℤ pos 0) +ℤ (g +ℤ pos 0)) → IsTwoModFour (p +ℤ n)
    plus n g p e (k, f) = (k, omega (arith, sums))

    minus : (n g p : ℤ) → p ≡ neg_ℤ g → IsEven (g +ℤ pos 0) → IsTwoModFour ((n +ℤ pos 0) +ℤ (g +ℤ pos 0)) → IsTwoModFour (p +ℤ n)
    minus n g p e (l, h) (k, f) = (k -ℤ l, omega (arith, sums))

two_column : (n a u : ℤ) → IsSign u → IsEven (a +ℤ pos 0) → IsTwoModFour ((n +ℤ a) +ℤ pos 0) → IsTwoModFour (u *ℤ a +ℤ n)
two_column n a u unit h two = two_row n a u unit h (move n a two)
  where
    move : (n a : ℤ) → IsTwoModFour ((n +ℤ a) +ℤ pos 0) → IsTwoModFour ((n +ℤ pos 0) +ℤ (a +ℤ pos 0))
    move n a (k, e) = (k, omega (arith, sums))

two_both : (n a g w u v : ℤ) → IsSign u → IsSign v → IsEven (g +ℤ w) → IsEven (a +ℤ w) → IsTwoModFour ((n +ℤ a) +ℤ (g +ℤ w)) → IsTwoModFour ((u *ℤ (v *ℤ w) +ℤ u *ℤ g) +ℤ (v *ℤ a +ℤ n))
two_both n a g w u v (inl e) (inl f) (h, i) (k, j) (m, o) = (m, (rw (e, f) (simp products)) ∙ plain n a g w m o)
  where
    plain : (n a g w m : ℤ) → (n +ℤ a) +ℤ (g +ℤ w) ≡ pos 2 +ℤ ((m +ℤ m) +ℤ (m +ℤ m)) → (w +ℤ g) +ℤ (a +ℤ n) ≡ pos 2 +ℤ ((m +ℤ m) +ℤ (m +ℤ m))
    plain n a g w m o = omega (arith, sums)
two_both n a g w u v (inl e) (inr f) (h, i) (k, j) (m, o) = (m -ℤ k, same u v n a g w e f ∙ plain n a g w k m j o)
  where
    same : (u v n a g w : ℤ) → u ≡ pos 1 → v ≡ negsuc 0 → (u *ℤ (v *ℤ w) +ℤ u *ℤ g) +ℤ (v *ℤ a +ℤ n) ≡ (neg_ℤ w +ℤ g) +ℤ (neg_ℤ a +ℤ n)
    same u v n a g w e f = rw (e, f) (simp products)

    plain : (n a g w k m : ℤ) → a +ℤ w ≡ k +ℤ k → (n +ℤ a) +ℤ (g +ℤ w) ≡ pos 2 +ℤ ((m +ℤ m) +ℤ (m +ℤ m))
        → (neg_ℤ w +ℤ g) +ℤ (neg_ℤ a +ℤ n) ≡ pos 2 +ℤ (((m -ℤ k) +ℤ (m -ℤ k)) +ℤ ((m -ℤ k) +ℤ (m -ℤ k)))
    plain n a g w k m j o = omega (arith, sums)
two_both n a g w u v (inr e) (inl f) (h, i) (k, j) (m, o) = (m -ℤ h, same u v n a g w e f ∙ plain n a g w h m i o)
  where
    same : (u v n a g w : ℤ) → u ≡ negsuc 0 → v ≡ pos 1 → (u *ℤ (v *ℤ w) +ℤ u *ℤ g) +ℤ (v *ℤ a +ℤ n) ≡ (neg_ℤ w +ℤ neg_ℤ g) +ℤ (a +ℤ n)
    same u v n a g w e f = rw (e, f) (simp products)

    plain : (n a g w h m : ℤ) → g +ℤ w ≡ h +ℤ h → (n +ℤ a) +ℤ (g +ℤ w) ≡ pos 2 +ℤ ((m +ℤ m) +ℤ (m +ℤ m))
        → (neg_ℤ w +ℤ neg_ℤ g) +ℤ (a +ℤ n) ≡ pos 2 +ℤ (((m -ℤ h) +ℤ (m -ℤ h)) +ℤ ((m -ℤ h) +ℤ (m -ℤ h)))
    plain n a g w h m i o = omega (arith, sums)
two_both n a g w u v (inr e) (inr f) (h, i) (k, j) (m, o) = (((m -ℤ h) -ℤ k) +ℤ w, same u v n a g w e f ∙ plain n a g w h k (((m -ℤ h) -ℤ k) +ℤ w) m i j o refl)
  where
    same : (u v n a g w : ℤ) → u ≡ negsuc 0 → v ≡ negsuc 0 → (u *ℤ (v *ℤ w) +ℤ u *ℤ g) +ℤ (v *ℤ a +ℤ n) ≡ (w +ℤ neg_ℤ g) +ℤ (neg_ℤ a +ℤ n)
    same u v n a g w e f = rw (e, f) (simp products (omega (arith, sums)))

    plain : (n a g w h k q m : ℤ) → g +ℤ w ≡ h +ℤ h → a +ℤ w ≡ k +ℤ k → (n +ℤ a) +ℤ (g +ℤ w) ≡ pos 2 +ℤ ((m +ℤ m) +ℤ (m +ℤ m)) → q ≡ ((m -ℤ h) -ℤ k) +ℤ w
        → (w +ℤ neg_ℤ g) +ℤ (neg_ℤ a +ℤ n) ≡ pos 2 +ℤ ((q +ℤ q) +ℤ (q +ℤ q))
    plain n a g w h k q m i j o p = omega (arith, sums)

pub same_over : (xs : List ℕ) (P : ℕ → Type 0) (f g : ℕ → ℤ) → ((x : ℕ) → P x → f x ≡ g x) → AllByRecursion P xs → sum_over xs f ≡ sum_over xs g
same_over [] P f g e h = refl
same_over (x ∷ xs) P f g e h = rw (e x h.0, same_over xs P f g e h.1) refl

even_times : (m u a : ℤ) → IsSign u → m ≡ u *ℤ a → IsEven (a +ℤ pos 0) → IsEven m
even_times m u a unit e h = elim (unit_times u a unit) [
  | inl f ↦ plus m (u *ℤ a) a e f h
  | inr f ↦ minus m (u *ℤ a) a e f h
]
  where
    plus : (m p a : ℤ) → m ≡ p → p ≡ a → IsEven (a +ℤ pos 0) → IsEven m
    plus m p a e f (k, g) = (k, omega (arith, sums))

    minus : (m p a : ℤ) → m ≡ p → p ≡ neg_ℤ a → IsEven (a +ℤ pos 0) → IsEven m
    minus m p a e f (k, g) = (neg_ℤ k, omega (arith, sums))

unit_twice : (u v z : ℤ) → IsSign u → IsSign v → (u *ℤ (v *ℤ z) ≡ z) ⊎ (u *ℤ (v *ℤ z) ≡ neg_ℤ z)
unit_twice u v z (inl e) (inl f) = inl (rw (e, f) (simp products))
unit_twice u v z (inl e) (inr f) = inr (rw (e, f) (simp products))
unit_twice u v z (inr e) (inl f) = inr (rw (e, f) (simp products))
unit_twice u v z (inr e) (inr f) = inl (rw (e, f) (simp products (omega (arith, sums))))

cross_even : (x y t u v g w : ℤ) → IsSign t → IsSign u → IsSign v → x ≡ u *ℤ (v *ℤ w) → y ≡ t *ℤ g → IsEven (g +ℤ w) → IsEven (x +ℤ y)
cross_even x y t u v g w tnit unit vnit e f h = go (unit_twice u v w unit vnit) (unit_times t g tnit) h
  where
    go : (u *ℤ (v *ℤ w) ≡ w) ⊎ (u *ℤ (v *ℤ w) ≡ neg_ℤ w) → (t *ℤ g ≡ g) ⊎ (t *ℤ g ≡ neg_ℤ g) → IsEven (g +ℤ w) → IsEven (x +ℤ y)
    go (inl i) (inl j) (k, l) = (k, omega (arith, sums))
    go (inl i) (inr j) (k, l) = (w -ℤ k, omega (arith, sums))
    go (inr i) (inl j) (k, l) = (k -ℤ w, omega (arith, sums))
    go (inr i) (inr j) (k, l) = (neg_ℤ k, omega (arith, sums))

-- ---- the violator

module _ (M : ℕ → ℕ → ℤ) (P Q S T : ℕ → Type 0) (R C : List ℕ) (a c : ℕ → ℤ) (w : ℤ) (rows : AllByRecursion S R) (columns : AllByRecursion T C) (inr_ : (r : ℕ) → S r → P r) (inc : (z : ℕ) → T z → Q z) where
  pub violated : (s t : Bool) → Edge M P Q S T a c w s t → Lines M R C a c w s t
      → IsTwoModFour (grown (sum_over R (λ r. sum_over C (λ z. M r z))) (sum_over R a) (sum_over C c) w s t) → ViolatedIn M P Q
  violated false false e l two = record {
    R = R;
    C = C;
    rows = all_weaker S P inr_ R rows;
    columns = all_weaker T Q inc C columns;
    violator = record {
      even_rows = all_weaker (λ r. IsEven (sum_over C (λ z. M r z) +ℤ pos 0)) (λ r. IsEven (sum_over C (λ z. M r z))) (λ r h. no_more (sum_over C (λ z. M r z)) h) R l.rows;
      even_columns = all_weaker (λ z. IsEven (sum_over R (λ r. M r z) +ℤ pos 0)) (λ z. IsEven (sum_over R (λ r. M r z))) (λ z h. no_more (sum_over R (λ r. M r z)) h) C l.columns;
      two_mod_four = two_none (sum_over R (λ r. sum_over C (λ z. M r z))) two;
    };
  }
  violated true false e l two =
      let sum : sum_over C (λ z. M e.row z) ≡ e.row_sign *ℤ sum_over C c = same_over C T (λ z. M e.row z) (λ z. e.row_sign *ℤ c z) (e.left refl) columns ∙ sum_over-scale C e.row_sign c in
      record {
        R = e.row ∷ R;
        C = C;
        rows = (e.in_row refl, all_weaker S P inr_ R rows);
        columns = all_weaker T Q inc C columns;
        violator = record {
          even_rows = (even_times (sum_over C (λ z. M e.row z)) e.row_sign (sum_over C c) e.row_unit sum (l.row refl), all_weaker (λ r. IsEven (sum_over C (λ z. M r z) +ℤ pos 0)) (λ r. IsEven (sum_over C (λ z. M r z))) (λ r h. no_more (sum_over C (λ z. M r z)) h) R l.rows);
          even_columns = all_weaker (λ z. T z × IsEven (sum_over R (λ r. M r z) +ℤ c z)) (λ z. IsEven (M e.row z +ℤ sum_over R (λ r. M r z)))
              (λ z h. line_even (M e.row z) e.row_sign (c z) (sum_over R (λ r. M r z)) e.row_unit (e.left refl z h.0) h.1) C (all_pairs T (λ z. IsEven (sum_over R (λ r. M r z) +ℤ c z)) C columns l.columns);
          two_mod_four = rw sum (two_row (sum_over R (λ r. sum_over C (λ z. M r z))) (sum_over C c) e.row_sign e.row_unit (l.row refl) two);
        };
      }
  violated false true e l two =
      let sum : sum_over R (λ r. M r e.column) ≡ e.column_sign *ℤ sum_over R a = same_over R S (λ r. M r e.column) (λ r. e.column_sign *ℤ a r) (e.top refl) rows ∙ sum_over-scale R e.column_sign a in
      record {
        R = R;
        C = e.column ∷ C;
        rows = all_weaker S P inr_ R rows;
        columns = (e.in_column refl, all_weaker T Q inc C columns);
        violator = record {
          even_rows = all_weaker (λ r. S r × IsEven (sum_over C (λ z. M r z) +ℤ a r)) (λ r. IsEven (M r e.column +ℤ sum_over C (λ z. M r z)))
              (λ r h. line_even (M r e.column) e.column_sign (a r) (sum_over C (λ z. M r z)) e.column_unit (e.top refl r h.0) h.1) R (all_pairs S (λ r. IsEven (sum_over C (λ z. M r z) +ℤ a r)) R rows l.rows);
          even_columns = (
            even_times (sum_over R (λ r. M r e.column)) e.column_sign (sum_over R a) e.column_unit sum (l.column refl),
            all_weaker (λ z. IsEven (sum_over R (λ r. M r z) +ℤ pos 0)) (λ z. IsEven (sum_over R (λ r. M r z))) (λ z h. no_more (sum_over R (λ r. M r z)) h) C l.columns,
          );
          two_mod_four = subst IsTwoModFour (sym (sum_over-add R (λ r. M r e.column) (λ r. sum_over C (λ z. M r z)) ∙ ap (λ (n : ℤ). n +ℤ sum_over R (λ r. sum_over C (λ z. M r z))) sum))
              (two_column (sum_over R (λ r. sum_over C (λ z. M r z))) (sum_over R a) e.column_sign e.column_unit (l.column refl) two);
        };
      }
  violated true true e l two =
      let across : sum_over C (λ z. M e.row z) ≡ e.row_sign *ℤ sum_over C c = same_over C T (λ z. M e.row z) (λ z. e.row_sign *ℤ c z) (e.left refl) columns ∙ sum_over-scale C e.row_sign c in
      let sum : sum_over R (λ r. M r e.column) ≡ e.column_sign *ℤ sum_over R a = same_over R S (λ r. M r e.column) (λ r. e.column_sign *ℤ a r) (e.top refl) rows ∙ sum_over-scale R e.column_sign a in
      record {
        R = e.row ∷ R;
        C = e.column ∷ C;
        rows = (e.in_row refl, all_weaker S P inr_ R rows);
        columns = (e.in_column refl, all_weaker T Q inc C columns);
        violator = record {
          even_rows = (
            cross_even (M e.row e.column) (sum_over C (λ z. M e.row z)) e.row_sign e.row_sign e.column_sign (sum_over C c) w e.row_unit e.row_unit e.column_unit (e.corner refl refl) across (l.row refl),
            all_weaker (λ r. S r × IsEven (sum_over C (λ z. M r z) +ℤ a r)) (λ r. IsEven (M r e.column +ℤ sum_over C (λ z. M r z)))
                (λ r h. line_even (M r e.column) e.column_sign (a r) (sum_over C (λ z. M r z)) e.column_unit (e.top refl r h.0) h.1) R (all_pairs S (λ r. IsEven (sum_over C (λ z. M r z) +ℤ a r)) R rows l.rows),
          );
          even_columns = (
            cross_even (M e.row e.column) (sum_over R (λ r. M r e.column)) e.column_sign e.row_sign e.column_sign (sum_over R a) w e.column_unit e.row_unit e.column_unit (e.corner refl refl) sum (l.column refl),
            all_weaker (λ z. T z × IsEven (sum_over R (λ r. M r z) +ℤ c z)) (λ z. IsEven (M e.row z +ℤ sum_over R (λ r. M r z)))
                (λ z h. line_even (M e.row z) e.row_sign (c z) (sum_over R (λ r. M r z)) e.row_unit (e.left refl z h.0) h.1) C (all_pairs T (λ z. IsEven (sum_over R (λ r. M r z) +ℤ c z)) C columns l.columns),
          );
          two_mod_four = subst IsTwoModFour (sym (ap₂ (λ (m n : ℤ). m +ℤ n) (ap₂ (λ (m n : ℤ). m +ℤ n) (e.corner refl refl) across)
              (sum_over-add R (λ r. M r e.column) (λ r. sum_over C (λ z. M r z)) ∙ ap (λ (n : ℤ). n +ℤ sum_over R (λ r. sum_over C (λ z. M r z))) sum)))
              (two_both (sum_over R (λ r. sum_over C (λ z. M r z))) (sum_over R a) (sum_over C c) w e.row_sign e.column_sign e.row_unit e.column_unit (l.row refl) (l.column refl) two);
        };
      }
