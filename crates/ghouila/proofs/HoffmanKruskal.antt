-- The theorem of Hoffman and Kruskal: if all vertices are integral, each square submatrix has the determinant -1, 0 or 1.
use Rattle.std.proofs.Common.{◌≡◌, ◌≢◌, ◌<◌, ◌≤◌, ◌+◌, inl, inr, ◌∙◌, ℕ, zero, suc, ℤ, pos, neg_ℤ, ◌+ℤ◌, ◌*ℤ◌, ◌-ℤ◌, ◌≤ℤ◌, ◌<ℤ◌, List, [], ◌∷◌, length, refl, ap, sym, subst, arith}
use Rattle.std.specs.List.{AllByRecursion, range_with_len}
use Rattle.cmr_base.specs.Matrix.{Matrix, height, entry, IsEntry}
use Rattle.cmr_base.specs.LineSets.{first_lines}
use Rattle.cmr_base.specs.Members.{IsIn}
use Rattle.cmr_base.specs.Sums.{sum_over}
use Rattle.cmr_base.specs.Determinants.{HasUnimodularMinors}
use Rattle.cmr_base.proofs.Integers.{sums, products}
use Rattle.cmr_base.proofs.SumLaws.{sum_over-add, sum_over-sub, sum_over-scale, sum_over_same}
use Rattle.cmr_base.proofs.Lists.{all_of}
use Rattle.cmr_base.proofs.Members.{all_in, all_of_members}
use Rattle.cmr_base.proofs.IncreasingLists.{IncreasesIn, increases-range, increasing_below, increasing_apart, row_set_increases, column_set_increases}
use Rattle.cmr_base.proofs.RowLists.{same_or_not, in_or_not}
use Rattle.ghouila.specs.IntegralLaws.{IsMultiple, row_value, IsFeasible, IsMidpoint, IsVertex, HasIntegralVertices, HoffmanKruskalEquivalence}
use Rattle.ghouila.proofs.Expansions.{determinant_is, minor}
use Rattle.ghouila.proofs.Sublists.{sublist_increases}
use Rattle.ghouila.proofs.DeterminantLaw.{ghouila_houri}
use Rattle.ghouila.proofs.Vertices.{HasBound, has_bound, size, size_bounds, product_not_below, multiple_at_least, integral_vertices}
use Rattle.ghouila.proofs.Fractions.{no_product, HasFraction, entry_or_fraction}

-- the sum over all lines is the sum over a list if the lines outside the list give 0
sum_over_range : (from count : ℕ) (C : List ℕ) (f : ℕ → ℤ) → IncreasesIn from (from + count) C
    → ((j : ℕ) → from ≤ j → j < from + count → (IsIn j C → ⊥) → f j ≡ pos 0) → sum_over (range_with_len from count) f ≡ sum_over C f
sum_over_range from zero [] f increases zeros = refl
sum_over_range from zero (c ∷ C) f increases zeros = absurd (let l = increases.0 in let k = increases.1 in omega arith)
sum_over_range from (suc count) [] f increases zeros = less (f from) (sum_over (range_with_len (from + 1) count) f) (zeros from (omega arith) (omega arith) (λ g. g))
    (sum_over_range (from + 1) count [] f tt (λ j l k n. zeros j (omega arith) (omega arith) n))
  where
    less : (a s : ℤ) → a ≡ pos 0 → s ≡ pos 0 → a +ℤ s ≡ pos 0
    less a s e g = omega (arith, sums)
sum_over_range from (suc count) (c ∷ C) f increases zeros = elim (same_or_not from c) [
  | inl e ↦ both (f from) (f c) (sum_over (range_with_len (from + 1) count) f) (sum_over C f) (ap f e)
      (sum_over_range (from + 1) count C f (higher C (subst (λ k. IncreasesIn (k + 1) (from + suc count) C) (sym e) increases.2))
      (λ j l k n. zeros j (omega arith) (omega arith) (λ g. elim g [ inl h ↦ clash j l (h ∙ sym e) | inr h ↦ n h ])))
  | inr d ↦ less (f from) (sum_over (range_with_len (from + 1) count) f) (f c +ℤ sum_over C f) (zeros from (omega arith) (omega arith) (λ g. all_in (λ x. x ≢ from) (c ∷ C) (increasing_apart (from + 1) (from + suc count) from (c ∷ C) (omega arith) (later d)) from g refl))
      (sum_over_range (from + 1) count (c ∷ C) f (higher (c ∷ C) (later d)) (λ j l k n. zeros j (omega arith) (omega arith) n))
]
  where
    both : (a b s t : ℤ) → a ≡ b → s ≡ t → a +ℤ s ≡ b +ℤ t
    both a b s t e g = omega (arith, sums)

    less : (a s t : ℤ) → a ≡ pos 0 → s ≡ t → a +ℤ s ≡ t
    less a s t e g = omega (arith, sums)

    clash : (j : ℕ) → from + 1 ≤ j → j ≡ from → ⊥
    clash j l e = omega arith

    higher : (D : List ℕ) → IncreasesIn (from + 1) (from + suc count) D → IncreasesIn (from + 1) ((from + 1) + count) D
    higher D h = let e : from + suc count ≡ (from + 1) + count = omega arith in subst (λ k. IncreasesIn (from + 1) k D) e h

    later : from ≢ c → IncreasesIn (from + 1) (from + suc count) (c ∷ C)
    later d = ((let l = increases.0 in omega arith), increases.1, increases.2)

sum_first_lines : (count : ℕ) (C : List ℕ) (f : ℕ → ℤ) → IncreasesIn 0 count C → ((j : ℕ) → j < count → (IsIn j C → ⊥) → f j ≡ pos 0) → sum_over (first_lines count) f ≡ sum_over C f
sum_first_lines count C f increases zeros = sum_over_range 0 count C f (subst (λ k. IncreasesIn 0 k C) e increases) (λ j l k n. zeros j (omega arith) n)
  where
    e : count ≡ 0 + count
    e = omega arith

-- a fractional solution on some rows and columns, moved to a feasible point, is a vertex for some right-hand side
module _ (m : Matrix) (R C : List ℕ) (rows_increase : IncreasesIn 0 (height m) R) (columns_increase : IncreasesIn 0 m.width C) (f : HasFraction (entry m) R C) where
  -- the fractions plus an integer that makes none of them negative
  raise : HasBound m.width f.y
  raise = has_bound m.width f.y

  -- the raised number in these columns, and 0 in the other columns
  record IsRaised (j : ℕ) : Type 0 where
    value : ℤ
    inside : IsIn j C → value ≡ f.y j +ℤ f.d *ℤ raise.bound
    outside : (IsIn j C → ⊥) → value ≡ pos 0

  raised : (j : ℕ) → IsRaised j
  raised j = elim (in_or_not j C) [
    | inl g ↦ record { value = f.y j +ℤ f.d *ℤ raise.bound; inside = λ g'. refl; outside = λ n. absurd (n g) }
    | inr n ↦ record { value = pos 0; inside = λ g. absurd (n g); outside = λ n'. refl }
  ]

  abbrev y : ℕ → ℤ
  y j = (raised j).value

  column_in : (j : ℕ) → IsIn j C → j < m.width
  column_in j g = all_in (λ j. j < m.width) C (increasing_below 0 m.width C columns_increase) j g

  row_in : (i : ℕ) → IsIn i R → i < height m
  row_in i g = all_in (λ i. i < height m) R (increasing_below 0 (height m) R rows_increase) i g

  -- row values of numbers that are 0 outside the columns
  value_is : (i : ℕ) (z : ℕ → ℤ) → ((j : ℕ) → j < m.width → (IsIn j C → ⊥) → z j ≡ pos 0) → row_value m (first_lines m.width) z i ≡ sum_over C (λ j. entry m i j *ℤ z j)
  value_is i z zeros = sum_first_lines m.width C (λ j. entry m i j *ℤ z j) columns_increase (λ j l n. nothing (entry m i j) (z j) (zeros j l n))
    where
      nothing : (a x : ℤ) → x ≡ pos 0 → a *ℤ x ≡ pos 0
      nothing a x e = rw e (simp products)

  raised_value : (i : ℕ) → row_value m (first_lines m.width) y i ≡ sum_over C (λ j. entry m i j *ℤ f.y j) +ℤ f.d *ℤ (raise.bound *ℤ sum_over C (entry m i))
  raised_value i =
      value_is i y (λ j l n. (raised j).outside n)
      ∙ sum_over_same C (λ j. entry m i j *ℤ y j) (λ j. entry m i j *ℤ f.y j +ℤ (f.d *ℤ raise.bound) *ℤ entry m i j)
      (all_of_members (λ j. entry m i j *ℤ y j ≡ entry m i j *ℤ f.y j +ℤ (f.d *ℤ raise.bound) *ℤ entry m i j) C (λ j g. opened (entry m i j) (y j) (f.y j) f.d raise.bound ((raised j).inside g)))
      ∙ sum_over-add C (λ j. entry m i j *ℤ f.y j) (λ j. (f.d *ℤ raise.bound) *ℤ entry m i j)
      ∙ ap (λ s. sum_over C (λ j. entry m i j *ℤ f.y j) +ℤ s) (sum_over-scale C (f.d *ℤ raise.bound) (entry m i) ∙ grouped f.d raise.bound (sum_over C (entry m i)))
    where
      opened : (a x y d n : ℤ) → x ≡ y +ℤ d *ℤ n → a *ℤ x ≡ a *ℤ y +ℤ (d *ℤ n) *ℤ a
      opened a x y d n e = rw e (simp products)

      grouped : (d n s : ℤ) → (d *ℤ n) *ℤ s ≡ d *ℤ (n *ℤ s)
      grouped d n s = simp products

  -- the right-hand side: tight in these rows, and large in the other rows
  record IsBound (i : ℕ) : Type 0 where
    b : ℤ
    above : row_value m (first_lines m.width) y i ≤ℤ (f.d *ℤ b)
    tight : IsIn i R → row_value m (first_lines m.width) y i ≡ f.d *ℤ b

  bound : (i : ℕ) → IsBound i
  bound i = elim (in_or_not i R) [
    | inl g ↦ met (all_in (λ i. IsMultiple f.d (sum_over C (λ j. entry m i j *ℤ f.y j))) R f.solves i g)
    | inr n ↦ record {
      b = size (row_value m (first_lines m.width) y i);
      above = large (row_value m (first_lines m.width) y i);
      tight = λ g. absurd (n g);
    }
  ]
    where
      met : IsMultiple f.d (sum_over C (λ j. entry m i j *ℤ f.y j)) → IsBound i
      met (k, e) = record { b = k +ℤ raise.bound *ℤ sum_over C (entry m i); above = equal_at_most (row_value m (first_lines m.width) y i) (f.d *ℤ (k +ℤ raise.bound *ℤ sum_over C (entry m i))) same; tight = λ g. same }
        where
          plain : (x s t d k : ℤ) → x ≡ s +ℤ d *ℤ t → s ≡ d *ℤ k → x ≡ d *ℤ (k +ℤ t)
          plain x s t d k e f = rw (e, f) (simp products)

          equal_at_most : (x t : ℤ) → x ≡ t → x ≤ℤ t
          equal_at_most x t e = omega (arith, sums)

          same : row_value m (first_lines m.width) y i ≡ f.d *ℤ (k +ℤ raise.bound *ℤ sum_over C (entry m i))
          same = plain (row_value m (first_lines m.width) y i) (sum_over C (λ j. entry m i j *ℤ f.y j)) (raise.bound *ℤ sum_over C (entry m i)) f.d k (raised_value i) e

      large : (x : ℤ) → x ≤ℤ (f.d *ℤ size x)
      large x = go (size x) (size_bounds x).0 (size_bounds x).1
        where
          turned : (d s : ℤ) → d *ℤ s ≡ s +ℤ (d -ℤ pos 1) *ℤ s
          turned d s = simp products (omega (arith, sums))

          go : (s : ℤ) → pos 0 ≤ℤ s → x ≤ℤ s → x ≤ℤ (f.d *ℤ s)
          go s l k = plain (f.d *ℤ s) ((f.d -ℤ pos 1) *ℤ s) (turned f.d s) (product_not_below (f.d -ℤ pos 1) s (let p = f.positive in omega (arith, sums)) l)
            where
              plain : (p q : ℤ) → p ≡ s +ℤ q → pos 0 ≤ℤ q → x ≤ℤ p
              plain p q e l = omega (arith, sums)

  abbrev b : ℕ → ℤ
  b i = (bound i).b

  positive : pos 0 <ℤ f.d
  positive = let p = f.positive in omega (arith, sums)

  feasible : IsFeasible m b y f.d
  feasible = record {
    positive = positive;
    rows = λ i l. (bound i).above;
    columns = λ j l. elim (in_or_not j C) [
      | inl g ↦ inside (y j) (f.y j) (f.d *ℤ raise.bound) raise.bound ((raised j).inside g) (raise.low j l) (least f.d raise.bound f.positive raise.positive)
      | inr n ↦ zero_least (y j) ((raised j).outside n)
    ];
  }
    where
      inside : (x y p n : ℤ) → x ≡ y +ℤ p → neg_ℤ n ≤ℤ y → n ≤ℤ p → pos 0 ≤ℤ x
      inside x y p n e l k = omega (arith, sums)

      zero_least : (x : ℤ) → x ≡ pos 0 → pos 0 ≤ℤ x
      zero_least x e = omega (arith, sums)

      least : (d n : ℤ) → pos 1 ≤ℤ d → pos 1 ≤ℤ n → n ≤ℤ (d *ℤ n)
      least d n l k = subst (λ (p : ℤ). n ≤ℤ p) (turned n d) (multiple_at_least n d (omega (arith, sums)) l)
        where
          turned : (n d : ℤ) → n *ℤ d ≡ d *ℤ n
          turned n d = simp products

  -- two points with this point as their midpoint
  module _ (u v : ℕ → ℤ) (e : ℤ) (p : IsFeasible m b u e) (q : IsFeasible m b v e) (middle : IsMidpoint m.width y f.d u v e) where
    outside : (j : ℕ) → j < m.width → (IsIn j C → ⊥) → u j -ℤ v j ≡ pos 0
    outside j l n = plain (u j) (v j) (no_product f.d (u j +ℤ v j) f.positive (sym (middle j l) ∙ nothing e (y j) ((raised j).outside n))) (p.columns j l) (q.columns j l)
      where
        nothing : (e x : ℤ) → x ≡ pos 0 → pos 2 *ℤ (e *ℤ x) ≡ pos 0
        nothing e x f = rw f (simp products)

        plain : (u v : ℤ) → u +ℤ v ≡ pos 0 → pos 0 ≤ℤ u → pos 0 ≤ℤ v → u -ℤ v ≡ pos 0
        plain u v e l k = omega (arith, sums)

    -- both points satisfy a tight row with equality
    both_values : (i : ℕ) → f.d *ℤ (row_value m (first_lines m.width) u i +ℤ row_value m (first_lines m.width) v i) ≡ pos 2 *ℤ (e *ℤ row_value m (first_lines m.width) y i)
    both_values i = go (first_lines m.width) (increasing_below 0 m.width (first_lines m.width) (increases-range 0 m.width m.width (omega arith)))
      where
        plain : (d e a u v y s t w : ℤ) → pos 2 *ℤ (e *ℤ y) ≡ d *ℤ (u +ℤ v) → d *ℤ (s +ℤ t) ≡ pos 2 *ℤ (e *ℤ w) → d *ℤ ((a *ℤ u +ℤ s) +ℤ (a *ℤ v +ℤ t)) ≡ pos 2 *ℤ (e *ℤ (a *ℤ y +ℤ w))
        plain d e a u v y s t w f g = apart ∙ together (a *ℤ (d *ℤ (u +ℤ v))) (a *ℤ (pos 2 *ℤ (e *ℤ y))) (d *ℤ (s +ℤ t)) (pos 2 *ℤ (e *ℤ w)) (ap (λ (x : ℤ). a *ℤ x) (sym f)) g ∙ back
          where
            apart : d *ℤ ((a *ℤ u +ℤ s) +ℤ (a *ℤ v +ℤ t)) ≡ a *ℤ (d *ℤ (u +ℤ v)) +ℤ d *ℤ (s +ℤ t)
            apart = simp products (omega (arith, sums))

            together : (x x' z z' : ℤ) → x ≡ x' → z ≡ z' → x +ℤ z ≡ x' +ℤ z'
            together x x' z z' e f = omega (arith, sums)

            back : a *ℤ (pos 2 *ℤ (e *ℤ y)) +ℤ pos 2 *ℤ (e *ℤ w) ≡ pos 2 *ℤ (e *ℤ (a *ℤ y +ℤ w))
            back = simp products (omega (arith, sums))

        go : (W : List ℕ) → AllByRecursion (λ j. j < m.width) W
            → f.d *ℤ (sum_over W (λ j. entry m i j *ℤ u j) +ℤ sum_over W (λ j. entry m i j *ℤ v j)) ≡ pos 2 *ℤ (e *ℤ sum_over W (λ j. entry m i j *ℤ y j))
        go [] h = simp products
        go (j ∷ W) h = plain f.d e (entry m i j) (u j) (v j) (y j) (sum_over W (λ j'. entry m i j' *ℤ u j')) (sum_over W (λ j'. entry m i j' *ℤ v j')) (sum_over W (λ j'. entry m i j' *ℤ y j')) (middle j h.0) (go W h.1)

    same_value : (i : ℕ) → IsIn i R → row_value m (first_lines m.width) u i ≡ row_value m (first_lines m.width) v i
    same_value i g = plain (row_value m (first_lines m.width) u i) (row_value m (first_lines m.width) v i) (e *ℤ b i)
        (no_product f.d ((row_value m (first_lines m.width) u i +ℤ row_value m (first_lines m.width) v i) -ℤ (e *ℤ b i +ℤ e *ℤ b i)) f.positive
        (nothing f.d (row_value m (first_lines m.width) u i +ℤ row_value m (first_lines m.width) v i) e (row_value m (first_lines m.width) y i) (b i) (both_values i) ((bound i).tight g)))
        (p.rows i (row_in i g)) (q.rows i (row_in i g))
      where
        nothing : (d s e w b : ℤ) → d *ℤ s ≡ pos 2 *ℤ (e *ℤ w) → w ≡ d *ℤ b → d *ℤ (s -ℤ (e *ℤ b +ℤ e *ℤ b)) ≡ pos 0
        nothing d s e w b f g = apart ∙ ap (λ (x : ℤ). x -ℤ pos 2 *ℤ (e *ℤ (d *ℤ b))) f ∙ ap (λ (x : ℤ). pos 2 *ℤ (e *ℤ x) -ℤ pos 2 *ℤ (e *ℤ (d *ℤ b))) g ∙ none (pos 2 *ℤ (e *ℤ (d *ℤ b)))
          where
            apart : d *ℤ (s -ℤ (e *ℤ b +ℤ e *ℤ b)) ≡ d *ℤ s -ℤ pos 2 *ℤ (e *ℤ (d *ℤ b))
            apart = simp products (omega (arith, sums))

            none : (x : ℤ) → x -ℤ x ≡ pos 0
            none x = omega (arith, sums)

        plain : (s t x : ℤ) → (s +ℤ t) -ℤ (x +ℤ x) ≡ pos 0 → s ≤ℤ x → t ≤ℤ x → s ≡ t
        plain s t x e l k = omega (arith, sums)

    kept : (i : ℕ) → IsIn i R → sum_over C (λ j. entry m i j *ℤ (u j -ℤ v j)) ≡ pos 0
    kept i g = sym (value_is i (λ j. u j -ℤ v j) outside) ∙ apart ∙ none (row_value m (first_lines m.width) u i) (row_value m (first_lines m.width) v i) (same_value i g)
      where
        opened : (a x y : ℤ) → a *ℤ (x -ℤ y) ≡ a *ℤ x -ℤ a *ℤ y
        opened a x y = simp products

        none : (x y : ℤ) → x ≡ y → x -ℤ y ≡ pos 0
        none x y e = omega (arith, sums)

        apart : row_value m (first_lines m.width) (λ j. u j -ℤ v j) i ≡ row_value m (first_lines m.width) u i -ℤ row_value m (first_lines m.width) v i
        apart = sum_over_same (first_lines m.width) (λ j. entry m i j *ℤ (u j -ℤ v j)) (λ j. entry m i j *ℤ u j -ℤ entry m i j *ℤ v j)
            (all_of (λ j. entry m i j *ℤ (u j -ℤ v j) ≡ entry m i j *ℤ u j -ℤ entry m i j *ℤ v j) (λ j. opened (entry m i j) (u j) (v j)) (first_lines m.width))
            ∙ sum_over-sub (first_lines m.width) (λ j. entry m i j *ℤ u j) (λ j. entry m i j *ℤ v j)

    one_point : (j : ℕ) → j < m.width → u j ≡ v j
    one_point j l = plain (u j) (v j) (elim (in_or_not j C) [
      | inl g ↦ all_in (λ j. u j -ℤ v j ≡ pos 0) C (f.independent (λ j. u j -ℤ v j) (all_of_members (λ i. sum_over C (λ j. entry m i j *ℤ (u j -ℤ v j)) ≡ pos 0) R kept)) j g
      | inr n ↦ outside j l n
    ])
      where
        plain : (x y : ℤ) → x -ℤ y ≡ pos 0 → x ≡ y
        plain x y e = omega (arith, sums)

  vertex : IsVertex m b y f.d
  vertex = record { feasible = feasible; extreme = one_point }

  pub fraction_has_vertex : HasIntegralVertices m → ⊥
  fraction_has_vertex integral = f.fraction (all_of_members (λ j. IsMultiple f.d (f.y j)) C
      (λ j g. lowered (y j) (f.y j) f.d raise.bound ((raised j).inside g) (integral b y f.d vertex j (column_in j g))))
    where
      lowered : (x y d n : ℤ) → x ≡ y +ℤ d *ℤ n → IsMultiple d x → IsMultiple d y
      lowered x y d n e (k, g) = (k -ℤ n, plain (d *ℤ n) (d *ℤ k) (e' e g) ∙ back d k n)
        where
          e' : x ≡ y +ℤ d *ℤ n → x ≡ d *ℤ k → d *ℤ k ≡ y +ℤ d *ℤ n
          e' e g = sym g ∙ e

          plain : (p q : ℤ) → q ≡ y +ℤ p → y ≡ q -ℤ p
          plain p q e = omega (arith, sums)

          back : (d k n : ℤ) → d *ℤ k -ℤ d *ℤ n ≡ d *ℤ (k -ℤ n)
          back d k n = simp products

-- induction on the number of lines: smaller square submatrices have the determinant -1, 0 or 1
entries_by_vertices : (m : Matrix) → HasIntegralVertices m → (n : ℕ) (C R : List ℕ) → IncreasesIn 0 (height m) R → IncreasesIn 0 m.width C → length R ≡ length C
    → length C < n → IsEntry (minor (entry m) C R)
entries_by_vertices m integral zero C R rows columns e l = absurd (omega arith)
entries_by_vertices m integral (suc n) C R rows columns e l = elim (entry_or_fraction C R 0 m.width (entry m) columns e
    (λ P Q h k e k'. entries_by_vertices m integral n Q P (sublist_increases 0 (height m) R P rows h) (sublist_increases 0 m.width C Q columns k) e (omega arith))) [
      | inl h ↦ h
      | inr f ↦ absurd (fraction_has_vertex m R C rows columns f integral)
    ]

minors_of_vertices : (m : Matrix) → HasIntegralVertices m → HasUnimodularMinors m
minors_of_vertices m integral R C row_set column_set e = subst IsEntry (sym (determinant_is (entry m) C R e))
    (entries_by_vertices m integral (suc (length C)) C R (row_set_increases m R row_set) (column_set_increases m C column_set) e (omega arith))

pub hoffman_kruskal : HoffmanKruskalEquivalence
hoffman_kruskal m = (integral_vertices m, λ integral. (ghouila_houri m).1 (minors_of_vertices m integral))
