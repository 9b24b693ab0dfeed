-- A matrix that lies in another, up to the order and the signs of lines, is series-parallel if the other is.
use Rattle.std.proofs.Common.{◌≡◌, ◌≢◌, ◌∙◌, ◌⊎◌, inl, inr, ℕ, Bool, cond, eqb, ℤ, pos, ◌*ℤ◌, List, [], ◌∷◌, eq-eqb, ne_eqb, refl, ap, sym, subst, arith}
use Rattle.std.specs.List.Sorted.{IsStrictlyIncreasing}
use Rattle.std.proofs.lemmas.Bool.{cases_eq}
use Rattle.cmr_base.specs.declared.line.Line.{Line}
use Rattle.cmr_base.specs.declared.line.Line.TheVariants.{Row, Column}
use Rattle.cmr_base.specs.LineSets.{without}
use Rattle.cmr_base.specs.Reductions.{IsFullRemoval, IsSeriesParallelOn}
use Rattle.cmr_base.proofs.Integers.{sums, products}
use Rattle.cmr_base.specs.Members.{IsIn}
use Rattle.cmr_base.proofs.Members.{IsWithin}
use Rattle.cmr_base.proofs.ListsWithout.{in_without, without_in, without_increases, preimage, contains_from_in, empty_from_none}
use Rattle.cmr_base.proofs.ThinLines.{IsThin}
use Rattle.cmr_base.proofs.ReducibleLines.{IsFactor, HasTwin, IsReducible, reducible_from_reason, reason_from_reducible}

-- f with the value v at k
put : {X : Type 0} → ℕ → X → (ℕ → X) → ℕ → X
put k v f x = cond (eqb x k) v (f x)

put_here : {X : Type 0} (k : ℕ) (v : X) (f : ℕ → X) (x : ℕ) → x ≡ k → put k v f x ≡ v
unfolding put
put_here k v f x e = ap (λ (b : Bool). cond b v (f x)) (eq-eqb x k e)

put_other : {X : Type 0} (k : ℕ) (v : X) (f : ℕ → X) (x : ℕ) → x ≢ k → put k v f x ≡ f x
unfolding put
put_other k v f x d = ap (λ (b : Bool). cond b v (f x)) (ne_eqb x k d)

factor-mul : (binary : Bool) (u v : ℤ) → IsFactor binary u → IsFactor binary v → IsFactor binary (u *ℤ v)
factor-mul binary u v (inl e) (inl f) = rw (e, f) (inl refl)
factor-mul binary u v (inl e) (inr (b, f)) = rw (e, f) (inr (b, refl))
factor-mul binary u v (inr (b, e)) (inl f) = rw (e, f) (inr (b, refl))
factor-mul binary u v (inr (b, e)) (inr (b', f)) = rw (e, f) (inl refl)

-- the rows A and columns B of N lie in the rows R and columns C of M
pub record Embeds (binary : Bool) (N M : ℕ → ℕ → ℤ) (A B R C : List ℕ) : Type 0 where
  pub row : ℕ → ℕ
  pub column : ℕ → ℕ
  pub row_factor : ℕ → ℤ
  pub column_factor : ℕ → ℤ
  pub rows_in : (i : ℕ) → IsIn i A → IsIn (row i) R
  pub columns_in : (j : ℕ) → IsIn j B → IsIn (column j) C
  pub row_once : (i k : ℕ) → IsIn i A → IsIn k A → row i ≡ row k → i ≡ k
  pub column_once : (j k : ℕ) → IsIn j B → IsIn k B → column j ≡ column k → j ≡ k
  pub row_factors : (i : ℕ) → IsFactor binary (row_factor i)
  pub column_factors : (j : ℕ) → IsFactor binary (column_factor j)
  pub same : (i j : ℕ) → IsIn i A → IsIn j B → N i j ≡ (row_factor i *ℤ column_factor j) *ℤ M (row i) (column j)

across : (binary : Bool) (N M : ℕ → ℕ → ℤ) (A B R C : List ℕ) → Embeds binary N M A B R C → Embeds binary (λ j i. N i j) (λ j i. M i j) B A C R
across binary N M A B R C e = record {
  row = e.column;
  column = e.row;
  row_factor = e.column_factor;
  column_factor = e.row_factor;
  rows_in = e.columns_in;
  columns_in = e.rows_in;
  row_once = e.column_once;
  column_once = e.row_once;
  row_factors = e.column_factors;
  column_factors = e.row_factors;
  same = λ j i g h. e.same i j h g ∙ swap (e.row_factor i) (e.column_factor j) (M (e.row i) (e.column j));
}
  where
    swap : (a b c : ℤ) → (a *ℤ b) *ℤ c ≡ (b *ℤ a) *ℤ c
    swap a b c = simp products

module _ (binary : Bool) (N M : ℕ → ℕ → ℤ) (A B R C : List ℕ) (e : Embeds binary N M A B R C) (i : ℕ) where
  -- no row of A lies in row i
  free : ((k : ℕ) → IsIn k A → e.row k ≢ i) → Embeds binary N M A B (without R i) C
  free none = record {
    row = e.row;
    column = e.column;
    row_factor = e.row_factor;
    column_factor = e.column_factor;
    rows_in = λ k h. in_without i (e.row k) R (e.rows_in k h) (none k h);
    columns_in = e.columns_in;
    row_once = e.row_once;
    column_once = e.column_once;
    row_factors = e.row_factors;
    column_factors = e.column_factors;
    same = e.same;
  }

  module _ (k : ℕ) (stays : IsIn k A) (lies : e.row k ≡ i) where
    -- both rows are removed
    smaller : Embeds binary N M (without A k) B (without R i) C
    smaller = record {
      row = e.row;
      column = e.column;
      row_factor = e.row_factor;
      column_factor = e.column_factor;
      rows_in = λ x h. let w = without_in k x A h in in_without i (e.row x) R (e.rows_in x w.0) (λ q. w.1 (e.row_once x k w.0 stays (q ∙ sym lies)));
      columns_in = e.columns_in;
      row_once = λ x y h g. e.row_once x y (without_in k x A h).0 (without_in k y A g).0;
      column_once = e.column_once;
      row_factors = e.row_factors;
      column_factors = e.column_factors;
      same = λ x j h. e.same x j (without_in k x A h).0;
    }

    row_is : (j : ℕ) → IsIn j B → N k j ≡ (e.row_factor k *ℤ e.column_factor j) *ℤ M i (e.column j)
    row_is j h = e.same k j stays h ∙ ap (λ (x : ℕ). (e.row_factor k *ℤ e.column_factor j) *ℤ M x (e.column j)) lies

    thin : IsThin C (M i) → IsThin B (N k)
    thin t x y h g d f =
        e.column_once x y h g
        (t (e.column x) (e.column y) (e.columns_in x h) (e.columns_in y g)
        (λ z. d (row_is x h ∙ gone (e.row_factor k *ℤ e.column_factor x) (M i (e.column x)) z))
        (λ z. f (row_is y g ∙ gone (e.row_factor k *ℤ e.column_factor y) (M i (e.column y)) z)))
      where
        gone : (a z : ℤ) → z ≡ pos 0 → a *ℤ z ≡ pos 0
        gone a z e = rw e (simp products)

    module _ (t : HasTwin binary M R C i) where
      -- the twin has a row of A too
      twin : (k' : ℕ) → IsIn k' A → e.row k' ≡ t.line → HasTwin binary N A B k
      twin k' stays' lies' = record {
        line = k';
        stays = stays';
        other = λ q. t.other (sym lies' ∙ ap e.row q ∙ lies);
        factor = (e.row_factor k' *ℤ t.factor) *ℤ e.row_factor k;
        is_factor = factor-mul binary (e.row_factor k' *ℤ t.factor) (e.row_factor k) (factor-mul binary (e.row_factor k') t.factor (e.row_factors k') t.is_factor) (e.row_factors k);
        same = λ j h.
            e.same k' j stays' h ∙ ap (λ (x : ℕ). (e.row_factor k' *ℤ e.column_factor j) *ℤ M x (e.column j)) lies'
            ∙ ap (λ (z : ℤ). (e.row_factor k' *ℤ e.column_factor j) *ℤ z) (t.same (e.column j) (e.columns_in j h))
            ∙ plain (e.row_factor k') (e.row_factor k) (e.column_factor j) t.factor (M i (e.column j)) (e.row_factors k)
            ∙ ap (λ (z : ℤ). ((e.row_factor k' *ℤ t.factor) *ℤ e.row_factor k) *ℤ z) (sym (row_is j h));
      }
        where
          plain : (a b c u m : ℤ) → IsFactor binary b → (a *ℤ c) *ℤ (u *ℤ m) ≡ ((a *ℤ u) *ℤ b) *ℤ ((b *ℤ c) *ℤ m)
          plain a b c u m (inl e) = rw e (simp products)
          plain a b c u m (inr (f, e)) = rw e (simp products (omega (arith, sums)))

      -- it has none: it takes the place of row i
      moved : ((x : ℕ) → IsIn x A → e.row x ≢ t.line) → Embeds binary N M A B (without R i) C
      moved none = record {
        row = put k t.line e.row;
        column = e.column;
        row_factor = put k (e.row_factor k *ℤ t.factor) e.row_factor;
        column_factor = e.column_factor;
        rows_in = λ x h. elim (cases_eq x k) [
          | inl q ↦ rw (put_here k t.line e.row x q) (in_without i t.line R t.stays t.other)
          | inr d ↦ rw (put_other k t.line e.row x d) (in_without i (e.row x) R (e.rows_in x h) (λ q. d (e.row_once x k h stays (q ∙ sym lies))))
        ];
        columns_in = e.columns_in;
        row_once = λ x y h g q. once x y h g (cases_eq x k) (cases_eq y k) q;
        column_once = e.column_once;
        row_factors = λ x. elim (cases_eq x k) [
          | inl q ↦ rw (put_here k (e.row_factor k *ℤ t.factor) e.row_factor x q) (factor-mul binary (e.row_factor k) t.factor (e.row_factors k) t.is_factor)
          | inr d ↦ rw (put_other k (e.row_factor k *ℤ t.factor) e.row_factor x d) (e.row_factors x)
        ];
        column_factors = e.column_factors;
        same = λ x j h g. elim (cases_eq x k) [
          | inl q ↦ rw (put_here k t.line e.row x q, put_here k (e.row_factor k *ℤ t.factor) e.row_factor x q)
              (ap (λ (y : ℕ). N y j) q ∙ row_is j g ∙ plain (e.row_factor k) (e.column_factor j) t.factor (M i (e.column j)) t.is_factor
              ∙ ap (λ (z : ℤ). ((e.row_factor k *ℤ t.factor) *ℤ e.column_factor j) *ℤ z) (sym (t.same (e.column j) (e.columns_in j g))))
          | inr d ↦ rw (put_other k t.line e.row x d, put_other k (e.row_factor k *ℤ t.factor) e.row_factor x d) (e.same x j h g)
        ];
      }
        where
          plain : (b c u m : ℤ) → IsFactor binary u → (b *ℤ c) *ℤ m ≡ ((b *ℤ u) *ℤ c) *ℤ (u *ℤ m)
          plain b c u m (inl e) = rw e (simp products)
          plain b c u m (inr (f, e)) = rw e (simp products (omega (arith, sums)))

          once : (x y : ℕ) → IsIn x A → IsIn y A → (x ≡ k) ⊎ (x ≢ k) → (y ≡ k) ⊎ (y ≢ k) → put k t.line e.row x ≡ put k t.line e.row y → x ≡ y
          once x y h g (inl p) (inl q) s = p ∙ sym q
          once x y h g (inl p) (inr q) s = absurd (none y g (sym (put_other k t.line e.row y q) ∙ sym s ∙ put_here k t.line e.row x p))
          once x y h g (inr p) (inl q) s = absurd (none x h (sym (put_other k t.line e.row x p) ∙ s ∙ put_here k t.line e.row y q))
          once x y h g (inr p) (inr q) s = e.row_once x y h g (sym (put_other k t.line e.row x p) ∙ s ∙ put_other k t.line e.row y q)

  -- the embedding after the removal of row i
  abbrev pub After : Type 0
  After = Embeds binary N M A B (without R i) C ⊎ ((k : ℕ) × IsIn k A × IsReducible binary N A B k × Embeds binary N M (without A k) B (without R i) C)

  row_step : IsReducible binary M R C i → After
  row_step w = elim (preimage e.row i A) [
    | inr none ↦ inl (free none)
    | inl (k, stays, lies) ↦ elim w [
      | inl t ↦ inr (k, stays, inl (thin k stays lies t), smaller k stays lies)
      | inr t ↦ elim (preimage e.row t.line A) [
        | inl (k', stays', lies') ↦ inr (k, stays, inr (twin k stays lies t k' stays' lies'), smaller k stays lies)
        | inr none ↦ inl (moved k stays lies t none)
      ]
    ]
  ]

pub series_parallel-embeds : (binary : Bool) (N M : ℕ → ℕ → ℤ) (order : List Line) (A B R C : List ℕ) → IsStrictlyIncreasing A → IsStrictlyIncreasing B → Embeds binary N M A B R C
    → IsFullRemoval binary M R C order → IsSeriesParallelOn binary N A B
series_parallel-embeds binary N M [] A B R C ra rb e (r, c) = (
  [],
  (empty_from_none A (λ x h. subst (λ (l : List ℕ). IsIn (e.row x) l) r (e.rows_in x h)), empty_from_none B (λ x h. subst (λ (l : List ℕ). IsIn (e.column x) l) c (e.columns_in x h))),
)
series_parallel-embeds binary N M (Row i ∷ order) A B R C ra rb e (stays, some, ends) =
    go (row_step binary N M A B R C e i (reducible_from_reason binary M Row Column R C i some)) (λ A' ra' e'. series_parallel-embeds binary N M order A' B (without R i) C ra' rb e' ends)
  where
    go : After binary N M A B R C e i → ((A' : List ℕ) → IsStrictlyIncreasing A' → Embeds binary N M A' B (without R i) C → IsSeriesParallelOn binary N A' B) → IsSeriesParallelOn binary N A B
    go (inl e') again = again A ra e'
    go (inr (k, stays, w, e')) again =
        let v = again (without A k) (without_increases k A ra) e' in
        (Row k ∷ v.0, (contains_from_in A k stays, reason_from_reducible binary N Row Column A B k rb w, v.1))
series_parallel-embeds binary N M (Column j ∷ order) A B R C ra rb e (stays, some, ends) =
    go (row_step binary (λ j i. N i j) (λ j i. M i j) B A C R (across binary N M A B R C e) j (reducible_from_reason binary (λ j i. M i j) Column Row C R j some))
    (λ B' rb' e'. series_parallel-embeds binary N M order A B' R (without C j) ra rb' e' ends)
  where
    go : After binary (λ j i. N i j) (λ j i. M i j) B A C R (across binary N M A B R C e) j
        → ((B' : List ℕ) → IsStrictlyIncreasing B' → Embeds binary N M A B' R (without C j) → IsSeriesParallelOn binary N A B') → IsSeriesParallelOn binary N A B
    go (inl e') again = again B rb (across binary (λ j i. N i j) (λ j i. M i j) B A (without C j) R e')
    go (inr (k, stays, w, e')) again =
        let v = again (without B k) (without_increases k B rb) (across binary (λ j i. N i j) (λ j i. M i j) (without B k) A (without C j) R e') in
        (Column k ∷ v.0, (contains_from_in B k stays, reason_from_reducible binary (λ j i. N i j) Column Row B A k ra w, v.1))

-- some lines of a matrix lie in more lines of it
pub embeds-within : (binary : Bool) (M : ℕ → ℕ → ℤ) (A B R C : List ℕ) → IsWithin A R → IsWithin B C → Embeds binary M M A B R C
embeds-within binary M A B R C a b = record {
  row = λ i. i;
  column = λ j. j;
  row_factor = λ i. pos 1;
  column_factor = λ j. pos 1;
  rows_in = a;
  columns_in = b;
  row_once = λ i k h g q. q;
  column_once = λ i k h g q. q;
  row_factors = λ i. inl refl;
  column_factors = λ j. inl refl;
  same = λ i j h g. one (M i j);
}
  where
    one : (z : ℤ) → z ≡ (pos 1 *ℤ pos 1) *ℤ z
    one z = simp products

pub series_parallel-within : (binary : Bool) (M : ℕ → ℕ → ℤ) (R C A B : List ℕ) → IsStrictlyIncreasing A → IsStrictlyIncreasing B → IsWithin A R → IsWithin B C
    → IsSeriesParallelOn binary M R C → IsSeriesParallelOn binary M A B
series_parallel-within binary M R C A B ra rb a b (order, ends) = series_parallel-embeds binary M M order A B R C ra rb (embeds-within binary M A B R C a b) ends
