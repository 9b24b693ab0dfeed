-- The stated order first removes a line that has few nonzeros, or whose twin comes later. The greedy search removes such a line too.
use Rattle.std.proofs.Common.{◌≡◌, ◌≢◌, ◌<◌, ◌≤◌, ◌+◌, ◌-◌, ◌∙◌, ◌⊎◌, inl, inr, ℕ, zero, suc, Bool, true, false, cond, not, eqb, nat_lt, ℤ, ◌*ℤ◌, List, [], ◌∷◌, Option, Some, None, is_some, IsSome, option_map, refl, ap, sym, subst, arith}
use Rattle.std.specs.Option.{option_or}
use Rattle.std.specs.List.Sorted.{IsStrictlyIncreasing}
use Rattle.std.proofs.lemmas.Bool.{cases_lt, cases_eq}
use Rattle.std.proofs.lemmas.Bool.Decides.{nat_tests}
use Rattle.cmr_base.specs.declared.line.Line.{Line}
use Rattle.cmr_base.specs.declared.line.Line.TheVariants.{Row, Column}
use Rattle.cmr_base.specs.declared.line.Reason.{Reason}
use Rattle.cmr_base.specs.declared.line.Step.{Step}
use Rattle.cmr_base.specs.LineSets.{without, submatrix}
use Rattle.cmr_base.specs.Matrix.{Matrix, height, entry}
use Rattle.cmr_base.specs.Members.{IsIn}
use Rattle.cmr_base.specs.Reductions.{rows_without, columns_without, first_step, lines_of, IsSeriesParallel, IsSeriesParallelOn}
use Rattle.cmr_base.specs.GreedySets.{IsGreedyFrom}
use Rattle.cmr_base.proofs.Integers.{products, sums}
use Rattle.cmr_base.proofs.Members.{IsWithin}
use Rattle.cmr_base.proofs.ListsWithout.{contains_from_in, in_without, without_in, within-without, head_below, increasing_tail, true_is_false}
use Rattle.cmr_base.proofs.RemovedLines.{rows_increase, columns_increase}
use Rattle.cmr_base.proofs.ReducibleLines.{IsFactor, HasTwin, IsReducible, reducible_from_reason, reason_from_reducible}
use Rattle.cmr_base.proofs.ThinLines.{IsThin}
use Rattle.minimal_sets.specs.LeftOut.{line_numbered, lines_between}
use Rattle.sp_reduce.specs.declared.kind.LineKind.{LineKind}
use Rattle.sp_reduce.specs.declared.kind.LineKind.TheVariants.{Rows, Columns}
use Rattle.sp_reduce.specs.LineKinds.{line_named, cross_named, table, reason_for}
use Rattle.sp_reduce.specs.StayingSides.{first_step_of}
use Rattle.sp_reduce.proofs.Searches.{some_not_none}
use Rattle.sp_reduce.proofs.StatedOrder.{first_step-joined}
use Rattle.sp_reduce.proofs.WithoutLemmas.{without_none}
use Rattle.sp_reduce.proofs.Orders.{any_first, put_back}
use Rattle.sp_reduce.proofs.Submatrices.{submatrix_from_lines, lines_from_submatrix}

-- ---- lists without two numbers

without-swap : (i k : ℕ) (xs : List ℕ) → without (without xs i) k ≡ without (without xs k) i
without-swap i k [] = refl
without-swap i k (x ∷ xs) = go (eqb x i) (eqb x k) refl refl (without-swap i k xs)
  where
    go : (a b : Bool) → eqb x i ≡ a → eqb x k ≡ b → without (without xs i) k ≡ without (without xs k) i
        → without (cond (not a) (x ∷ without xs i) (without xs i)) k ≡ without (cond (not b) (x ∷ without xs k) (without xs k)) i
    go true true p q e = e
    go true false p q e = e ∙ sym (ap (λ (c : Bool). cond (not c) (x ∷ without (without xs k) i) (without (without xs k) i)) p)
    go false true p q e = ap (λ (c : Bool). cond (not c) (x ∷ without (without xs i) k) (without (without xs i) k)) q ∙ e
    go false false p q e =
        ap (λ (c : Bool). cond (not c) (x ∷ without (without xs i) k) (without (without xs i) k)) q ∙ ap (λ (ys : List ℕ). x ∷ ys) e
        ∙ sym (ap (λ (c : Bool). cond (not c) (x ∷ without (without xs k) i) (without (without xs k) i)) p)

rows_swap : (l v : Line) (R : List ℕ) → rows_without (rows_without R l) v ≡ rows_without (rows_without R v) l
rows_swap (Row i) (Row k) R = without-swap i k R
rows_swap (Row i) (Column k) R = refl
rows_swap (Column i) (Row k) R = refl
rows_swap (Column i) (Column k) R = refl

columns_swap : (l v : Line) (C : List ℕ) → columns_without (columns_without C l) v ≡ columns_without (columns_without C v) l
columns_swap (Row i) (Row k) C = refl
columns_swap (Row i) (Column k) C = refl
columns_swap (Column i) (Row k) C = refl
columns_swap (Column i) (Column k) C = without-swap i k C

rows_again : (l : Line) (R : List ℕ) → rows_without (rows_without R l) l ≡ rows_without R l
rows_again (Row i) R = without_none i (without R i) (λ h. (without_in i i R h).1 refl)
rows_again (Column j) R = refl

columns_again : (l : Line) (C : List ℕ) → columns_without (columns_without C l) l ≡ columns_without C l
columns_again (Row i) C = refl
columns_again (Column j) C = without_none j (without C j) (λ h. (without_in j j C h).1 refl)

-- ---- lines that are reducible whatever comes before them

-- line i has at most one nonzero, or a twin that comes later
abbrev IsEarly : Bool → (ℕ → ℕ → ℤ) → List ℕ → List ℕ → ℕ → Type 0
IsEarly binary N own across i = IsThin across (N i) ⊎ ((t : HasTwin binary N own across i) × (i < t.line))

early_reducible : (binary : Bool) (N : ℕ → ℕ → ℤ) (own across : List ℕ) (i : ℕ) → IsEarly binary N own across i → IsReducible binary N own across i
early_reducible binary N own across i (inl thin) = inl thin
early_reducible binary N own across i (inr w) = inr w.0

early_within : (binary : Bool) (N : ℕ → ℕ → ℤ) (own across across' : List ℕ) (i : ℕ) → IsWithin across' across → IsEarly binary N own across i → IsEarly binary N own across' i
early_within binary N own across across' i within (inl thin) = inl (λ x y h g d f. thin x y (within x h) (within y g) d f)
early_within binary N own across across' i within (inr (t, later)) = inr (
  record {
    line = t.line;
    stays = t.stays;
    other = t.other;
    factor = t.factor;
    is_factor = t.is_factor;
    same = λ k h. t.same k (within k h);
  },
  later,
)

early_without : (binary : Bool) (N : ℕ → ℕ → ℤ) (own across : List ℕ) (k i : ℕ) → k < i → IsEarly binary N own across i → IsEarly binary N (without own k) across i
early_without binary N own across k i before (inl thin) = inl thin
early_without binary N own across k i before (inr (t, later)) = inr (
  record {
    line = t.line;
    stays = in_without k t.line own t.stays (λ e. omega (arith, e, before, later));
    other = t.other;
    factor = t.factor;
    is_factor = t.is_factor;
    same = t.same;
  },
  later,
)

turned : (binary : Bool) (f z w : ℤ) → IsFactor binary f → z ≡ f *ℤ w → w ≡ f *ℤ z
turned binary f z w (inl e) h = rw (h, e) (simp products)
turned binary f z w (inr (b, e)) h = rw (h, e) (simp products (omega (arith, sums)))

twin_turned : (binary : Bool) (N : ℕ → ℕ → ℤ) (own across : List ℕ) (i : ℕ) → IsIn i own → (t : HasTwin binary N own across i) → HasTwin binary N own across t.line
twin_turned binary N own across i there t = record {
  line = i;
  stays = there;
  other = λ e. t.other (sym e);
  factor = t.factor;
  is_factor = t.is_factor;
  same = λ k h. turned binary t.factor (N t.line k) (N i k) t.is_factor (t.same k h);
}

-- ---- the first reducible line is early

record IsFirst (binary : Bool) (M : ℕ → ℕ → ℤ) (kind : LineKind) (own across xs : List ℕ) (step : Step) : Type 0 where
  line : ℕ
  named : step.line ≡ line_named kind line
  among : IsIn line xs
  some : IsSome (reason_for binary M kind own across line)
  before : (k : ℕ) → IsIn k xs → k < line → reason_for binary M kind own across k ≡ None

first_is : (binary : Bool) (M : ℕ → ℕ → ℤ) (kind : LineKind) (own across xs : List ℕ) (step : Step) → IsStrictlyIncreasing xs
    → first_step_of binary M kind own across xs ≡ Some step → IsFirst binary M kind own across xs step
first_is binary M kind own across [] step increases e = some_not_none (sym e)
first_is binary M kind own across (x ∷ xs) step increases e =
    go (reason_for binary M kind own across x) refl e (λ f. first_is binary M kind own across xs step (increasing_tail x xs increases) f)
  where
    step_line : Option Step → Line
    step_line None = line_named kind x
    step_line (Some s) = s.line

    go : (o : Option Reason) → reason_for binary M kind own across x ≡ o → option_or (option_map (λ reason. record { line = line_named kind x; reason = reason }) o) (first_step_of binary M kind own across xs) ≡ Some step
        → (first_step_of binary M kind own across xs ≡ Some step → IsFirst binary M kind own across xs step) → IsFirst binary M kind own across (x ∷ xs) step
    go None q e k =
        let w = k e in
        record {
          line = w.line;
          named = w.named;
          among = inr w.among;
          some = w.some;
          before = λ j h l. elim h [
            | inl p ↦ ap (λ (y : ℕ). reason_for binary M kind own across y) p ∙ q
            | inr g ↦ w.before j g l
          ];
        }
    go (Some why) q e k = record {
      line = x;
      named = sym (ap step_line e);
      among = inl refl;
      some = ap is_some q;
      before = λ j h l. elim h [
        | inl p ↦ absurd (omega (arith, p, l))
        | inr g ↦ let past = head_below x j xs increases g in absurd (omega (arith, past, l))
      ];
    }

first_early : (binary : Bool) (M : ℕ → ℕ → ℤ) (kind : LineKind) (own across : List ℕ) (step : Step) → IsStrictlyIncreasing across → (w : IsFirst binary M kind own across own step)
    → IsEarly binary (table M kind) own across w.line
first_early binary M kind own across step increases w =
    elim (reducible_from_reason binary (table M kind) (line_named kind) (cross_named kind) own across w.line w.some) [
      | inl thin ↦ inl thin
      | inr t ↦ elim (cases_lt w.line t.line) [
        | inl later ↦ inr (t, later)
        | inr past ↦
            let none = w.before t.line t.stays (below t.line w.line past t.other) in
            let some = reason_from_reducible binary (table M kind) (line_named kind) (cross_named kind) own across t.line increases (inr (twin_turned binary (table M kind) own across w.line w.among t)) in
            true_is_false (sym some ∙ ap is_some none)
      ]
    ]
  where
    below : (k i : ℕ) → k ≤ i → k ≢ i → k < i
    below k i h d = omega (arith, h, d)

-- a row or a column is early
abbrev pub IsEarlyLine : Bool → (ℕ → ℕ → ℤ) → List ℕ → List ℕ → Line → Type 0
IsEarlyLine binary M R C (Row i) = IsIn i R × IsEarly binary M R C i
IsEarlyLine binary M R C (Column j) = IsIn j C × IsEarly binary (λ j i. M i j) C R j

pub first_step-early : (binary : Bool) (M : ℕ → ℕ → ℤ) (R C : List ℕ) (step : Step) → IsStrictlyIncreasing R → IsStrictlyIncreasing C → first_step binary M R C (lines_of R C) ≡ Some step
    → IsEarlyLine binary M R C step.line
first_step-early binary M R C step r c e = go (first_step_of binary M Rows R C R) refl (sym (first_step-joined binary M R C) ∙ e)
  where
    go : (o : Option Step) → first_step_of binary M Rows R C R ≡ o → option_or o (first_step_of binary M Columns C R C) ≡ Some step → IsEarlyLine binary M R C step.line
    go (Some s) q f =
        let w = first_is binary M Rows R C R step r (q ∙ f) in
        subst (λ (l : Line). IsEarlyLine binary M R C l) (sym w.named) (w.among, first_early binary M Rows R C step c w)
    go None q f =
        let w = first_is binary M Columns C R C step c f in
        subst (λ (l : Line). IsEarlyLine binary M R C l) (sym w.named) (w.among, first_early binary M Columns C R step r w)

module _ (binary : Bool) (m : Matrix) where
  abbrev IsOn : List ℕ → List ℕ → Type 0
  IsOn R C = IsSeriesParallelOn binary (entry m) R C

  pub early_back : (R C : List ℕ) (l : Line) → IsStrictlyIncreasing R → IsStrictlyIncreasing C → IsEarlyLine binary (entry m) R C l → IsOn (rows_without R l) (columns_without C l) → IsOn R C
  early_back R C (Row i) r c (there, early) sp =
      put_back binary (entry m) R C (Row i) (contains_from_in R i there)
      (reason_from_reducible binary (entry m) Row Column R C i c (early_reducible binary (entry m) R C i early)) sp
  early_back R C (Column j) r c (there, early) sp =
      put_back binary (entry m) R C (Column j) (contains_from_in C j there)
      (reason_from_reducible binary (λ j i. entry m i j) Column Row C R j r (early_reducible binary (λ j i. entry m i j) C R j early)) sp

  -- it stays early when a line before it is removed
  early_after : (from n : ℕ) (R C : List ℕ) → from < n → IsEarlyLine binary (entry m) R C (line_numbered (height m) n)
      → IsEarlyLine binary (entry m) (rows_without R (line_numbered (height m) from)) (columns_without C (line_numbered (height m) from)) (line_numbered (height m) n)
  early_after from n R C before early = go (nat_lt from (height m)) (nat_lt n (height m)) refl refl early
    where
      go : (a b : Bool) → nat_lt from (height m) ≡ a → nat_lt n (height m) ≡ b → IsEarlyLine binary (entry m) R C (cond b (Row n) (Column (n - height m)))
          → IsEarlyLine binary (entry m) (rows_without R (cond a (Row from) (Column (from - height m)))) (columns_without C (cond a (Row from) (Column (from - height m)))) (cond b (Row n) (Column (n - height m)))
      go true true p q (there, early) = (in_without from n R there (λ e. omega (arith, e, before)), early_without binary (entry m) R C from n before early)
      go true false p q (there, early) = (there, early_within binary (λ j i. entry m i j) C R (without R from) (n - height m) (within-without from R) early)
      go false true p q early = absurd (not_between p q)
        where
          not_between : nat_lt from (height m) ≡ false → nat_lt n (height m) ≡ true → ⊥
          not_between p q = grind (arith, nat_tests)
      go false false p q (there, early) =
          let less : from - height m < n - height m = shift (from - height m) (n - height m) p in
          (in_without (from - height m) (n - height m) C there (λ e. omega (arith, e, less)), early_without binary (λ j i. entry m i j) C R (from - height m) (n - height m) less early)
        where
          shift : (a b : ℕ) → nat_lt from (height m) ≡ false → from - height m < n - height m
          shift a b p = grind (arith, nat_tests)

  abbrev P : Matrix → Type 0
  P = IsSeriesParallel binary

  -- the greedy search removes an early line, so it may be removed before the search
  pub early_removed : (count from n : ℕ) (R C A B : List ℕ) → IsStrictlyIncreasing R → IsStrictlyIncreasing C → from ≤ n → n < from + count
      → IsEarlyLine binary (entry m) R C (line_numbered (height m) n) → ¬ IsOn R C
      → IsGreedyFrom P m (lines_between (height m) from count) (rows_without R (line_numbered (height m) n)) (columns_without C (line_numbered (height m) n)) A B
      → IsGreedyFrom P m (lines_between (height m) from count) R C A B
  early_removed zero from n R C A B r c low high early lacks g = absurd (omega (arith, low, high))
  early_removed (suc count) from n R C A B r c low high early lacks g = elim (cases_eq n from) [
    | inl e ↦ here e
    | inr d ↦
        later (omega (arith, low, d))
        (λ R' C' r' c' early' lacks' next. early_removed count (from + 1) n R' C' A B r' c' (omega (arith, low, d)) (omega (arith, high)) early' lacks' next) g
  ]
    where
      l : Line
      l = line_numbered (height m) n

      v : Line
      v = line_numbered (height m) from

      more : List Line
      more = lines_between (height m) (from + 1) count

      here : n ≡ from → IsGreedyFrom P m (lines_between (height m) from (suc count)) R C A B
      here e = at_once (subst (λ (k : ℕ). IsGreedyFrom P m (line_numbered (height m) k ∷ more) (rows_without R l) (columns_without C l) A B) (sym e) g)
        where
          at_once : IsGreedyFrom P m (l ∷ more) (rows_without R l) (columns_without C l) A B → IsGreedyFrom P m (lines_between (height m) from (suc count)) R C A B
          at_once (inl (p, next)) = absurd (lacks (early_back R C l r c early (lines_from_submatrix binary m (rows_without R l) (columns_without C l) (rows_increase l R r) (columns_increase l C c)
              (subst (λ (xs : List ℕ). P (submatrix m xs (columns_without C l))) (rows_again l R) (subst (λ (ys : List ℕ). P (submatrix m (rows_without (rows_without R l) l) ys)) (columns_again l C) p)))))
          at_once (inr (p, next)) =
              subst (λ (k : ℕ). IsGreedyFrom P m (line_numbered (height m) k ∷ more) R C A B) e
              (inr (
                (λ sp. p (subst (λ (xs : List ℕ). P (submatrix m xs (columns_without (columns_without C l) l))) (sym (rows_again l R)) (subst (λ (ys : List ℕ). P (submatrix m (rows_without R l) ys)) (sym (columns_again l C)) sp))),
                subst (λ (xs : List ℕ). IsGreedyFrom P m more xs (columns_without C l) A B) (rows_again l R) (subst (λ (ys : List ℕ). IsGreedyFrom P m more (rows_without (rows_without R l) l) ys A B) (columns_again l C) next),
              ))

      later : from < n
          → ((R' C' : List ℕ) → IsStrictlyIncreasing R' → IsStrictlyIncreasing C' → IsEarlyLine binary (entry m) R' C' l → ¬ IsOn R' C' → IsGreedyFrom P m more (rows_without R' l) (columns_without C' l) A B
          → IsGreedyFrom P m more R' C' A B)
          → IsGreedyFrom P m (v ∷ more) (rows_without R l) (columns_without C l) A B → IsGreedyFrom P m (lines_between (height m) from (suc count)) R C A B
      later before again (inl (p, next)) =
          inl (
            submatrix_from_lines binary m (rows_without R v) (columns_without C v) r' c' (early_back (rows_without R v) (columns_without C v) l r' c' stays
                (subst (λ (xs : List ℕ). IsOn xs (columns_without (columns_without C v) l)) (rows_swap l v R) (subst (λ (ys : List ℕ). IsOn (rows_without (rows_without R l) v) ys) (columns_swap l v C)
                (lines_from_submatrix binary m (rows_without (rows_without R l) v) (columns_without (columns_without C l) v) (rows_increase v (rows_without R l) (rows_increase l R r)) (columns_increase v (columns_without C l) (columns_increase l C c)) p)))),
            again R C r c early lacks next,
          )
        where
          r' : IsStrictlyIncreasing (rows_without R v)
          r' = rows_increase v R r

          c' : IsStrictlyIncreasing (columns_without C v)
          c' = columns_increase v C c

          stays : IsEarlyLine binary (entry m) (rows_without R v) (columns_without C v) l
          stays = early_after from n R C before early
      later before again (inr (p, next)) =
          let r' = rows_increase v R r in
          let c' = columns_increase v C c in
          let fewer : P (submatrix m (rows_without R v) (columns_without C v)) → P (submatrix m (rows_without (rows_without R l) v) (columns_without (columns_without C l) v)) =
          λ sp. subst (λ (xs : List ℕ). P (submatrix m xs (columns_without (columns_without C l) v))) (sym (rows_swap l v R)) (subst (λ (ys : List ℕ). P (submatrix m (rows_without (rows_without R v) l) ys)) (sym (columns_swap l v C))
          (submatrix_from_lines binary m (rows_without (rows_without R v) l) (columns_without (columns_without C v) l) (rows_increase l (rows_without R v) r') (columns_increase l (columns_without C v) c')
          (any_first binary (entry m) (rows_without R v) (columns_without C v) l r' c' (lines_from_submatrix binary m (rows_without R v) (columns_without C v) r' c' sp)))) in
          inr (
            (λ sp. p (fewer sp)),
            again (rows_without R v) (columns_without C v) r' c' (early_after from n R C before early)
                (λ sp. p (fewer (submatrix_from_lines binary m (rows_without R v) (columns_without C v) r' c' sp)))
                (subst (λ (xs : List ℕ). IsGreedyFrom P m more xs (columns_without (columns_without C v) l) A B) (rows_swap l v R) (subst (λ (ys : List ℕ). IsGreedyFrom P m more (rows_without (rows_without R l) v) ys A B) (columns_swap l v C) next)),
          )
