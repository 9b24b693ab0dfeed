-- Any reducible line may be removed first, and the stated order leaves no line if and only if some order leaves none.
use Rattle.std.proofs.Common.{◌≡◌, ◌≤◌, ◌+◌, ◌∙◌, ◌⊎◌, inl, inr, ℕ, zero, suc, Bool, ℤ, List, [], ◌∷◌, length, Option, Some, None, is_some, IsSome, option_map, eq-eqb, refl, ap, sym, subst, arith}
use Rattle.std.specs.Option.{option_or}
use Rattle.std.specs.List.Sorted.{IsStrictlyIncreasing}
use Rattle.cmr_base.specs.declared.line.Line.{Line}
use Rattle.cmr_base.specs.declared.line.Line.TheVariants.{Column}
use Rattle.cmr_base.specs.declared.line.Reason.{Reason}
use Rattle.cmr_base.specs.declared.line.Step.{Step}
use Rattle.cmr_base.specs.LineSets.{without}
use Rattle.cmr_base.specs.Members.{IsDistinct}
use Rattle.cmr_base.specs.Reductions.{line_reason, HasLine, rows_without, columns_without, IsFullRemoval, IsSeriesParallelOn, first_step, lines_of, Removal, removal_on}
use Rattle.cmr_base.proofs.ListsWithout.{contains_from_in, true_is_false}
use Rattle.cmr_base.proofs.RemovedLines.{IsAmong, among_from_has_line, has_line_from_among, rows_increase, columns_increase, rows_within, columns_within, fewer_lines}
use Rattle.sp_reduce.proofs.Embeddings.{series_parallel-within}
use Rattle.sp_reduce.proofs.WithoutLemmas.{without_none}

-- any reducible line may be removed first
pub any_first : (binary : Bool) (M : ℕ → ℕ → ℤ) (R C : List ℕ) (line : Line) → IsStrictlyIncreasing R → IsStrictlyIncreasing C → IsSeriesParallelOn binary M R C
    → IsSeriesParallelOn binary M (rows_without R line) (columns_without C line)
any_first binary M R C l r c sp =
    series_parallel-within binary M R C (rows_without R l) (columns_without C l) (rows_increase l R r) (columns_increase l C c) (rows_within l R) (columns_within l C) sp

pub put_back : (binary : Bool) (M : ℕ → ℕ → ℤ) (R C : List ℕ) (line : Line) → HasLine R C line → IsSome (line_reason binary M R C line)
    → IsSeriesParallelOn binary M (rows_without R line) (columns_without C line) → IsSeriesParallelOn binary M R C
put_back binary M R C l stays some (order, ends) = (l ∷ order, (stays, some, ends))

-- without rows each column is zero
pub no_rows : (binary : Bool) (M : ℕ → ℕ → ℤ) (C : List ℕ) → IsDistinct C → IsSeriesParallelOn binary M [] C
no_rows binary M [] d = ([], (refl, refl))
no_rows binary M (c ∷ C) d =
    put_back binary M [] (c ∷ C) (Column c) (contains_from_in (c ∷ C) c (inl refl)) refl (subst (λ (xs : List ℕ). IsSeriesParallelOn binary M [] xs) (sym fewer) (no_rows binary M C d.1))
  where
    fewer : without (c ∷ C) c ≡ C
    fewer = rw (eq-eqb c c refl) (without_none c C d.0)

-- the line that the search finds is reducible; if it finds none, no line is
pub record IsFound (binary : Bool) (M : ℕ → ℕ → ℤ) (R C : List ℕ) (lines : List Line) (step : Step) : Type 0 where
  pub among : IsAmong step.line lines
  pub some : IsSome (line_reason binary M R C step.line)

pub search_is : (binary : Bool) (M : ℕ → ℕ → ℤ) (R C : List ℕ) (ls : List Line) (step : Step) → first_step binary M R C ls ≡ Some step → IsFound binary M R C ls step
search_is binary M R C [] step e = true_is_false (sym (ap is_some e))
search_is binary M R C (l ∷ ls) step e = go (line_reason binary M R C l) refl e (λ h. search_is binary M R C ls step h)
  where
    step_line : Option Step → Line
    step_line None = l
    step_line (Some s) = s.line

    go : (o : Option Reason) → line_reason binary M R C l ≡ o → option_or (option_map (λ reason. record { line = l; reason = reason }) o) (first_step binary M R C ls) ≡ Some step
        → (first_step binary M R C ls ≡ Some step → IsFound binary M R C ls step) → IsFound binary M R C (l ∷ ls) step
    go None q e k = let w = k e in record { among = inr w.among; some = w.some }
    go (Some why) q e k = let same : l ≡ step.line = ap step_line e in
        record { among = inl (sym same); some = subst (λ (x : Line). IsSome (line_reason binary M R C x)) same (ap is_some q) }

pub search_none : (binary : Bool) (M : ℕ → ℕ → ℤ) (R C : List ℕ) (ls : List Line) → first_step binary M R C ls ≡ None → (l : Line) → IsAmong l ls → IsSome (line_reason binary M R C l) → ⊥
search_none binary M R C [] e l h some = h
search_none binary M R C (x ∷ ls) e l h some = go (line_reason binary M R C x) refl e h (λ f g. search_none binary M R C ls f l g some)
  where
    go : (o : Option Reason) → line_reason binary M R C x ≡ o → option_or (option_map (λ reason. record { line = x; reason = reason }) o) (first_step binary M R C ls) ≡ None
        → (l ≡ x) ⊎ IsAmong l ls → (first_step binary M R C ls ≡ None → IsAmong l ls → ⊥) → ⊥
    go None q e (inl h) k = true_is_false (sym some ∙ ap (λ (y : Line). is_some (line_reason binary M R C y)) h ∙ ap is_some q)
    go None q e (inr h) k = k e h
    go (Some why) q e h k = true_is_false (ap is_some e)

-- the removal after one step of the stated order
abbrev pub after_step : Bool → (ℕ → ℕ → ℤ) → ℕ → List ℕ → List ℕ → Option Step → Removal
after_step binary M n R C o = elim o as (λ _. Removal) [
  | None ↦ record { steps = []; rows = R; columns = C }
  | Some step ↦
      let rest = removal_on binary M n (rows_without R step.line) (columns_without C step.line) in
      record { steps = step ∷ rest.steps; rows = rest.rows; columns = rest.columns }
]

-- a rest with no lines shows an order
pub series_parallel_from_rest : (binary : Bool) (M : ℕ → ℕ → ℤ) (n : ℕ) (R C : List ℕ) → (removal_on binary M n R C).rows ≡ []
    → (removal_on binary M n R C).columns ≡ [] → IsSeriesParallelOn binary M R C
series_parallel_from_rest binary M zero R C r c = ([], (r, c))
series_parallel_from_rest binary M (suc n) R C r c =
    go (first_step binary M R C (lines_of R C)) refl r c (λ l a b. series_parallel_from_rest binary M n (rows_without R l) (columns_without C l) a b)
  where
    go : (o : Option Step) → first_step binary M R C (lines_of R C) ≡ o → (after_step binary M n R C o).rows ≡ [] → (after_step binary M n R C o).columns ≡ []
        → ((l : Line) → (removal_on binary M n (rows_without R l) (columns_without C l)).rows ≡ [] → (removal_on binary M n (rows_without R l) (columns_without C l)).columns ≡ []
        → IsSeriesParallelOn binary M (rows_without R l) (columns_without C l)) → IsSeriesParallelOn binary M R C
    go None e r c again = ([], (r, c))
    go (Some step) e r c again = let w = search_is binary M R C (lines_of R C) step e in
        put_back binary M R C step.line (has_line_from_among step.line R C w.among) w.some (again step.line r c)

pub empty_from_length : (xs : List ℕ) → length xs ≤ 0 → xs ≡ []
empty_from_length [] l = refl
empty_from_length (x ∷ xs) l = absurd (omega arith)

-- and the rest of a series-parallel matrix has no lines
pub rest_from_series_parallel : (binary : Bool) (M : ℕ → ℕ → ℤ) (n : ℕ) (R C : List ℕ) → length R + length C ≤ n → IsStrictlyIncreasing R → IsStrictlyIncreasing C → IsSeriesParallelOn binary M R C
    → ((removal_on binary M n R C).rows ≡ []) × ((removal_on binary M n R C).columns ≡ [])
rest_from_series_parallel binary M zero R C l r c sp = (empty_from_length R (omega arith), empty_from_length C (omega arith))
rest_from_series_parallel binary M (suc n) R C l r c sp =
    go (first_step binary M R C (lines_of R C)) refl
    (λ x m. rest_from_series_parallel binary M n (rows_without R x) (columns_without C x) m (rows_increase x R r) (columns_increase x C c) (any_first binary M R C x r c sp))
  where
    stuck : (order : List Line) → IsFullRemoval binary M R C order → first_step binary M R C (lines_of R C) ≡ None → (R ≡ []) × (C ≡ [])
    stuck [] h e = h
    stuck (x ∷ order) (stays, some, ends) e = absurd (search_none binary M R C (lines_of R C) e x (among_from_has_line x R C stays) some)

    go : (o : Option Step) → first_step binary M R C (lines_of R C) ≡ o
        → ((x : Line) → length (rows_without R x) + length (columns_without C x) ≤ n
        → ((removal_on binary M n (rows_without R x) (columns_without C x)).rows ≡ []) × ((removal_on binary M n (rows_without R x) (columns_without C x)).columns ≡ []))
        → ((after_step binary M n R C o).rows ≡ []) × ((after_step binary M n R C o).columns ≡ [])
    go None e again = stuck sp.0 sp.1 e
    go (Some step) e again = let w = search_is binary M R C (lines_of R C) step e in
        again step.line (let f = fewer_lines step.line R C (has_line_from_among step.line R C w.among) in omega (arith, f, l))
