-- The stated order, one step after another.
use Rattle.std.proofs.Common.{◌≡◌, ◌<◌, ◌≤◌, ◌+◌, ◌++◌, ◌∙◌, ℕ, zero, suc, Bool, ℤ, List, [], ◌∷◌, map, length, Option, Some, None, option_map, MatchOption, IfSome, refl, ap, ap₂, sym, subst, arith, append_assoc, append-nil}
use Rattle.std.specs.Option.{option_or}
use Rattle.std.proofs.lemmas.List.FromFn.{length-range_with_len}
use Rattle.cmr_base.specs.declared.line.Line.{Line}
use Rattle.cmr_base.specs.declared.line.Line.TheVariants.{Row, Column}
use Rattle.cmr_base.specs.declared.line.Step.{Step}
use Rattle.cmr_base.specs.Matrix.{Matrix, height, entry}
use Rattle.cmr_base.specs.LineSets.{first_lines, without}
use Rattle.cmr_base.specs.Reductions.{line_reason, rows_without, columns_without, first_step, lines_of, Removal, removal, removal_on}
use Rattle.cmr_base.proofs.RemovedLines.{has_line_from_among, fewer_lines}
use Rattle.sp_reduce.specs.declared.kind.LineKind.{LineKind}
use Rattle.sp_reduce.specs.declared.kind.LineKind.TheVariants.{Rows, Columns}
use Rattle.sp_reduce.specs.LineKinds.{line_named, index_of_line}
use Rattle.sp_reduce.specs.StayingSides.{first_step_of}
use Rattle.sp_reduce.proofs.Searches.{some_not_none}
use Rattle.sp_reduce.proofs.Orders.{search_is, after_step, empty_from_length}

or_assoc : {X : Type 0} (a b c : Option X) → option_or a (option_or b c) ≡ option_or (option_or a b) c
or_assoc None b c = refl
or_assoc (Some x) b c = refl

rows_first : (binary : Bool) (M : ℕ → ℕ → ℤ) (R C xs : List ℕ) (lines : List Line)
    → first_step binary M R C (map Row xs ++ lines) ≡ option_or (first_step_of binary M Rows R C xs) (first_step binary M R C lines)
rows_first binary M R C [] lines = refl
rows_first binary M R C (x ∷ xs) lines =
    let here = option_map (λ reason. record { line = Row x; reason = reason }) (line_reason binary M R C (Row x)) in
    ap (λ (o : Option Step). option_or here o) (rows_first binary M R C xs lines) ∙ or_assoc here (first_step_of binary M Rows R C xs) (first_step binary M R C lines)

columns_first : (binary : Bool) (M : ℕ → ℕ → ℤ) (R C xs : List ℕ) → first_step binary M R C (map Column xs) ≡ first_step_of binary M Columns C R xs
columns_first binary M R C [] = refl
columns_first binary M R C (x ∷ xs) =
    let here = option_map (λ reason. record { line = Column x; reason = reason }) (line_reason binary M R C (Column x)) in
    ap (λ (o : Option Step). option_or here o) (columns_first binary M R C xs)

-- the first reducible row, or the first reducible column if no row is reducible
pub first_step-joined : (binary : Bool) (M : ℕ → ℕ → ℤ) (R C : List ℕ)
    → first_step binary M R C (lines_of R C) ≡ option_or (first_step_of binary M Rows R C R) (first_step_of binary M Columns C R C)
first_step-joined binary M R C = rows_first binary M R C R (map Column C) ∙ ap (λ (o : Option Step). option_or (first_step_of binary M Rows R C R) o) (columns_first binary M R C C)

pub by_row : (binary : Bool) (M : ℕ → ℕ → ℤ) (R C : List ℕ) (step : Step) → first_step_of binary M Rows R C R ≡ Some step → first_step binary M R C (lines_of R C) ≡ Some step
by_row binary M R C step e = first_step-joined binary M R C ∙ ap (λ (o : Option Step). option_or o (first_step_of binary M Columns C R C)) e

pub by_column : (binary : Bool) (M : ℕ → ℕ → ℤ) (R C : List ℕ) (found : Option Step) → first_step_of binary M Rows R C R ≡ None
    → first_step_of binary M Columns C R C ≡ found → first_step binary M R C (lines_of R C) ≡ found
by_column binary M R C found e f = first_step-joined binary M R C ∙ ap (λ (o : Option Step). option_or o (first_step_of binary M Columns C R C)) e ∙ f

abbrev IsRow : Line → Type 0
IsRow (Row n) = Unit {0}
IsRow (Column n) = ⊥

abbrev IsColumn : Line → Type 0
IsColumn (Row n) = ⊥
IsColumn (Column n) = Unit {0}

-- the lines that remain without a row, and without a column
pub without_row : (R C R' C' : List ℕ) (line : Line) → line ≡ line_named Rows (index_of_line line) → R' ≡ without R (index_of_line line) → C' ≡ C
    → (R' ≡ rows_without R line) × (C' ≡ columns_without C line)
without_row R C R' C' (Row n) e r c = (r, c)
without_row R C R' C' (Column n) e r c = absurd (subst IsRow (sym e) tt)

pub without_column : (R C R' C' : List ℕ) (line : Line) → line ≡ line_named Columns (index_of_line line) → C' ≡ without C (index_of_line line) → R' ≡ R
    → (R' ≡ rows_without R line) × (C' ≡ columns_without C line)
without_column R C R' C' (Column n) e c r = (r, c)
without_column R C R' C' (Row n) e c r = absurd (subst IsColumn (sym e) tt)

same_search : (binary : Bool) (M : ℕ → ℕ → ℤ) (kind : LineKind) (R C R₁ C₁ : List ℕ) → kind ≡ Columns → R₁ ≡ R → C₁ ≡ C → first_step_of binary M kind C₁ R₁ C₁ ≡ first_step_of binary M Columns C R C
same_search binary M kind R C R₁ C₁ k r c = rw (k, r, c) refl

-- no row is reducible: the first reducible column is removed
pub columns_next : (binary : Bool) (M : ℕ → ℕ → ℤ) (kind : LineKind) (R C R₁ C₁ R₂ C₂ : List ℕ) (found : Option Step) → kind ≡ Columns → R₁ ≡ R → C₁ ≡ C → R₂ ≡ R₁
    → first_step_of binary M Rows R C R ≡ None → IfSome found (λ step. step.line ≡ line_named kind (index_of_line step.line))
    → MatchOption found ((first_step_of binary M kind C₁ R₁ C₁ ≡ None) × (C₂ ≡ C₁)) (λ step. (first_step_of binary M kind C₁ R₁ C₁ ≡ Some step) × (C₂ ≡ without C₁ (index_of_line step.line)))
    → MatchOption found ((first_step binary M R C (lines_of R C) ≡ None) × (R₂ ≡ R) × (C₂ ≡ C))
    (λ step. (first_step binary M R C (lines_of R C) ≡ Some step) × (R₂ ≡ rows_without R step.line) × (C₂ ≡ columns_without C step.line))
columns_next binary M kind R C R₁ C₁ R₂ C₂ None k r c s e named (f, g) =
    (by_column binary M R C None e (sym (same_search binary M kind R C R₁ C₁ k r c) ∙ f), s ∙ r, g ∙ c)
columns_next binary M kind R C R₁ C₁ R₂ C₂ (Some step) k r c s e named (f, g) =
    let gone = without_column R C R₂ C₂ step.line (subst (λ (x : LineKind). step.line ≡ line_named x (index_of_line step.line)) k named) (g ∙ ap (λ (lines : List ℕ). without lines (index_of_line step.line)) c) (s ∙ r) in
    (by_column binary M R C (Some step) e (sym (same_search binary M kind R C R₁ C₁ k r c) ∙ f), gone.0, gone.1)

-- ---- after some steps, the remaining lines lead to the same end

pub record IsOnTheWay (binary : Bool) (M : ℕ → ℕ → ℤ) (end : Removal) (steps : List Step) (R C : List ℕ) : Type 0 where
  pub fuel : ℕ
  pub enough : length R + length C ≤ fuel
  pub steps_are : steps ++ (removal_on binary M fuel R C).steps ≡ end.steps
  pub rows_are : (removal_on binary M fuel R C).rows ≡ end.rows
  pub columns_are : (removal_on binary M fuel R C).columns ≡ end.columns

pub removal_is : (end : Removal) (steps : List Step) (rows columns : List ℕ) → steps ≡ end.steps → rows ≡ end.rows → columns ≡ end.columns → end ≡ record { steps = steps; rows = rows; columns = columns }
removal_is end steps rows columns e f g = rw (e, f, g) refl

pub at_start : (binary : Bool) (M : ℕ → ℕ → ℤ) (R C : List ℕ) → IsOnTheWay binary M (removal_on binary M (length R + length C) R C) [] R C
at_start binary M R C = record { fuel = length R + length C; enough = omega arith; steps_are = refl; rows_are = refl; columns_are = refl }

module _ (binary : Bool) (M : ℕ → ℕ → ℤ) (end : Removal) (steps : List Step) (R C : List ℕ) where
  no_lines : length R + length C ≤ 0 → first_step binary M R C (lines_of R C) ≡ None
  no_lines h = ap₂ (λ (rows columns : List ℕ). first_step binary M rows columns (lines_of rows columns)) (empty_from_length R (omega arith)) (empty_from_length C (omega arith))

  pub fewer_left : (step : Step) → first_step binary M R C (lines_of R C) ≡ Some step → length (rows_without R step.line) + length (columns_without C step.line) < length R + length C
  fewer_left step e = fewer_lines step.line R C (has_line_from_among step.line R C (search_is binary M R C (lines_of R C) step e).among)

  pub one_step : (step : Step) → first_step binary M R C (lines_of R C) ≡ Some step → IsOnTheWay binary M end steps R C
      → IsOnTheWay binary M end (steps ++ step ∷ []) (rows_without R step.line) (columns_without C step.line)
  one_step step e w = go w.fuel w.enough w.steps_are w.rows_are w.columns_are
    where
      go : (fuel : ℕ) → length R + length C ≤ fuel → steps ++ (removal_on binary M fuel R C).steps ≡ end.steps → (removal_on binary M fuel R C).rows ≡ end.rows
          → (removal_on binary M fuel R C).columns ≡ end.columns
          → IsOnTheWay binary M end (steps ++ step ∷ []) (rows_without R step.line) (columns_without C step.line)
      go zero h s r c = some_not_none (sym e ∙ no_lines h)
      go (suc n) h s r c =
          let next : removal_on binary M (suc n) R C ≡ after_step binary M n R C (Some step) = ap (after_step binary M n R C) e in
          let rest = removal_on binary M n (rows_without R step.line) (columns_without C step.line) in
          record {
            fuel = n;
            enough = let f = fewer_left step e in omega (arith, f, h);
            steps_are = append_assoc steps (step ∷ []) rest.steps ∙ ap (λ (x : Removal). steps ++ x.steps) (sym next) ∙ s;
            rows_are = ap (λ (x : Removal). x.rows) (sym next) ∙ r;
            columns_are = ap (λ (x : Removal). x.columns) (sym next) ∙ c;
          }

  pub at_end : first_step binary M R C (lines_of R C) ≡ None → IsOnTheWay binary M end steps R C → (steps ≡ end.steps) × (R ≡ end.rows) × (C ≡ end.columns)
  at_end e w = go w.fuel w.steps_are w.rows_are w.columns_are
    where
      go : (fuel : ℕ) → steps ++ (removal_on binary M fuel R C).steps ≡ end.steps → (removal_on binary M fuel R C).rows ≡ end.rows → (removal_on binary M fuel R C).columns ≡ end.columns
          → (steps ≡ end.steps) × (R ≡ end.rows) × (C ≡ end.columns)
      go zero s r c = (sym (append-nil steps) ∙ s, r, c)
      go (suc n) s r c =
          let next : removal_on binary M (suc n) R C ≡ after_step binary M n R C None = ap (after_step binary M n R C) e in (
            sym (append-nil steps) ∙ ap (λ (x : Removal). steps ++ x.steps) (sym next) ∙ s,
            ap (λ (x : Removal). x.rows) (sym next) ∙ r,
            ap (λ (x : Removal). x.columns) (sym next) ∙ c,
          )

pub from_all_lines : (binary : Bool) (m : Matrix) (R C : List ℕ) → R ≡ first_lines (height m) → C ≡ first_lines m.width → removal_on binary (entry m) (length R + length C) R C ≡ removal binary m
from_all_lines binary m R C r c =
    ap₂ (λ (rows columns : List ℕ). removal_on binary (entry m) (length rows + length columns) rows columns) r c
    ∙ ap₂ (λ (a b : ℕ). removal_on binary (entry m) (a + b) (first_lines (height m)) (first_lines m.width)) (length-range_with_len 0 (height m)) (length-range_with_len 0 m.width)
