-- The lines that the stated order removes from a node's submatrix are reducible in their turn, by their numbers in the whole matrix.
use Rattle.std.proofs.Common.{◌≡◌, ◌<◌, ◌+◌, ◌∙◌, inl, inr, ℕ, zero, suc, ℤ, ◌*ℤ◌, Bool, true, false, cond, not, eqb, List, [], ◌∷◌, length, map, get_or, Option, Some, None, refl, ap, sym, subst, arith, eqb-true}
use Rattle.std.proofs.lemmas.Bool.{eq-eqb, eqb-false}
use Rattle.std.proofs.lemmas.List.{length-map, get_or-map}
use Rattle.std.specs.Prelude.{IsSome}
use Rattle.std.specs.List.Sorted.{IsStrictlyIncreasing}
use Rattle.cmr_base.specs.declared.line.Line.{Line}
use Rattle.cmr_base.specs.declared.line.Line.TheVariants.{Row, Column}
use Rattle.cmr_base.specs.declared.line.Step.{Step}
use Rattle.cmr_base.specs.declared.line_set.LineSet.{LineSet}
use Rattle.cmr_base.specs.Matrix.{Matrix, entry}
use Rattle.cmr_base.specs.LineSets.{without}
use Rattle.cmr_base.specs.Members.{IsIn}
use Rattle.cmr_base.specs.Reductions.{HasLine, line_reason, rows_without, columns_without, lines_of, first_step, removal_on}
use Rattle.cmr_base.proofs.ListsWithout.{in_from_contains, contains_from_in, in-get_or}
use Rattle.cmr_base.proofs.RemovedLines.{rows_increase, columns_increase, rows_within, columns_within, has_line_from_among}
use Rattle.cmr_base.proofs.Submatrices.{increasing_places}
use Rattle.cmr_base.proofs.ThinLines.{IsThin}
use Rattle.cmr_base.proofs.ReducibleLines.{HasTwin, IsReducible, reducible_from_reason, reason_from_reducible}
use Rattle.sp_reduce.proofs.Orders.{search_is, after_step}
use Rattle.tree_type.specs.Invariant.{AreLines}
use Rattle.tree_type.specs.Soundness.{part, AreReductions}
use Rattle.decomp_tree.specs.Shapes.{numbered, numbered_line}
use Rattle.decomp_tree.proofs.Numbered.{entry_in, in_map, map_in, once}

module _ (N M : ℕ → ℕ → ℤ) (f g : ℕ → ℕ) (R C : List ℕ) (i : ℕ) (there : IsIn i R) (same : (r c : ℕ) → IsIn r R → IsIn c C → N r c ≡ M (f r) (g c)) (one : (r s : ℕ) → IsIn r R → IsIn s R → f r ≡ f s → r ≡ s) where
  thin_named : IsThin C (N i) → IsThin (map g C) (M (f i))
  thin_named thin x y h k d e =
      let a = map_in g C x h in
      let b = map_in g C y k in
      a.2 ∙ ap g (thin a.0 b.0 a.1 b.1 (λ z. d (ap (M (f i)) a.2 ∙ sym (same i a.0 there a.1) ∙ z)) (λ z. e (ap (M (f i)) b.2 ∙ sym (same i b.0 there b.1) ∙ z))) ∙ sym b.2

  twin_named : HasTwin false N R C i → HasTwin false M (map f R) (map g C) (f i)
  twin_named t = record {
    line = f t.line;
    stays = in_map f R t.line t.stays;
    other = λ e. t.other (one t.line i t.stays there e);
    factor = t.factor;
    is_factor = t.is_factor;
    same = λ x h. let a = map_in g C x h in
        ap (M (f t.line)) a.2 ∙ sym (same t.line a.0 t.stays a.1) ∙ t.same a.0 a.1 ∙ ap (λ z. t.factor *ℤ z) (same i a.0 there a.1 ∙ ap (M (f i)) (sym a.2));
  }

  named_reducible : IsReducible false N R C i → IsReducible false M (map f R) (map g C) (f i)
  named_reducible (inl thin) = inl (thin_named thin)
  named_reducible (inr twin) = inr (twin_named twin)

without_named : (f : ℕ → ℕ) (R : List ℕ) (i : ℕ) → ((r : ℕ) → IsIn r R → f r ≡ f i → r ≡ i) → without (map f R) (f i) ≡ map f (without R i)
without_named f [] i one = refl
without_named f (r ∷ R) i one = go (eqb r i) refl (without_named f R i (λ s h. one s (inr h)))
  where
    go : (b : Bool) → eqb r i ≡ b → without (map f R) (f i) ≡ map f (without R i)
        → cond (not (eqb (f r) (f i))) (f r ∷ without (map f R) (f i)) (without (map f R) (f i)) ≡ map f (cond (not (eqb r i)) (r ∷ without R i) (without R i))
    go true e h = rw (e, eq-eqb (f r) (f i) (ap f (eqb-true r i e))) h
    go false e h = rw (e, apart (eqb (f r) (f i)) refl) (ap (λ xs. f r ∷ xs) h)
      where
        apart : (b : Bool) → eqb (f r) (f i) ≡ b → eqb (f r) (f i) ≡ false
        apart true k = absurd (eqb-false r i e (one r (inl refl) (eqb-true (f r) (f i) k)))
        apart false k = k

pub increasing_named : (xs C : List ℕ) → IsStrictlyIncreasing xs → IsStrictlyIncreasing C → ((c : ℕ) → IsIn c C → c < length xs) → IsStrictlyIncreasing (map (numbered xs) C)
increasing_named xs C increases C_increases low k l =
    let more : k + 1 < length C = omega (arith, l, length-map C (numbered xs)) in
    let less : k < length C = omega (arith, more) in
    let first = get_or-map (numbered xs) C k 0 0 less in
    let second = get_or-map (numbered xs) C (k + 1) 0 0 more in
    let before = increasing_places xs (get_or C k 0) (get_or C (k + 1) 0) increases (C_increases k more) (low (get_or C (k + 1) 0) (in-get_or C (k + 1) more)) in
    omega (arith, first, second, before)

module _ (m : Matrix) (lines : LineSet) (are : AreLines m lines) where
  row_name : ℕ → ℕ
  row_name = numbered lines.rows

  column_name : ℕ → ℕ
  column_name = numbered lines.columns

  -- rows and columns that stay
  pub record AreLeft (R C : List ℕ) : Type 0 where
    pub rows_increase : IsStrictlyIncreasing R
    pub columns_increase : IsStrictlyIncreasing C
    pub rows_low : (r : ℕ) → IsIn r R → r < length lines.rows
    pub columns_low : (c : ℕ) → IsIn c C → c < length lines.columns

  reason_named : (R C : List ℕ) (line : Line) → AreLeft R C → HasLine R C line → IsSome (line_reason false (entry (part m lines)) R C line)
      → IsSome (line_reason false (entry m) (map (numbered lines.rows) R) (map (numbered lines.columns) C) (numbered_line lines line))
  reason_named R C (Row r) left h some =
      reason_from_reducible false (entry m) Row Column (map (numbered lines.rows) R) (map (numbered lines.columns) C) (numbered lines.rows r)
      (increasing_named lines.columns C are.columns.increasing left.columns_increase left.columns_low)
      (named_reducible (entry (part m lines)) (entry m) (numbered lines.rows) (numbered lines.columns) R C r (in_from_contains R r h)
      (λ i j x y. entry_in m lines i j (left.rows_low i x) (left.columns_low j y))
      (λ i j x y e. once lines.rows are.rows.increasing (λ _. true) i j (left.rows_low i x) (left.rows_low j y) e)
      (reducible_from_reason false (entry (part m lines)) Row Column R C r some))
  reason_named R C (Column c) left h some =
      reason_from_reducible false (λ j i. entry m i j) Column Row (map (numbered lines.columns) C) (map (numbered lines.rows) R) (numbered lines.columns c)
      (increasing_named lines.rows R are.rows.increasing left.rows_increase left.rows_low)
      (named_reducible (λ j i. entry (part m lines) i j) (λ j i. entry m i j) (numbered lines.columns) (numbered lines.rows) C R c (in_from_contains C c h)
      (λ j i y x. entry_in m lines i j (left.rows_low i x) (left.columns_low j y))
      (λ i j x y e. once lines.columns are.columns.increasing (λ _. true) i j (left.columns_low i x) (left.columns_low j y) e)
      (reducible_from_reason false (λ j i. entry (part m lines) i j) Column Row C R c some))

  pub has_line_named : (R C : List ℕ) (line : Line) → HasLine R C line → HasLine (map (numbered lines.rows) R) (map (numbered lines.columns) C) (numbered_line lines line)
  has_line_named R C (Row r) h = contains_from_in (map (numbered lines.rows) R) (numbered lines.rows r) (in_map (numbered lines.rows) R r (in_from_contains R r h))
  has_line_named R C (Column c) h = contains_from_in (map (numbered lines.columns) C) (numbered lines.columns c) (in_map (numbered lines.columns) C c (in_from_contains C c h))

  pub rows_named : (R C : List ℕ) (line : Line) → AreLeft R C → HasLine R C line
      → rows_without (map (numbered lines.rows) R) (numbered_line lines line) ≡ map (numbered lines.rows) (rows_without R line)
  rows_named R C (Row r) left h = without_named (numbered lines.rows) R r (λ s x e. once lines.rows are.rows.increasing (λ _. true) s r (left.rows_low s x) (left.rows_low r (in_from_contains R r h)) e)
  rows_named R C (Column c) left h = refl

  pub columns_named : (R C : List ℕ) (line : Line) → AreLeft R C → HasLine R C line
      → columns_without (map (numbered lines.columns) C) (numbered_line lines line) ≡ map (numbered lines.columns) (columns_without C line)
  columns_named R C (Row r) left h = refl
  columns_named R C (Column c) left h = without_named (numbered lines.columns) C c (λ s x e. once lines.columns are.columns.increasing (λ _. true) s c (left.columns_low s x) (left.columns_low c (in_from_contains C c h)) e)

  pub fewer_left : (R C : List ℕ) (line : Line) → AreLeft R C → AreLeft (rows_without R line) (columns_without C line)
  fewer_left R C line left = record {
    rows_increase = rows_increase line R left.rows_increase;
    columns_increase = columns_increase line C left.columns_increase;
    rows_low = λ r h. left.rows_low r (rows_within line R r h);
    columns_low = λ c h. left.columns_low c (columns_within line C c h);
  }

  pub removed : (n : ℕ) (R C : List ℕ) → AreLeft R C
      → AreReductions (entry m) (map (numbered lines.rows) R) (map (numbered lines.columns) C) (map (numbered_line lines) (map (λ step. step.line) (removal_on false (entry (part m lines)) n R C).steps))
  removed zero R C left = tt
  removed (suc n) R C left = go (first_step false (entry (part m lines)) R C (lines_of R C)) refl (λ line left. removed n (rows_without R line) (columns_without C line) left)
    where
      go : (o : Option Step) → first_step false (entry (part m lines)) R C (lines_of R C) ≡ o
          → ((line : Line) → AreLeft (rows_without R line) (columns_without C line) → AreReductions (entry m) (map (numbered lines.rows) (rows_without R line)) (map (numbered lines.columns) (columns_without C line))
          (map (numbered_line lines) (map (λ step. step.line) (removal_on false (entry (part m lines)) n (rows_without R line) (columns_without C line)).steps)))
          → AreReductions (entry m) (map (numbered lines.rows) R) (map (numbered lines.columns) C) (map (numbered_line lines) (map (λ step. step.line) (after_step false (entry (part m lines)) n R C o).steps))
      go None e more = tt
      go (Some step) e more =
          let found = search_is false (entry (part m lines)) R C (lines_of R C) step e in
          let has = has_line_from_among step.line R C found.among in (
            has_line_named R C step.line has,
            reason_named R C step.line left has found.some,
            subst (λ rows. AreReductions (entry m) rows (columns_without (map (numbered lines.columns) C) (numbered_line lines step.line)) (map (numbered_line lines) (map (λ step. step.line) (removal_on false (entry (part m lines)) n (rows_without R step.line) (columns_without C step.line)).steps))) (sym (rows_named R C step.line left has))
                (subst (λ columns. AreReductions (entry m) (map (numbered lines.rows) (rows_without R step.line)) columns (map (numbered_line lines) (map (λ step. step.line) (removal_on false (entry (part m lines)) n (rows_without R step.line) (columns_without C step.line)).steps))) (sym (columns_named R C step.line left has))
                (more step.line (fewer_left R C step.line left))),
          )
