-- A column written row by row, and the paths of walks written column by column.
use Rattle.std.proofs.Common.{◌≡◌, ◌≢◌, ◌<◌, ◌≤◌, ◌∙◌, ◌⊎◌, inl, inr, ◌+◌, ℕ, ℤ, pos, negsuc, Bool, true, false, cond, List, [], ◌∷◌, replicate, length, get_or, nat_eq, refl, ap, sym, subst, arith}
use Rattle.std.proofs.lemmas.Bool.{cases_eq, cases_lt}
use Rattle.std.proofs.lemmas.List.{get_or-replicate, get_or_past, length-replicate}
use Rattle.cmr_base.specs.declared.network.Pair.{Pair}
use Rattle.cmr_base.specs.Matrix.{Matrix, height, entry, with_entry, IsEntry, IsMatrix}
use Rattle.cmr_base.specs.Trees.{WalkStep, tail, head, direction, IsDirectedPathOf}
use Rattle.cmr_base.specs.WrittenColumns.{IsColumnWritten}
use Rattle.cmr_base.proofs.Entries.{height-with_entry, entry-with_entry_same, entry-with_entry_other_column, entry-with_entry_other_row, is_matrix-with_entry}
use Rattle.cmr_base.proofs.Integers.{sums}

module _ (old : Matrix) (column : ℕ) (entries : List ℤ) where
  pub nothing_written : IsMatrix old → IsColumnWritten old old column entries 0
  nothing_written is = record { is_matrix = is; height_same = refl; width_same = refl; written = λ row l. absurd (omega arith); others = λ i j h. refl }

  module _ (new : Matrix) (count : ℕ) (before : IsColumnWritten old new column entries count) where
    pub zero_written : get_or entries count (pos 0) ≡ pos 0 → entry old count column ≡ pos 0 → IsColumnWritten old new column entries (count + 1)
    zero_written e f = record {
      is_matrix = before.is_matrix;
      height_same = before.height_same;
      width_same = before.width_same;
      written = λ row l. go row l (cases_eq row count);
      others = λ i j h. before.others i j (less i j h);
    }
      where
        go : (row : ℕ) → row < count + 1 → (row ≡ count) ⊎ (row ≢ count) → entry new row column ≡ get_or entries row (pos 0)
        go row l (inl g) = rw g (before.others count column (inr (omega arith)) ∙ f ∙ sym e)
        go row l (inr k) = before.written row (omega arith)

        less : (i j : ℕ) → (j ≢ column) ⊎ (count + 1 ≤ i) → (j ≢ column) ⊎ (count ≤ i)
        less i j (inl k) = inl k
        less i j (inr l) = inr (omega arith)

    pub entry_written : (value : ℤ) → value ≡ get_or entries count (pos 0) → IsEntry value → count < height new → column < new.width
        → IsColumnWritten old (with_entry new count column value) column entries (count + 1)
    entry_written value is small low near = record {
      is_matrix = is_matrix-with_entry new count column value low small before.is_matrix;
      height_same = height-with_entry new count column value ∙ before.height_same;
      width_same = before.width_same;
      written = λ row l. go row l (cases_eq row count);
      others = λ i j h. away i j h (cases_eq i count);
    }
      where
        go : (row : ℕ) → row < count + 1 → (row ≡ count) ⊎ (row ≢ count) → entry (with_entry new count column value) row column ≡ get_or entries row (pos 0)
        go row l (inl g) = rw g (entry-with_entry_same new count column value low before.is_matrix near ∙ is)
        go row l (inr k) = entry-with_entry_other_row new count column value row column k ∙ before.written row (omega arith)

        away : (i j : ℕ) → (j ≢ column) ⊎ (count + 1 ≤ i) → (i ≡ count) ⊎ (i ≢ count) → entry (with_entry new count column value) i j ≡ entry old i j
        away i j (inl k) (inl e) = rw e (entry-with_entry_other_column new count column value low j k ∙ before.others count j (inl k))
        away i j (inr l) (inl e) = absurd (omega arith)
        away i j (inl k) (inr n) = entry-with_entry_other_row new count column value i j n ∙ before.others i j (inl k)
        away i j (inr l) (inr n) = entry-with_entry_other_row new count column value i j n ∙ before.others i j (inr (omega arith))

-- ---- the paths

pub direction_is_small : (steps : List WalkStep) (row : ℕ) → IsEntry (direction steps row)
direction_is_small [] row = record { low = omega (arith, sums); high = omega (arith, sums) }
direction_is_small (step ∷ steps) row = go (nat_eq row step.arc) step.forwards (direction_is_small steps row)
  where
    go : (here forwards : Bool) → IsEntry (direction steps row) → IsEntry (cond here (cond forwards (pos 1) (negsuc 0)) (direction steps row))
    go true true rest = record { low = omega (arith, sums); high = omega (arith, sums) }
    go true false rest = record { low = omega (arith, sums); high = omega (arith, sums) }
    go false forwards rest = rest

pub path_is_small : (arcs : List Pair) (entries : List ℤ) (first last : ℕ) → length entries ≡ length arcs → IsDirectedPathOf arcs (length arcs) (λ row. get_or entries row (pos 0)) first last
    → (row : ℕ) → IsEntry (get_or entries row (pos 0))
path_is_small arcs entries first last each path row = go (cases_lt row (length arcs))
  where
    go : (row < length arcs) ⊎ (length arcs ≤ row) → IsEntry (get_or entries row (pos 0))
    go (inl l) = subst IsEntry (sym (path.exact row l)) (direction_is_small path.steps row)
    go (inr l) = subst IsEntry (sym (get_or_past entries row (pos 0) (omega (arith, l, each)))) (record { low = omega (arith, sums); high = omega (arith, sums) })

-- the paths of the walks below a number are written, and the other columns are 0
pub record ArePathsWritten (arcs walks : List Pair) (m : Matrix) (count : ℕ) : Type 0 where
  pub is_matrix : IsMatrix m
  pub height_is : height m ≡ length arcs
  pub width_is : m.width ≡ length walks
  pub paths : (column : ℕ) → column < count → IsDirectedPathOf arcs (length arcs) (λ row. entry m row column) (tail walks column) (head walks column)
  pub zeros : (row column : ℕ) → count ≤ column → entry m row column ≡ pos 0

module _ (arcs walks : List Pair) where
  pub no_paths_written : (m : Matrix) → IsMatrix m → m ≡ record { rows = replicate (length arcs) (replicate (length walks) (pos 0)); width = length walks } → ArePathsWritten arcs walks m 0
  no_paths_written m is e = record {
    is_matrix = is;
    height_is = ap height e ∙ length-replicate (length arcs) (replicate (length walks) (pos 0));
    width_is = ap (λ (k : Matrix). k.width) e;
    paths = λ column l. absurd (omega arith);
    zeros = λ row column l. ap (λ (k : Matrix). entry k row column) e ∙ zeros row column (cases_lt row (length arcs)) (cases_lt column (length walks));
  }
    where
      in_row : (column : ℕ) → (column < length walks) ⊎ (length walks ≤ column) → get_or (replicate (length walks) (pos 0)) column (pos 0) ≡ pos 0
      in_row column (inl l) = get_or-replicate (length walks) column (pos 0) (pos 0) l
      in_row column (inr l) = get_or_past (replicate (length walks) (pos 0)) column (pos 0) (omega (arith, l, length-replicate (length walks) (pos 0)))

      zeros : (row column : ℕ) → (row < length arcs) ⊎ (length arcs ≤ row) → (column < length walks) ⊎ (length walks ≤ column)
          → get_or (get_or (replicate (length arcs) (replicate (length walks) (pos 0))) row []) column (pos 0) ≡ pos 0
      zeros row column (inl l) h = ap (λ r. get_or r column (pos 0)) (get_or-replicate (length arcs) row (replicate (length walks) (pos 0)) [] l) ∙ in_row column h
      zeros row column (inr l) h = ap (λ r. get_or r column (pos 0))
          (get_or_past (replicate (length arcs) (replicate (length walks) (pos 0))) row [] (omega (arith, l, length-replicate (length arcs) (replicate (length walks) (pos 0)))))

  pub one_path_written : (old new : Matrix) (count : ℕ) (entries : List ℤ) → ArePathsWritten arcs walks old count → length entries ≡ length arcs
      → IsDirectedPathOf arcs (length arcs) (λ row. get_or entries row (pos 0)) (tail walks count) (head walks count)
      → IsColumnWritten old new count entries (length entries) → ArePathsWritten arcs walks new (count + 1)
  one_path_written old new count entries before each path here = record {
    is_matrix = here.is_matrix;
    height_is = here.height_same ∙ before.height_is;
    width_is = here.width_same ∙ before.width_is;
    paths = λ column l. go column l (cases_eq column count);
    zeros = λ row column l. here.others row column (inl (λ e. omega arith)) ∙ before.zeros row column (omega arith);
  }
    where
      written : IsDirectedPathOf arcs (length arcs) (λ row. entry new row count) (tail walks count) (head walks count)
      written = record { steps = path.steps; walk = path.walk; once = path.once; exact = λ row l. here.written row (omega (arith, l, each)) ∙ path.exact row l }

      kept : (column : ℕ) → column < count → IsDirectedPathOf arcs (length arcs) (λ row. entry new row column) (tail walks column) (head walks column)
      kept column l = let p = before.paths column l in record { steps = p.steps; walk = p.walk; once = p.once; exact = λ row k. here.others row column (inl (λ e. omega arith)) ∙ p.exact row k }

      go : (column : ℕ) → column < count + 1 → (column ≡ count) ⊎ (column ≢ count) → IsDirectedPathOf arcs (length arcs) (λ row. entry new row column) (tail walks column) (head walks column)
      go column l (inl e) = subst (λ k. IsDirectedPathOf arcs (length arcs) (λ row. entry new row k) (tail walks k) (head walks k)) (sym e) written
      go column l (inr k) = kept column (omega arith)
