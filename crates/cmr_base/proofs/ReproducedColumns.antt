-- Comparisons of columns with the paths of a tree.
use Rattle.std.proofs.Common.{◌≡◌, ◌<◌, ◌↔◌, ◌∙◌, ℕ, ℤ, pos, Bool, true, false, List, ◌++◌, length, take, get_or, refl, ap, sym, subst, arith}
use Rattle.std.proofs.Math.Seq.{take-append_seam}
use Rattle.cmr_base.specs.declared.network.Network.{Network}
use Rattle.cmr_base.specs.declared.network.Pair.{Pair}
use Rattle.cmr_base.specs.declared.reproduce.Comparison.{Comparison}
use Rattle.cmr_base.specs.declared.reproduce.Comparison.TheVariants.{Support, Signs}
use Rattle.cmr_base.specs.Matrix.{Matrix, height, entry, is_nonzero}
use Rattle.cmr_base.specs.Members.{IsIn}
use Rattle.cmr_base.specs.Comparisons.{Agrees, IsColumnPath, IsReproduced}
use Rattle.cmr_base.specs.RootedTrees.{AreEndsInRange}
use Rattle.cmr_base.specs.Trees.{tail, head, IsTree, arcs_of, direction, IsDirectedPathOf, support}
use Rattle.cmr_base.proofs.TreeTests.{path_by_walk, directed_path_by_walk}
use Rattle.cmr_base.proofs.ReproducedCuts.{nonzero_direction}

abbrev pub ColumnAgrees : Comparison → Matrix → ℕ → List ℤ → Type 0
ColumnAgrees comparison m column directions = (row : ℕ) → row < height m → Agrees comparison (entry m row column) (get_or directions row (pos 0))

-- the directions of any path between the ends of a column's walk decide the comparison
pub column_by_directions : (comparison : Comparison) (arcs walks : List Pair) (m : Matrix) (column : ℕ) (directions : List ℤ) → IsTree arcs (height m)
    → IsDirectedPathOf arcs (length arcs) (λ row. get_or directions row (pos 0)) (tail walks column) (head walks column)
    → IsColumnPath comparison arcs walks m column ↔ ColumnAgrees comparison m column directions
column_by_directions Signs arcs walks m column directions T D =
    let both = directed_path_by_walk arcs (height m) T (tail walks column) (head walks column) D.steps D.walk D.once (λ row. entry m row column) in (
      (λ p row l. both.0 p row l ∙ sym (D.exact row (omega (arith, l, T.count)))),
      (λ a. both.1 (λ row l. a row l ∙ D.exact row (omega (arith, l, T.count)))),
    )
column_by_directions Support arcs walks m column directions T D =
    let both = path_by_walk arcs (height m) T (tail walks column) (head walks column) D.steps D.walk D.once (λ row. support m row column) in (
      (λ p row l. same (support m row column) (is_nonzero (direction D.steps row)) (both_ways (support m row column) row (both.0 p row l)) ∙ sym (ap is_nonzero (D.exact row (omega (arith, l, T.count))))),
      (λ a. both.1 (λ row l.
          let e = a row l ∙ ap is_nonzero (D.exact row (omega (arith, l, T.count))) in
          ((λ t. (nonzero_direction D.steps row).0 (sym e ∙ t)), (λ h. e ∙ (nonzero_direction D.steps row).1 h)))),
    )
  where
    same : (a b : Bool) → (a ≡ true) ↔ (b ≡ true) → a ≡ b
    same true b h = sym (h.0 refl)
    same false true h = h.1 refl
    same false false h = refl

    both_ways : (a : Bool) (row : ℕ) → (a ≡ true) ↔ IsIn row (arcs_of D.steps) → (a ≡ true) ↔ (is_nonzero (direction D.steps row) ≡ true)
    both_ways a row h = ((λ t. (nonzero_direction D.steps row).1 (h.0 t)), (λ t. h.1 ((nonzero_direction D.steps row).0 t)))

-- a tree and walks in range reproduce a matrix if and only if each column is the path of its walk
reproduced_by_columns : (comparison : Comparison) (net : Network) (m : Matrix) → IsTree net.arcs (height m) → length net.walks ≡ m.width → AreEndsInRange net.walks (height m)
    → IsReproduced comparison net m ↔ ((column : ℕ) → column < m.width → IsColumnPath comparison net.arcs net.walks m column)
reproduced_by_columns Support net m T count ends = (
  (λ R. R.paths),
  (λ paths. record { network = record { tree = T; count = count; nodes = λ column l. ends column (omega (arith, l, count)) }; paths = paths }),
)
reproduced_by_columns Signs net m T count ends = (
  (λ R. R.paths),
  (λ paths. record { network = record { tree = T; count = count; nodes = λ column l. ends column (omega (arith, l, count)) }; paths = paths }),
)

pub reproduced_by_slices : (comparison : Comparison) (net : Network) (m : Matrix) (arcs walks : List Pair) → arcs ≡ net.arcs → walks ≡ net.walks
    → IsTree arcs (height m) → length walks ≡ m.width → AreEndsInRange walks (height m)
    → IsReproduced comparison net m ↔ ((column : ℕ) → column < m.width → IsColumnPath comparison arcs walks m column)
reproduced_by_slices comparison net m arcs walks e f T count ends =
    subst (λ (a : List Pair). IsReproduced comparison net m ↔ ((column : ℕ) → column < m.width → IsColumnPath comparison a walks m column)) (sym e)
    (subst (λ (w : List Pair). IsReproduced comparison net m ↔ ((column : ℕ) → column < m.width → IsColumnPath comparison net.arcs w m column)) (sym f)
    (reproduced_by_columns comparison net m (subst (λ (a : List Pair). IsTree a (height m)) e T) (sym (ap length f) ∙ count) (subst (λ (w : List Pair). AreEndsInRange w (height m)) f ends)))

-- a whole slice is written back
pub written_back : {A : Type 0} (n : ℕ) (items old : List A) → n ≡ length items → take n (items ++ old) ≡ items
written_back n items old e = ap (λ (k : ℕ). take k (items ++ old)) e ∙ take-append_seam items old
