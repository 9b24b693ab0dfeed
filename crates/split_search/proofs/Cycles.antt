-- The paths from the rows of a column to their root, and that column.
use Rattle.std.proofs.Common.{◌≡◌, ◌≢◌, ◌<◌, ◌∙◌, inl, inr, ℕ, ℤ, pos, ◌+ℤ◌, ◌-ℤ◌, Bool, true, false, not, List, length, get_or, replicate, Option, Some, None, refl, ap, sym, subst, arith}
use Rattle.std.proofs.lemmas.List.{get_or-set_same, get_or-set_other, length-set}
use Rattle.cmr_base.specs.Sums.{sum_over, IsEven}
use Rattle.cmr_base.proofs.Booleans.{two_cases, true_is_false}
use Rattle.cmr_base.proofs.Integers.{sums}
use Rattle.cmr_base.proofs.Lists.{get_or-replicated}
use Rattle.ghouila.proofs.Marks.{marked-replicate}
use Rattle.sparse_matrix.specs.declared.nonzero.Nonzero.{Nonzero}
use Rattle.sparse_matrix.specs.SparseRows.{SparseRows, sparse_entry, AreSparseRows, IsNonzeroWithin}
use Rattle.split_search.specs.declared.forest.Node.{Node}
use Rattle.split_search.specs.RowForests.{row_node, HasEnds, Spans}
use Rattle.sparse_matrix.specs.LineMarks.{is_marked}
use Rattle.split_search.specs.Paths.{node_root, root_at, AreSignsOf, unit_at, marked_sum, CancelsTwo, TurnsPath, IsCycle}
use Rattle.split_search.proofs.Turns.{turned, turned_even, ends_even, ends_inside, ends_within}

closed_even : (s a b u f p q r h : ℤ) → s ≡ pos 0 → r ≡ h → IsEven ((s +ℤ a) +ℤ (p +ℤ r)) → IsEven ((a +ℤ b) +ℤ (q +ℤ h)) → IsEven ((b +ℤ u) +ℤ f) → IsEven (f +ℤ (p +ℤ q)) → IsEven u
closed_even s a b u f p q r h z e (i, d) (j, g) (k, m) (l, n) = (((((((((i +ℤ j) +ℤ k) +ℤ l) -ℤ a) -ℤ b) -ℤ f) -ℤ p) -ℤ q) -ℤ h, omega (arith, sums))

module _ (t : SparseRows) (nodes : List (Option Node)) (first_marks second_marks : List Bool) (column high other : ℕ) (x y : Nonzero)
    (shape : AreSparseRows t) (spans : Spans t nodes) (ends : HasEnds t column x y) (apart : x.line ≢ y.line)
    (one : TurnsPath t nodes (replicate (length t.runs) false) first_marks x.line high) (two : TurnsPath t nodes first_marks second_marks y.line other)
    (high_is : high ≡ root_at nodes x.line) (other_is : other ≡ root_at nodes y.line) (count : length (replicate (length t.runs) false) ≡ length t.runs) where
  within : IsNonzeroWithin t.width x × IsNonzeroWithin t.width y
  within = ends_within t column x y shape ends

  same_root : root_at nodes x.line ≡ root_at nodes y.line
  same_root = go (row_node nodes x.line) (row_node nodes y.line) refl refl
    where
      go : (o p : Option Node) → row_node nodes x.line ≡ o → row_node nodes y.line ≡ p → root_at nodes x.line ≡ root_at nodes y.line
      go None p e f = absurd (spans.reached x.line within.0.inside e)
      go (Some n) None e f = absurd (spans.reached y.line within.1.inside f)
      go (Some n) (Some p) e f = ap node_root e ∙ spans.joins column x y n p ends e f ∙ sym (ap node_root f)

  same_high : high ≡ other
  same_high = high_is ∙ same_root ∙ sym other_is

  no_mark : (k : ℕ) → is_marked (replicate (length t.runs) false) k ≡ false
  no_mark k = get_or-replicated (length t.runs) k false

  size : length second_marks ≡ length t.runs
  size = two.size ∙ one.size ∙ count

  both_cancel : (sign : ℕ → ℤ) → AreSignsOf nodes sign → (k : ℕ) → is_marked second_marks k ≡ true → CancelsTwo t sign k
  both_cancel sign signs k h = elim (two.cancel sign signs k h) [
    | inr c ↦ c
    | inl g ↦ elim (one.cancel sign signs k g) [
      | inr c ↦ c
      | inl z ↦ true_is_false (sym z ∙ no_mark k)
    ]
  ]

  nothing : (row : ℕ) → marked_sum t (replicate (length t.runs) false) row ≡ pos 0
  nothing row = ap (λ (lines : List ℕ). sum_over lines (λ k. sparse_entry t k row)) (marked-replicate 0 (length t.runs))

  column_in : column < length second_marks
  column_in = subst (λ (n : ℕ). column < n) (sym size) (ends_inside t column x y ends)

  here_marked : (sign : ℕ → ℤ) → AreSignsOf nodes sign → (CancelsTwo t sign column → ⊥) → is_marked (turned second_marks column) column ≡ true
  here_marked sign signs no_cancel = elim (two_cases (is_marked second_marks column)) [
    | inl h ↦ absurd (no_cancel (both_cancel sign signs column h))
    | inr h ↦ get_or-set_same second_marks column (not (get_or second_marks column false)) false column_in ∙ ap not h
  ]

  pub cycle_closed : IsCycle t nodes column (turned second_marks column)
  cycle_closed = record {
    size = length-set second_marks column (not (get_or second_marks column false)) ∙ size;
    even = λ row. closed_even (marked_sum t (replicate (length t.runs) false) row) (marked_sum t first_marks row) (marked_sum t second_marks row)
        (marked_sum t (turned second_marks column) row) (sparse_entry t column row)
        (unit_at x.line row) (unit_at y.line row) (unit_at high row) (unit_at other row) (nothing row) (ap (λ (k : ℕ). unit_at k row) same_high)
        (one.even row) (two.even row) (turned_even second_marks column (λ k. sparse_entry t k row) column_in) (ends_even t column x y row ends apart within.0.sign within.1.sign);
    cancel = λ sign signs k h n. both_cancel sign signs k (sym (get_or-set_other second_marks column k (not (get_or second_marks column false)) false n) ∙ h);
    here = here_marked;
  }
