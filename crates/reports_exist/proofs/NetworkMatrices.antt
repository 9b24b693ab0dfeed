-- A network has a matrix.
use Rattle.std.proofs.Common.{◌≡◌, ◌≤◌, ◌<◌, ◌∙◌, ◌⊎◌, inl, inr, ℕ, ℤ, pos, Bool, true, false, cond, List, [], ◌∷◌, refl, ap, sym, subst, arith}
use Rattle.std.proofs.lemmas.Bool.{cases_lt}
use Rattle.cmr_base.specs.declared.network.Network.{Network as Net}
use Rattle.cmr_base.specs.declared.network.Pair.{Pair}
use Rattle.cmr_base.specs.Matrix.{Matrix, IsEntry, IsMatrix, entry, height}
use Rattle.cmr_base.specs.MatrixSums.{filled}
use Rattle.cmr_base.specs.Members.{IsDistinct, IsIn}
use Rattle.cmr_base.specs.Trees.{IsDirectedPathOf, IsNetworkOf, IsWalk, Realises, Reproduces, WalkStep, arcs_of, direction, from, head, tail, to}
use Rattle.cmr_base.proofs.FilledCells.{filled_small}
use Rattle.cmr_base.proofs.FilledMatrices.{entry-filled, height-filled}
use Rattle.cmr_base.proofs.RowLists.{in_or_not}
use Rattle.cmr_base.proofs.SmallEntries.{zero_is_entry}
use Rattle.cmr_base.proofs.ColumnSteps.{direction_is_small}
use Rattle.pivots.proofs.PartLaws.{rectangular_filled}

-- ---- walks without a repeated arc

-- a walk that uses no arc twice
record IsPath (arcs : List Pair) (x y : ℕ) : Type 0 where
  steps : List WalkStep
  walk : IsWalk arcs x steps y
  once : IsDistinct (arcs_of steps)

module _ (arcs : List Pair) where
  -- the last part of a path from the step over an arc on
  record IsLastPart (r y : ℕ) : Type 0 where
    step : WalkStep
    after : List WalkStep
    arc_is : step.arc ≡ r
    walk : IsWalk arcs (from arcs step) (step ∷ after) y
    once : IsDistinct (arcs_of (step ∷ after))

  last_part : (r x y : ℕ) (steps : List WalkStep) → IsWalk arcs x steps y → IsDistinct (arcs_of steps) → IsIn r (arcs_of steps) → IsLastPart r y
  last_part r x y [] walk once h = absurd h
  last_part r x y (step ∷ steps) walk once (inl e) = record { step = step; after = steps; arc_is = sym e; walk = (walk.0, refl, walk.2); once = once }
  last_part r x y (step ∷ steps) walk once (inr h) = last_part r (to arcs step) y steps walk.2 once.1 h

  -- a step and the path after it, which uses the arc of the step again
  around : (step : WalkStep) (y : ℕ) → IsLastPart step.arc y → IsPath arcs (from arcs step) y
  around step y part = go step.forwards part.step.forwards refl refl
    where
      same_ends : (b : Bool) → step.forwards ≡ b → part.step.forwards ≡ b → from arcs part.step ≡ from arcs step
      same_ends b e f = ap (λ a. cond part.step.forwards (tail arcs a) (head arcs a)) part.arc_is ∙ ap (λ c. cond c (tail arcs step.arc) (head arcs step.arc)) (f ∙ sym e)

      back_again : to arcs part.step ≡ from arcs step → IsPath arcs (from arcs step) y
      back_again e = record { steps = part.after; walk = subst (λ x. IsWalk arcs x part.after y) e part.walk.2; once = part.once.1 }

      on_again : from arcs part.step ≡ from arcs step → IsPath arcs (from arcs step) y
      on_again e = record { steps = part.step ∷ part.after; walk = subst (λ x. IsWalk arcs x (part.step ∷ part.after) y) e part.walk; once = part.once }

      go : (b c : Bool) → step.forwards ≡ b → part.step.forwards ≡ c → IsPath arcs (from arcs step) y
      go true true e f = on_again (same_ends true e f)
      go false false e f = on_again (same_ends false e f)
      go true false e f = back_again (ap (λ c. cond c (head arcs part.step.arc) (tail arcs part.step.arc)) f ∙ ap (tail arcs) part.arc_is ∙ sym (ap (λ c. cond c (tail arcs step.arc) (head arcs step.arc)) e))
      go false true e f = back_again (ap (λ c. cond c (head arcs part.step.arc) (tail arcs part.step.arc)) f ∙ ap (head arcs) part.arc_is ∙ sym (ap (λ c. cond c (tail arcs step.arc) (head arcs step.arc)) e))

  path_of : (x y : ℕ) (steps : List WalkStep) → IsWalk arcs x steps y → IsPath arcs x y
  path_of x y [] walk = record { steps = []; walk = walk; once = tt }
  path_of x y (step ∷ steps) walk = go (path_of (to arcs step) y steps walk.2)
    where
      go : IsPath arcs (to arcs step) y → IsPath arcs x y
      go rest = elim (in_or_not step.arc (arcs_of rest.steps)) [
        | inl again ↦ subst (λ z. IsPath arcs z y) walk.1 (around step y (last_part step.arc (to arcs step) y rest.steps rest.walk rest.once again))
        | inr new ↦ record { steps = step ∷ rest.steps; walk = (walk.0, walk.1, rest.walk); once = (new, rest.once) }
      ]

-- ---- the matrix

module _ (net : Net) (m n : ℕ) (is : IsNetworkOf net m n) where
  column_path : (column : ℕ) → column < n → IsPath net.arcs (tail net.walks column) (head net.walks column)
  column_path column l =
      let ends = is.nodes column l in
      let linked = is.tree.linked (tail net.walks column) (head net.walks column) ends.0 ends.1 in
      path_of net.arcs (tail net.walks column) (head net.walks column) linked.0 linked.1

  entries : ℕ → ℕ → ℤ
  entries row column = elim (cases_lt column n) as (λ _. ℤ) [
    | inl l ↦ direction (column_path column l).steps row
    | inr l ↦ pos 0
  ]

  entries_small : (row column : ℕ) → IsEntry (entries row column)
  unfolding entries
  entries_small row column = go (cases_lt column n)
    where
      go : (c : (column < n) ⊎ (n ≤ column)) → IsEntry (elim c as (λ _. ℤ) [ inl l ↦ direction (column_path column l).steps row | inr l ↦ pos 0 ])
      go (inl l) = direction_is_small (column_path column l).steps row
      go (inr l) = zero_is_entry

  -- the entries of a column are the directions of a path
  record IsColumn (column : ℕ) : Type 0 where
    path : IsPath net.arcs (tail net.walks column) (head net.walks column)
    same : (row : ℕ) → entries row column ≡ direction path.steps row

  column_is : (column : ℕ) → column < n → IsColumn column
  unfolding entries
  column_is column l = go (cases_lt column n) refl
    where
      go : (c : (column < n) ⊎ (n ≤ column)) → cases_lt column n ≡ c → IsColumn column
      go (inl low) e = record { path = column_path column low; same = λ row. ap (λ c. elim c as (λ _. ℤ) [ inl l ↦ direction (column_path column l).steps row | inr l ↦ pos 0 ]) e }
      go (inr high) e = absurd (omega (arith, l, high))

  pub network_matrix : Matrix
  network_matrix = filled m n entries

  pub network_height : height network_matrix ≡ m
  unfolding network_matrix
  network_height = height-filled m n entries

  pub network_width : network_matrix.width ≡ n
  unfolding network_matrix
  network_width = refl

  pub network_is_matrix : m ≤ 1000 → n ≤ 1000 → IsMatrix network_matrix
  unfolding network_matrix
  network_is_matrix rows columns = record {
    rectangular = rectangular_filled m n entries;
    small = filled_small m n entries entries_small;
    height_in = subst (λ k. k ≤ 1000) (sym (height-filled m n entries)) rows;
    width_in = columns;
  }

  pub network_reproduces : Reproduces net network_matrix
  unfolding network_matrix
  network_reproduces = subst (λ k. Realises net (entry (filled m n entries)) k n) (sym (height-filled m n entries)) (record { network = is; paths = paths })
    where
      paths : (column : ℕ) → column < n → IsDirectedPathOf net.arcs m (λ row. entry (filled m n entries) row column) (tail net.walks column) (head net.walks column)
      paths column l = let it = column_is column l in record {
        steps = it.path.steps;
        walk = it.path.walk;
        once = it.path.once;
        exact = λ row low. entry-filled m n entries row column low l ∙ it.same row;
      }
