-- The matrix of a part, run by run.
use Rattle.std.proofs.Common.{◌≡◌, ◌≢◌, ◌<◌, ◌≤◌, ◌+◌, ◌++◌, ◌∙◌, ◌⊎◌, cond, if◌then◌else◌, inl, inr, nat_eq, map, take, to_z, of_z}
use Rattle.std.proofs.Common.{w8, ℕ, ℤ, pos, Bool, true, false, List, [], ◌∷◌, length, get_or, replicate, refl, ap, sym, subst, arith}
use Rattle.std.proofs.lemmas.List.{get_or-set_other, get_or-set_same, length-map, length-replicate, length-set, map-append}
use Rattle.std.proofs.lemmas.List.Elements.{Contains-get_or}
use Rattle.std.specs.List.{AllByRecursion, Contains}
use Rattle.std.specs.List.Sorted.{IsStrictlyIncreasing}
use Rattle.cmr_base.specs.declared.line_set.LineSet.{LineSet}
use Rattle.cmr_base.specs.Matrix.{entry, height}
use Rattle.cmr_base.specs.LineSets.{submatrix}
use Rattle.cmr_base.proofs.Booleans.{is_eq, is_ne, same_or_not, true_is_false}
use Rattle.cmr_base.proofs.Lists.{all-take, all_at, all_by_places, get_or-replicated}
use Rattle.cmr_base.proofs.ListsWithout.{increasing_distinct, same_place}
use Rattle.cmr_base.proofs.Parts.{entry-submatrix, is_ternary-submatrix}
use Rattle.cmr_base.proofs.WholeMatrices.{same_matrix}
use Rattle.sparse_matrix.specs.declared.nonzero.Nonzero.{Nonzero}
use Rattle.sparse_matrix.specs.LineMarks.{is_marked}
use Rattle.sparse_matrix.specs.SparseRows.{SparseRows, AreInDistinctLines, AreSparseRows, IsNonzeroWithin, matrix_of_runs, run_of, sparse_entry, value_in, with_nonzero}
use Rattle.sparse_matrix.proofs.MarkedLines.{no_nonzero, value_there}
use Rattle.sparse_matrix.proofs.Matrices.{matrix_entry, matrix_is_ternary}
use Rattle.sparse_matrix.proofs.Runs.{byte_sign, free_line}
use Rattle.core_parts.specs.CoreParts.{HasColumnsAtPlaces, IsAtPlace, place_at}
use Rattle.core_parts.specs.PartRuns.{AreAtPlaces, HasRun, at_place, marked_run, placed_run}
use Rattle.core_parts.proofs.MarkedRuns.{run_with, run_without}

-- ---- a run at places

module _ (columns : List ℕ) (marks : List Bool) (places : List ℕ) (increasing : IsStrictlyIncreasing columns) where
  value_placed : (run : List Nonzero) → AreAtPlaces columns marks places run → (line place : ℕ) → IsAtPlace columns line place → is_marked marks line ≡ true
      → value_in (placed_run marks places run) place ≡ value_in run line
  value_placed [] are line place there mark = refl
  value_placed (x ∷ run) are line place there mark = go (is_marked marks x.line) refl (same_or_not x.line line) (value_placed run are.1 line place there mark)
    where
      now : Bool → ℤ
      now test = if test then x.value else value_in run line

      placed_now : Bool → ℤ
      placed_now test = if test then x.value else value_in (placed_run marks places run) place

      go : (b : Bool) → is_marked marks x.line ≡ b → (x.line ≡ line) ⊎ (x.line ≢ line) → value_in (placed_run marks places run) place ≡ value_in run line
          → value_in (map (at_place places) (cond b (x ∷ marked_run marks run) (marked_run marks run))) place ≡ now (nat_eq x.line line)
      go true f (inl e) same =
          let here = are.0 f in
          let same_places = same_place columns (place_at places x.line) place (increasing_distinct columns increasing) here.inside there.inside (here.there ∙ e ∙ sym there.there) in
          ap placed_now (is_eq (place_at places x.line) place same_places) ∙ sym (ap now (is_eq x.line line e))
      go true f (inr n) same =
          let here = are.0 f in
          let other : place_at places x.line ≢ place = (λ e. n (sym here.there ∙ ap (λ k. get_or columns k 0) e ∙ there.there)) in
          ap placed_now (is_ne (place_at places x.line) place other) ∙ same ∙ sym (ap now (is_ne x.line line n))
      go false f (inl e) same = true_is_false (sym mark ∙ ap (is_marked marks) (sym e) ∙ f)
      go false f (inr n) same = same ∙ sym (ap now (is_ne x.line line n))

-- ---- a run is copied

module _ (before t : SparseRows) (row k : ℕ) (run : List Nonzero) (columns : List ℕ) (marks : List Bool) (places : List ℕ) (below : k < length run)
    (is : HasRun before row (placed_run marks places (take k run)) t) where
  abbrev here : Nonzero
  here = get_or run k no_nonzero

  pub copy_free : IsStrictlyIncreasing columns → AreAtPlaces columns marks places run → AreInDistinctLines run → is_marked marks here.line ≡ true
      → sparse_entry t row (place_at places here.line) ≡ pos 0
  copy_free increasing are distinct h =
      ap (λ (r : List Nonzero). value_in r (place_at places here.line)) is.here
      ∙ value_placed columns marks places increasing (take k run) (all-take (λ x. is_marked marks x.line ≡ true → IsAtPlace columns x.line (place_at places x.line)) k run are) here.line
      (place_at places here.line) (all_at (λ x. is_marked marks x.line ≡ true → IsAtPlace columns x.line (place_at places x.line)) run k no_nonzero are below h) h
      ∙ free_line run k no_nonzero below distinct

  pub copy_with : (next : SparseRows) → row < length before.runs → (width : ℕ) → AllByRecursion (IsNonzeroWithin width) run → is_marked marks here.line ≡ true
      → next ≡ with_nonzero t row (record { line = place_at places here.line; value = to_z w8 (of_z w8 here.value) }) → HasRun before row (placed_run marks places (take (k + 1) run)) next
  copy_with next inside width within h e = subst (HasRun before row (placed_run marks places (take (k + 1) run))) (sym next_is) (record {
    rows = length-set t.runs row (run_of t row ++ at_place places here ∷ []) ∙ is.rows;
    width = is.width;
    here = get_or-set_same t.runs row (run_of t row ++ at_place places here ∷ []) [] (let same_rows = is.rows in omega (arith, same_rows, inside))
        ∙ ap (λ (r : List Nonzero). r ++ at_place places here ∷ []) is.here
        ∙ sym (ap (map (at_place places)) (run_with marks run k below h) ∙ map-append (at_place places) (marked_run marks (take k run)) (here ∷ []));
    others = λ other n. get_or-set_other t.runs row other (run_of t row ++ at_place places here ∷ []) [] n ∙ is.others other n;
  })
    where
      next_is : next ≡ with_nonzero t row (at_place places here)
      next_is = e ∙ ap (λ (value : ℤ). with_nonzero t row (record { line = place_at places here.line; value = value }))
          (byte_sign here.value (all_at (IsNonzeroWithin width) run k no_nonzero within below).sign)

  pub copy_without : is_marked marks here.line ≡ false → HasRun before row (placed_run marks places (take (k + 1) run)) t
  copy_without h = record {
    rows = is.rows;
    width = is.width;
    here = is.here ∙ sym (ap (map (at_place places)) (run_without marks run k below h));
    others = is.others;
  }

-- ---- the rows of a part

-- the rows before one have their runs, and the others none
pub record IsCopiedBelow (m : SparseRows) (lines : LineSet) (marks : List Bool) (places : List ℕ) (row : ℕ) (part : SparseRows) : Type 0 where
  pub rows : length part.runs ≡ length lines.rows
  pub width : part.width ≡ length lines.columns
  pub copied : (k : ℕ) → k < row → run_of part k ≡ placed_run marks places (run_of m (get_or lines.rows k 0))
  pub rest : (k : ℕ) → row ≤ k → run_of part k ≡ []

module _ (m : SparseRows) (lines : LineSet) (marks : List Bool) (places : List ℕ) where
  pub copied_first : (part : SparseRows) (height width : ℕ) → height ≡ length lines.rows → width ≡ length lines.columns → part ≡ record { runs = replicate height []; width = width }
      → IsCopiedBelow m lines marks places 0 part
  copied_first part height width e f is = subst (IsCopiedBelow m lines marks places 0) (sym is) (record {
    rows = length-replicate height [] ∙ e;
    width = f;
    copied = λ k l. absurd (omega (arith, l));
    rest = λ k l. get_or-replicated height k [];
  })

  pub copied_more : (part next : SparseRows) (row : ℕ) → IsCopiedBelow m lines marks places row part
      → HasRun part row (placed_run marks places (run_of m (get_or lines.rows row 0))) next → IsCopiedBelow m lines marks places (row + 1) next
  copied_more part next row are has = record {
    rows = has.rows ∙ are.rows;
    width = has.width ∙ are.width;
    copied = λ k l. elim (same_or_not k row) [
      | inl e ↦ ap (run_of next) e ∙ has.here ∙ ap (λ j. placed_run marks places (run_of m (get_or lines.rows j 0))) (sym e)
      | inr n ↦ has.others k n ∙ are.copied k (omega (arith, l, n))
    ];
    rest = λ k l. has.others k (λ e. absurd (omega (arith, l, e))) ∙ are.rest k (omega (arith, l));
  }

  module _ (shape : AreSparseRows m) (placed : HasColumnsAtPlaces (entry (matrix_of_runs m)) marks places lines) where
    -- the nonzeros of a row of the part are at their places
    pub run_at_places : (row : ℕ) → Contains lines.rows row → row < length m.runs → AreAtPlaces lines.columns marks places (run_of m row)
    run_at_places row inside below = all_by_places (λ x. is_marked marks x.line ≡ true → IsAtPlace lines.columns x.line (place_at places x.line)) (run_of m row) no_nonzero
        (λ k l h. placed.place row (get_or (run_of m row) k no_nonzero).line inside h
        (λ e. value_there m.width (run_of m row) k l (all_at (AllByRecursion (IsNonzeroWithin m.width)) m.runs row [] shape.runs_in below)
        (sym (matrix_entry m shape row (get_or (run_of m row) k no_nonzero).line) ∙ e)))

    pub copied_is : (part : SparseRows) (row : ℕ) → AreSparseRows part → length lines.rows ≤ row → IsStrictlyIncreasing lines.columns
        → ((k : ℕ) → k < length lines.rows → get_or lines.rows k 0 < length m.runs) → IsCopiedBelow m lines marks places row part
        → matrix_of_runs part ≡ submatrix (matrix_of_runs m) lines.rows lines.columns
    copied_is part row shape_part last increasing inside are = same_matrix (matrix_of_runs part) (submatrix (matrix_of_runs m) lines.rows lines.columns)
        (matrix_is_ternary part shape_part).rectangular (is_ternary-submatrix (matrix_of_runs m) lines.rows lines.columns (matrix_is_ternary m shape)).rectangular
        (high ∙ sym (length-map lines.rows (λ row. map (entry (matrix_of_runs m) row) lines.columns))) are.width
        (λ k j l h. at_entry k j (let same = high in omega (arith, l, same)) (let same = are.width in omega (arith, h, same)))
      where
        high : height (matrix_of_runs part) ≡ length lines.rows
        high = length-map part.runs _ ∙ are.rows

        at_entry : (k j : ℕ) → k < length lines.rows → j < length lines.columns
            → entry (matrix_of_runs part) k j ≡ entry (submatrix (matrix_of_runs m) lines.rows lines.columns) k j
        at_entry k j l h =
            let row = get_or lines.rows k 0 in
            let column = get_or lines.columns j 0 in
            matrix_entry part shape_part k j
            ∙ ap (λ (run : List Nonzero). value_in run j) (are.copied k (omega (arith, l, last)))
            ∙ value_placed lines.columns marks places increasing (run_of m row) (run_at_places row (Contains-get_or lines.rows k 0 l) (inside k l)) column j (record { inside = h; there = refl })
            (placed.mark column (Contains-get_or lines.columns j 0 h))
            ∙ sym (matrix_entry m shape row column)
            ∙ sym (entry-submatrix (matrix_of_runs m) lines.rows lines.columns k j l h)
