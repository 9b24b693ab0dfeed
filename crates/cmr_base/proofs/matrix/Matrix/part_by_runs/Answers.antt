use Rattle.std.proofs.Common.{◌≡◌, ◌<◌, ◌≤◌, ◌+◌, ◌*◌, ◌∙◌, ℕ, ℤ, Bool, false, pos, List, length, get_or, map, refl, ap, sym, subst}
use Rattle.std.specs.List.{flat_map}
use Rattle.std.proofs.lemmas.List.{length-map}
use Rattle.cmr_base.specs.declared.matrix.Matrix.TheInside.{Inside}
use Rattle.cmr_base.specs.Matrix.{Matrix, entry, height, is_nonzero}
use Rattle.cmr_base.specs.MatrixLayout.{matrix_of, IsLaidOut}
use Rattle.cmr_base.specs.LineSets.{AllBelow, submatrix}
use Rattle.cmr_base.specs.Planes.{is_minus, words_for, words_of}
use Rattle.cmr_base.specs.Runs.{IsPlaneChosen}
use Rattle.cmr_base.proofs.Parts.{is_matrix-submatrix}
use Rattle.cmr_base.proofs.RunRows.{chosen_words}
use Rattle.cmr_base.proofs.Views.{are_planes, is_matrix, IsOf, of_planes, row_inside, width_is}
use Rattle.cmr_base.proofs.matrix.Matrix.part_by_runs.Goals as goal

-- the words of a chosen row are in a plane
rows_inside : (a : Inside) (m : Matrix) (test : ℤ → Bool) (plane rows : List ℕ) → matrix_of a ≡ m → plane ≡ flat_map (words_of (words_for m.width) test) m.rows → AllBelow (height m) rows
    → (k : ℕ) → k < length rows → get_or rows k 0 * words_for a.columns + words_for a.columns ≤ length plane
rows_inside a m test plane rows e is below k l = row_inside m test plane (get_or rows k 0) (words_for a.columns) is (ap words_for (sym (width_is a m e))) (below k l)

pub chosen_plane-requires-clause-rows : goal.chosen_plane-requires-clause-rows
chosen_plane-requires-clause-rows c =
    let a = c.self.inside in
    let m = c.args.self.now in
    let planes = are_planes a m c.self.view_is c.self.invariant in
    rows_inside a m is_nonzero c.deref.result.now c.args.rows.now c.self.view_is (c.deref.ensures.value ∙ planes.support_is) c.requires.rows

pub chosen_plane-requires-2-clause-rows : goal.chosen_plane-requires-2-clause-rows
chosen_plane-requires-2-clause-rows c =
    let a = c.self.inside in
    let m = c.args.self.now in
    let planes = are_planes a m c.self.view_is c.self.invariant in
    rows_inside a m is_minus c.deref-2.result.now c.args.rows.now c.self.view_is (c.deref-2.ensures.value ∙ planes.minus_is) c.requires.rows

-- the words of one plane
words : (a : Inside) (m : Matrix) (test : ℤ → Bool) (rows columns plane made : List ℕ) → matrix_of a ≡ m → test (pos 0) ≡ false → plane ≡ flat_map (words_of (words_for m.width) test) m.rows
    → AllBelow (height m) rows → AllBelow m.width columns → IsPlaneChosen a.columns plane rows columns (length rows) made
    → made ≡ flat_map (words_of (words_for (length columns)) test) (submatrix m rows columns).rows
words a m test rows columns plane made e none is in_height in_width all =
    chosen_words m test none rows columns plane made is in_height in_width (subst (λ (n : ℕ). IsPlaneChosen n plane rows columns (length rows) made) (sym (width_is a m e)) all)

part : (a : Inside) (m : Matrix) (rows columns s_plane m_plane support minus : List ℕ) → matrix_of a ≡ m → IsLaidOut a → s_plane ≡ a.support.items → m_plane ≡ a.minus.items
    → AllBelow (height m) rows → AllBelow m.width columns → length rows ≤ 1000 → length columns ≤ 1000
    → IsPlaneChosen a.columns s_plane rows columns (length rows) support → IsPlaneChosen a.columns m_plane rows columns (length rows) minus
    → IsOf (submatrix m rows columns) (length rows) (length columns) support minus
part a m rows columns s_plane m_plane support minus e laid s_is m_is in_height in_width few_rows few_columns s_all m_all =
    let planes = are_planes a m e laid in
    of_planes (submatrix m rows columns) (length rows) (length columns) support minus (is_matrix-submatrix m rows columns (is_matrix a m e laid) few_rows few_columns)
    (length-map rows (λ row. map (entry m row) columns)) refl
    (words a m is_nonzero rows columns s_plane support e refl (s_is ∙ planes.support_is) in_height in_width s_all)
    (words a m is_minus rows columns m_plane minus e refl (m_is ∙ planes.minus_is) in_height in_width m_all)

pub invariant_of-result : goal.invariant_of-result
invariant_of-result c =
    let all = part c.self.inside c.args.self.now c.args.rows.now c.args.columns.now c.deref.result.now c.deref-2.result.now c.in_ok-chosen_plane.field-0.items c.in_ok-chosen_plane-2.field-0.items
    c.self.view_is c.self.invariant c.deref.ensures.value c.deref-2.ensures.value c.requires.rows c.requires.columns c.requires.few_rows c.requires.few_columns c.in_ok-chosen_plane.ensures c.in_ok-chosen_plane-2.ensures in
    record { rows_few = c.requires.few_rows; columns_few = c.requires.few_columns; support_is = all.support_is; minus_is = all.minus_is }

pub returns : goal.returns
returns c =
    (part c.self.inside c.args.self.now c.args.rows.now c.args.columns.now c.deref.result.now c.deref-2.result.now c.in_ok-chosen_plane.field-0.items c.in_ok-chosen_plane-2.field-0.items
    c.self.view_is c.self.invariant c.deref.ensures.value c.deref-2.ensures.value c.requires.rows c.requires.columns c.requires.few_rows c.requires.few_columns c.in_ok-chosen_plane.ensures c.in_ok-chosen_plane-2.ensures).same
