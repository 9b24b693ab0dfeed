use Rattle.std.proofs.Common.{◌≡◌, ◌*◌, ◌∙◌, ℕ, ℤ, Bool, false, pos, List, length, refl, ap₂, sym, subst}
use Rattle.std.specs.List.{flat_map}
use Rattle.cmr_base.specs.declared.matrix.Matrix.TheInside.{Inside}
use Rattle.cmr_base.specs.Matrix.{Matrix, height, transposed, is_nonzero}
use Rattle.cmr_base.specs.MatrixLayout.{matrix_of, IsLaidOut}
use Rattle.cmr_base.specs.Planes.{is_minus, words_for, words_of}
use Rattle.cmr_base.specs.TransposedPlanes.{HasNoBitPast, IsPlaneTransposed}
use Rattle.cmr_base.proofs.Parts.{height-transposed, is_matrix-transposed}
use Rattle.cmr_base.proofs.TransposedRows.{no_bit_past, transposed_words}
use Rattle.cmr_base.proofs.Views.{are_planes, height_is, is_matrix, IsOf, length-plane, of_planes, width_is}
use Rattle.cmr_base.proofs.matrix.Matrix.transposed.Goals as goal

module _ (a : Inside) (m : Matrix) (e : matrix_of a ≡ m) (laid : IsLaidOut a) (test : ℤ → Bool) (none : test (pos 0) ≡ false) (plane : List ℕ) (is : plane ≡ flat_map (words_of (words_for m.width) test) m.rows) where
  whole : length plane ≡ a.rows * words_for a.columns
  whole = length-plane m test plane is ∙ ap₂ (λ h w. h * words_for w) (height_is a m e) (width_is a m e)

  ends : HasNoBitPast plane a.rows a.columns
  ends =
      subst (λ h. HasNoBitPast plane h a.columns) (height_is a m e)
      (subst (HasNoBitPast plane (height m)) (width_is a m e) (no_bit_past m (is_matrix a m e laid) test none plane is))

  words : (made : List ℕ) → IsPlaneTransposed a.columns (words_for a.rows) plane a.rows made → made ≡ flat_map (words_of (words_for a.rows) test) (transposed m).rows
  words made all =
      subst (λ h. made ≡ flat_map (words_of (words_for h) test) (transposed m).rows) (height_is a m e)
      (transposed_words m (is_matrix a m e laid) test none plane is made
      (subst (λ h. IsPlaneTransposed m.width (words_for h) plane h made) (sym (height_is a m e)) (subst (λ w. IsPlaneTransposed w (words_for a.rows) plane a.rows made) (sym (width_is a m e)) all)))

both_transposed : (a : Inside) (m : Matrix) (s_plane m_plane support minus : List ℕ) → matrix_of a ≡ m → IsLaidOut a → s_plane ≡ a.support.items → m_plane ≡ a.minus.items
    → IsPlaneTransposed a.columns (words_for a.rows) s_plane a.rows support → IsPlaneTransposed a.columns (words_for a.rows) m_plane a.rows minus → IsOf (transposed m) a.columns a.rows support minus
both_transposed a m s_plane m_plane support minus e laid s_is m_is s_all m_all =
    let planes = are_planes a m e laid in
    of_planes (transposed m) a.columns a.rows support minus (is_matrix-transposed m (is_matrix a m e laid)) (height-transposed m ∙ width_is a m e) (height_is a m e)
    (words a m e laid is_nonzero refl s_plane (s_is ∙ planes.support_is) support s_all) (words a m e laid is_minus refl m_plane (m_is ∙ planes.minus_is) minus m_all)

pub transposed_plane-requires-clause-whole : goal.transposed_plane-requires-clause-whole
transposed_plane-requires-clause-whole c =
    let planes = are_planes c.self.inside c.args.self.now c.self.view_is c.self.invariant in
    whole c.self.inside c.args.self.now c.self.view_is c.self.invariant is_nonzero refl c.deref.result.now (c.deref.ensures.value ∙ planes.support_is)

pub transposed_plane-requires-clause-ends : goal.transposed_plane-requires-clause-ends
transposed_plane-requires-clause-ends c =
    let planes = are_planes c.self.inside c.args.self.now c.self.view_is c.self.invariant in
    ends c.self.inside c.args.self.now c.self.view_is c.self.invariant is_nonzero refl c.deref.result.now (c.deref.ensures.value ∙ planes.support_is)

pub transposed_plane-requires-2-clause-whole : goal.transposed_plane-requires-2-clause-whole
transposed_plane-requires-2-clause-whole c =
    let planes = are_planes c.self.inside c.args.self.now c.self.view_is c.self.invariant in
    whole c.self.inside c.args.self.now c.self.view_is c.self.invariant is_minus refl c.deref-2.result.now (c.deref-2.ensures.value ∙ planes.minus_is)

pub transposed_plane-requires-2-clause-ends : goal.transposed_plane-requires-2-clause-ends
transposed_plane-requires-2-clause-ends c =
    let planes = are_planes c.self.inside c.args.self.now c.self.view_is c.self.invariant in
    ends c.self.inside c.args.self.now c.self.view_is c.self.invariant is_minus refl c.deref-2.result.now (c.deref-2.ensures.value ∙ planes.minus_is)

pub invariant_of-result : goal.invariant_of-result
invariant_of-result c =
    let all = both_transposed c.self.inside c.args.self.now c.deref.result.now c.deref-2.result.now c.in_ok-transposed_plane.field-0.items c.in_ok-transposed_plane-2.field-0.items
    c.self.view_is c.self.invariant c.deref.ensures.value c.deref-2.ensures.value c.in_ok-transposed_plane.ensures c.in_ok-transposed_plane-2.ensures in
    record { rows_few = c.self.invariant.columns_few; columns_few = c.self.invariant.rows_few; support_is = all.support_is; minus_is = all.minus_is }

pub returns : goal.returns
returns c =
    (both_transposed c.self.inside c.args.self.now c.deref.result.now c.deref-2.result.now c.in_ok-transposed_plane.field-0.items c.in_ok-transposed_plane-2.field-0.items
    c.self.view_is c.self.invariant c.deref.ensures.value c.deref-2.ensures.value c.in_ok-transposed_plane.ensures c.in_ok-transposed_plane-2.ensures).same
