use Rattle.std.proofs.Common.{◌≡◌, ◌≤◌, ◌∙◌, pos, replicate, false, rules, length, ap, sym, subst, arith}
use Rattle.std.proofs.lemmas.List.{length-replicate}
use Rattle.cmr_base.specs.Matrix.{Matrix, height, IsMatrix}
use Rattle.cmr_base.proofs.PlaneSteps.{is_matrix-zero}
use Rattle.camion_sign.proofs.row_places.RowPlaces.new.Goals as goal

pub returns : goal.returns
returns c =
    let size = c.columns-columns.result in
    let wide = c.columns-columns.ensures.columns in
    let shape = c.columns-columns.ensures.shape in
    let links = c.in_ok-zero.ensures in
    let few : size ≤ 1000 = let most = shape.width_in in omega (arith, wide, most) in
    let known : c.in_ok-vec.field-0.items ≡ replicate size false = search rules in
    record {
      parts = record { matrix = shape; one_each = c.in_ok-new.ensures ∙ wide; joined = λ r x y l. absurd (omega (arith, l)) };
      touched = record { size = c.in_ok-new-2.ensures.size ∙ wide; all = λ d r l. absurd (omega (arith, l)) };
      waiting = c.in_ok-new-3.ensures.size ∙ wide;
      fits = record {
        matrix = shape;
        rows = c.in_ok-new-4.ensures.rows ∙ c.rows.ensures.rows;
        columns = c.in_ok-new-4.ensures.columns ∙ wide;
        one_each = c.in_ok-new-4.ensures.one_each;
      };
      square = record {
        matrix = subst IsMatrix (sym links) (is_matrix-zero size size few few);
        links_height = ap height links ∙ length-replicate size (replicate size (pos 0)) ∙ wide;
        links_width = ap (λ (m : Matrix). m.width) links ∙ wide;
      };
      one_each = ap length known ∙ length-replicate size false ∙ wide;
    }
