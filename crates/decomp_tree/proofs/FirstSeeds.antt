-- There is one separation of the first good seed.
use Rattle.std.proofs.Common.{◌≡◌, ◌∙◌, ℕ, ℤ, refl, ap, sym, subst}
use Rattle.cmr_base.specs.declared.line.Line.{Line}
use Rattle.cmr_base.specs.declared.line_set.LineSet.{LineSet}
use Rattle.cmr_base.specs.declared.separation.Connector.{Connector}
use Rattle.cmr_base.specs.declared.separation.Form.{Form}
use Rattle.cmr_base.specs.declared.separation.Two.{Two}
use Rattle.cmr_base.specs.declared.separation.Three.{Three}
use Rattle.cmr_base.specs.Matrix.{Matrix, height, entry}
use Rattle.cmr_base.specs.Separations.{Lines}
use Rattle.cmr_base.specs.Seeds.{IsGoodTwo, IsGoodThree, form_number, line_number, two_key, three_key}
use Rattle.cmr_base.proofs.SeedLemmas.{line_is, form_is}
use Rattle.two_sep.specs.FirstSeeds.{IsFirstTwoSeparation}
use Rattle.three_sep.specs.ThreeSeparations.{IsFirstThreeSeparation}
use Rattle.three_sep.proofs.OneFirstCut.{same_keys}
use Rattle.separating_places.proofs.SameSets.{HasAllOf, lines_in, same_sets}

-- ---- two-separations

module _ (m n : ℕ) (M : ℕ → ℕ → ℤ) where
  good_two : (i i' j j' : ℕ) (seed seed' : Line) (side : Lines) → i ≡ i' → j ≡ j' → seed ≡ seed' → IsGoodTwo m n M i j seed side → IsGoodTwo m n M i' j' seed' side
  good_two i i' j j' seed seed' side a b c good =
      subst (λ (s : Line). IsGoodTwo m n M i' j' s side) c (subst (λ (y : ℕ). IsGoodTwo m n M i' y seed side) b (subst (λ (x : ℕ). IsGoodTwo m n M x j seed side) a good))

  good_three : (form form' : Form) (first first' second second' : Connector) (seed seed' : Line) (side : Lines) → form ≡ form' → first ≡ first' → second ≡ second' → seed ≡ seed'
      → IsGoodThree m n M form first second seed side → IsGoodThree m n M form' first' second' seed' side
  good_three form form' first first' second second' seed seed' side a b c d good =
      subst (λ (s : Line). IsGoodThree m n M form' first' second' s side) d
      (subst (λ (x : Connector). IsGoodThree m n M form' first' x seed side) c
      (subst (λ (x : Connector). IsGoodThree m n M form' x second seed side) b
      (subst (λ (f : Form). IsGoodThree m n M f first second seed side) a good)))

pub one_two : (m : Matrix) (two other : Two) → IsFirstTwoSeparation m two → IsFirstTwoSeparation m other → two ≡ other
one_two m two other x y =
    ap (λ (s : LineSet). let t : Two = record { side = s; row = two.row; column = two.column } in t) side
    ∙ ap (λ (r : ℕ). let t : Two = record { side = other.side; row = r; column = two.column } in t) row
    ∙ ap (λ (c : ℕ). let t : Two = record { side = other.side; row = other.row; column = c } in t) column
  where
    keys : two_key (height m) two.row two.column x.first.seed ≡ two_key (height m) other.row other.column y.first.seed
    keys = same_keys (two_key (height m) two.row two.column x.first.seed) (two_key (height m) other.row other.column y.first.seed) refl
        (y.first.first two.row two.column x.first.seed (lines_in two.side) x.first.good)
        (x.first.first other.row other.column y.first.seed (lines_in other.side) y.first.good)

    row : two.row ≡ other.row
    row = let k = keys in cc

    column : two.column ≡ other.column
    column = let k = keys in cc

    seed : x.first.seed ≡ y.first.seed
    seed =
        let k = keys in
        let number : line_number (height m) x.first.seed ≡ line_number (height m) y.first.seed = cc in
        line_is (height m) m.width x.first.seed y.first.seed x.first.good.1.line y.first.good.1.line number

    up : HasAllOf m (lines_in two.side) (lines_in other.side)
    up = let g = good_two (height m) m.width (entry m) other.row two.row other.column two.column y.first.seed x.first.seed (lines_in other.side) (sym row) (sym column) (sym seed) y.first.good in
        x.first.good.1.grown.least (lines_in other.side) g.1.grown.closed g.1.grown.has

    down : HasAllOf m (lines_in other.side) (lines_in two.side)
    down = let g = good_two (height m) m.width (entry m) two.row other.row two.column other.column x.first.seed y.first.seed (lines_in two.side) row column seed x.first.good in
        y.first.good.1.grown.least (lines_in two.side) g.1.grown.closed g.1.grown.has

    side : two.side ≡ other.side
    side = same_sets m two.side other.side (record { rows = x.row_set; columns = x.column_set }) (record { rows = y.row_set; columns = y.column_set }) up down

-- ---- three-separations

one_connector : (x y : Connector) → x.row ≡ y.row → x.column ≡ y.column → x.other ≡ y.other → x ≡ y
one_connector x y a b c =
    ap (λ (r : ℕ). let t : Connector = record { row = r; column = x.column; other = x.other } in t) a
    ∙ ap (λ (d : ℕ). let t : Connector = record { row = y.row; column = d; other = x.other } in t) b
    ∙ ap (λ (o : ℕ). let t : Connector = record { row = y.row; column = y.column; other = o } in t) c

pub one_three : (m : Matrix) (three other : Three) → IsFirstThreeSeparation m three → IsFirstThreeSeparation m other → three ≡ other
one_three m three other x y =
    ap (λ (f : Form). let t : Three = record { form = f; side = three.side; first = three.first; second = three.second } in t) form
    ∙ ap (λ (s : LineSet). let t : Three = record { form = other.form; side = s; first = three.first; second = three.second } in t) side
    ∙ ap (λ (c : Connector). let t : Three = record { form = other.form; side = other.side; first = c; second = three.second } in t) first
    ∙ ap (λ (c : Connector). let t : Three = record { form = other.form; side = other.side; first = other.first; second = c } in t) second
  where
    keys : three_key (height m) three.form three.first three.second x.first.seed ≡ three_key (height m) other.form other.first other.second y.first.seed
    keys = same_keys (three_key (height m) three.form three.first three.second x.first.seed) (three_key (height m) other.form other.first other.second y.first.seed) refl
        (y.first.earliest three.form three.first three.second x.first.seed (lines_in three.side) x.first.good)
        (x.first.earliest other.form other.first other.second y.first.seed (lines_in other.side) y.first.good)

    form : three.form ≡ other.form
    form = let k = keys in let e : form_number three.form ≡ form_number other.form = cc in form_is three.form other.form e

    first : three.first ≡ other.first
    first =
        let k = keys in
        let row : three.first.row ≡ other.first.row = cc in
        let column : three.first.column ≡ other.first.column = cc in
        let line : three.first.other ≡ other.first.other = cc in
        one_connector three.first other.first row column line

    second : three.second ≡ other.second
    second =
        let k = keys in
        let row : three.second.row ≡ other.second.row = cc in
        let column : three.second.column ≡ other.second.column = cc in
        let line : three.second.other ≡ other.second.other = cc in
        one_connector three.second other.second row column line

    seed : x.first.seed ≡ y.first.seed
    seed =
        let k = keys in
        let number : line_number (height m) x.first.seed ≡ line_number (height m) y.first.seed = cc in
        line_is (height m) m.width x.first.seed y.first.seed x.first.good.1.line y.first.good.1.line number

    up : HasAllOf m (lines_in three.side) (lines_in other.side)
    up = let g = good_three (height m) m.width (entry m) other.form three.form other.first three.first other.second three.second y.first.seed x.first.seed (lines_in other.side) (sym form) (sym first) (sym second) (sym seed) y.first.good in
        x.first.good.1.grown.least (lines_in other.side) g.1.grown.closed g.1.grown.has

    down : HasAllOf m (lines_in other.side) (lines_in three.side)
    down = let g = good_three (height m) m.width (entry m) three.form other.form three.first other.first three.second other.second x.first.seed y.first.seed (lines_in three.side) form first second seed x.first.good in
        y.first.good.1.grown.least (lines_in three.side) g.1.grown.closed g.1.grown.has

    side : three.side ≡ other.side
    side = same_sets m three.side other.side (record { rows = x.row_set; columns = x.column_set }) (record { rows = y.row_set; columns = y.column_set }) up down
