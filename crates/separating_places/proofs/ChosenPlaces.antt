-- A submatrix and a state have one position for the next pivot, which is a nonzero of the submatrix.
use Rattle.std.proofs.Common.{◌≡◌, ◌≢◌, ◌<◌, ◌∙◌, inl, inr, ℕ, pos, Option, Some, None, MatchOption, IfSome, get_or, length, map, Contains, ap, sym, subst, arith}
use Rattle.std.proofs.lemmas.List.{length-map}
use Rattle.cmr_base.specs.declared.line.Line.{Line}
use Rattle.cmr_base.specs.declared.line_set.LineSet.{LineSet}
use Rattle.cmr_base.specs.declared.position.Position.{Position}
use Rattle.cmr_base.specs.LineSets.{submatrix}
use Rattle.cmr_base.specs.Matrix.{Matrix, entry, height}
use Rattle.cmr_base.specs.PlacedPivots.{IsPlaceIn}
use Rattle.cmr_base.specs.Separations.{Lines, opposite}
use Rattle.cmr_base.specs.Seeds.{IsLine}
use Rattle.cmr_base.proofs.ListsWithout.{contains_from_in, in-get_or}
use Rattle.cmr_base.proofs.Parts.{entry-submatrix}
use Rattle.path_places.specs.PathPlaces.{HasNoCutPlace, IsCutPlace, IsPathPlace}
use Rattle.path_places.specs.SideMasks.{side_of}
use Rattle.path_places.proofs.UniquePlaces.{cut_place_is_one}
use Rattle.pivots.specs.declared.drawn.DrawnPlace.{DrawnPlace}
use Rattle.pivots.specs.DrawnPlaces.{drawn_place}
use Rattle.pivots.proofs.DrawnPlaces.{drawn_in}
use Rattle.three_sep.specs.FirstCuts.{HasNoCut, IsFirstCutOn}
use Rattle.three_sep.proofs.OneFirstCut.{first_cuts_agree}
use Rattle.block_ranks.specs.PlacesBeforeCuts.{HasNoPlaceBeforeCut, IsFirstPlaceBeforeCut}
use Rattle.block_ranks.proofs.PlaceSteps.{one_first}
use Rattle.separating_places.specs.SeparatingPlaces.{HasNoLatePlace, HasNoPlaceFor, HasNoSeparatingPlace, IsNextPlace, IsChosenPlace, IsFirstBeforeCut, IsLatePlace, IsPlaceFor, IsSeparatingPlace}
use Rattle.separating_places.proofs.SameSets.{HasAllOf, lines_in, same_sets}

-- ---- the first cut

one_first_cut : (m : Matrix) (s t : LineSet) → IsFirstCutOn m s.rows s.columns → IsFirstCutOn m t.rows t.columns → s ≡ t
one_first_cut m s t x y =
    same_sets m s t (record { rows = x.row_set; columns = x.column_set }) (record { rows = y.row_set; columns = y.column_set }) up down
  where
    agree : (line : Line) → IsLine (height m) m.width line → lines_in s line ≡ lines_in t line
    agree = first_cuts_agree m (lines_in s) (lines_in t) x.first y.first

    up : HasAllOf m (lines_in s) (lines_in t)
    up line is has = sym (agree line is) ∙ has

    down : HasAllOf m (lines_in t) (lines_in s)
    down line is has = agree line is ∙ has

-- ---- one position

place_same : (p q : Position) → p.row ≡ q.row → p.column ≡ q.column → p ≡ q
place_same p q row column =
    ap (λ (r : ℕ). let place : Position = record { row = r; column = p.column } in place) row
    ∙ ap (λ (c : ℕ). let place : Position = record { row = q.row; column = c } in place) column

drawn_same : (p q : DrawnPlace) → p.place ≡ q.place → p.state ≡ q.state → p ≡ q
drawn_same p q place state =
    ap (λ (x : Position). let drawn : DrawnPlace = record { place = x; state = p.state } in drawn) place
    ∙ ap (λ (n : ℕ). let drawn : DrawnPlace = record { place = q.place; state = n } in drawn) state

one_place_for : (m : Matrix) (p q : Position) → IsPlaceFor m p → IsPlaceFor m q → p ≡ q
one_place_for m p q x y =
    let same = one_first_cut m x.side y.side x.first y.first in
    let both = cut_place_is_one m (side_of y.side) p.row p.column q.row q.column (subst (λ (s : LineSet). IsCutPlace m (side_of s) p.row p.column) same x.at) y.at in
    place_same p q both.0 both.1

one_separating_place : (m : Matrix) (lines : LineSet) (p q : Position) → IsSeparatingPlace m lines p → IsSeparatingPlace m lines q → p ≡ q
one_separating_place m lines p q x y =
    let same = one_place_for (submatrix m lines.rows lines.columns) x.inside y.inside x.at y.at in
    place_same p q
    (x.row ∙ ap (λ (inside : Position). get_or lines.rows inside.row 0) same ∙ sym y.row)
    (x.column ∙ ap (λ (inside : Position). get_or lines.columns inside.column 0) same ∙ sym y.column)

one_before_cut : (m : Matrix) (lines : LineSet) (p q : Position) → IsFirstBeforeCut m lines p → IsFirstBeforeCut m lines q → p ≡ q
one_before_cut m lines p q x y =
    let same = one_first (submatrix m lines.rows lines.columns) x.inside y.inside x.at y.at in
    place_same p q
    (x.row ∙ ap (λ (inside : Position). get_or lines.rows inside.row 0) same ∙ sym y.row)
    (x.column ∙ ap (λ (inside : Position). get_or lines.columns inside.column 0) same ∙ sym y.column)

no_late_place : (m : Matrix) (lines : LineSet) (state : ℕ) (p : Position) → HasNoLatePlace m lines state → IsLatePlace m lines state p → ⊥
no_late_place m lines state p none (late, x) = none late x.inside x.at.is

-- a submatrix and a state have one answer
pub one_choice : (m : Matrix) (lines : LineSet) (state : ℕ) (found other : Option DrawnPlace) → IsNextPlace m lines state found → IsNextPlace m lines state other → found ≡ other
one_choice m lines state None None x y = sym x.2 ∙ y.2
one_choice m lines state None (Some q) x (inl (at, e)) = absurd (x.0 q.place at)
one_choice m lines state None (Some q) x (inr (none, inl (late, e))) = absurd (no_late_place m lines state q.place x.1 late)
one_choice m lines state None (Some q) x (inr (none, inr (early, e))) = sym x.2 ∙ e
one_choice m lines state (Some p) None (inl (at, e)) y = absurd (y.0 p.place at)
one_choice m lines state (Some p) None (inr (none, inl (late, e))) y = absurd (no_late_place m lines state p.place y.1 late)
one_choice m lines state (Some p) None (inr (none, inr (early, e))) y = sym e ∙ y.2
one_choice m lines state (Some p) (Some q) (inl (at, e)) (inl (at', e')) = ap (λ (drawn : DrawnPlace). Some drawn) (drawn_same p q (one_separating_place m lines p.place q.place at at') (e ∙ sym e'))
one_choice m lines state (Some p) (Some q) (inl (at, e)) (inr (none, other)) = absurd (none p.place at)
one_choice m lines state (Some p) (Some q) (inr (none, other)) (inl (at', e')) = absurd (none q.place at')
one_choice m lines state (Some p) (Some q) (inr (none, inl (late, e))) (inr (none', inl (late', e'))) = ap (λ (drawn : DrawnPlace). Some drawn) (drawn_same p q (one_before_cut m lines p.place q.place late.1 late'.1) (e ∙ sym e'))
one_choice m lines state (Some p) (Some q) (inr (none, inl (late, e))) (inr (none', inr (early, e'))) = absurd (no_late_place m lines state p.place early late)
one_choice m lines state (Some p) (Some q) (inr (none, inr (early, e))) (inr (none', inl (late, e'))) = absurd (no_late_place m lines state q.place early late)
one_choice m lines state (Some p) (Some q) (inr (none, inr (early, e))) (inr (none', inr (early', e'))) = sym e ∙ e'

-- ---- a nonzero

-- a nonzero of a matrix
record IsNonzero (m : Matrix) (place : Position) : Type 0 where
  pub row : place.row < height m
  pub column : place.column < m.width
  pub nonzero : entry m place.row place.column ≢ pos 0

path_nonzero : (m : Matrix) (side : Lines) (place : Position) → IsPathPlace m side place.row place.column → IsNonzero m place
path_nonzero m side place x = record {
  row = x.edge.end.on.0;
  column = x.edge.inner.0.0;
  nonzero = x.edge.nonzero;
}

place_nonzero : (m : Matrix) (place : Position) → IsPlaceFor m place → IsNonzero m place
place_nonzero m place x = go x.at
  where
    go : IsCutPlace m (side_of x.side) place.row place.column → IsNonzero m place
    go (inl (unfit, path)) = path_nonzero m (side_of x.side) place path
    go (inr (fit, unfit, path)) = path_nonzero m (opposite (side_of x.side)) place path

-- a nonzero of the submatrix, by the line numbers of the matrix
named_in : (m : Matrix) (lines : LineSet) (inside place : Position) → IsNonzero (submatrix m lines.rows lines.columns) inside
    → place.row ≡ get_or lines.rows inside.row 0 → place.column ≡ get_or lines.columns inside.column 0 → IsPlaceIn m lines place
named_in m lines inside place is e f = record {
  row = subst (Contains lines.rows) (sym e) (contains_from_in lines.rows (get_or lines.rows inside.row 0) (in-get_or lines.rows inside.row row));
  column = subst (Contains lines.columns) (sym f) (contains_from_in lines.columns (get_or lines.columns inside.column 0) (in-get_or lines.columns inside.column is.column));
  nonzero = λ zero. is.nonzero (entry-submatrix m lines.rows lines.columns inside.row inside.column row is.column ∙ ap (λ (i : ℕ). entry m i (get_or lines.columns inside.column 0)) (sym e) ∙ ap (λ (j : ℕ). entry m place.row j) (sym f) ∙ zero);
}
  where
    row : inside.row < length lines.rows
    row = let h = length-map lines.rows (λ row. map (entry m row) lines.columns) in let l = is.row in omega (arith, h, l)

-- the position of the first cut is a nonzero of the submatrix
pub separating_place_in : (m : Matrix) (lines : LineSet) (place : Position) → IsSeparatingPlace m lines place → IsPlaceIn m lines place
separating_place_in m lines place x = named_in m lines x.inside place (place_nonzero (submatrix m lines.rows lines.columns) x.inside x.at) x.row x.column

-- and so is the position before a cut
pub before_cut_in : (m : Matrix) (lines : LineSet) (place : Position) → IsFirstBeforeCut m lines place → IsPlaceIn m lines place
before_cut_in m lines place x = named_in m lines x.inside place (record { row = x.at.is.row; column = x.at.is.column; nonzero = x.at.is.nonzero }) x.row x.column

-- each position is a nonzero of the submatrix
pub chosen_place_in : (m : Matrix) (lines : LineSet) (state : ℕ) (chosen : DrawnPlace) → IsChosenPlace m lines state chosen → IsPlaceIn m lines chosen.place
chosen_place_in m lines state chosen (inl (at, e)) = separating_place_in m lines chosen.place at
chosen_place_in m lines state chosen (inr (none, inl (late, e))) = before_cut_in m lines chosen.place late.1
chosen_place_in m lines state chosen (inr (none, inr (early, e))) = subst (λ o. IfSome o (λ (drawn : DrawnPlace). IsPlaceIn m lines drawn.place)) e (drawn_in m lines state)

-- ---- answers

-- what the search along paths says of the first cut
pub cut_answer : (m : Matrix) (side : LineSet) → IsFirstCutOn m side.rows side.columns → (found : Option Position)
    → MatchOption found (HasNoCutPlace m (side_of side)) (λ place. IsCutPlace m (side_of side) place.row place.column)
    → MatchOption found (HasNoPlaceFor m) (IsPlaceFor m)
cut_answer m side first None none =
    λ place x. none place.row place.column (subst (λ (s : LineSet). IsCutPlace m (side_of s) place.row place.column) (one_first_cut m x.side side x.first first) x.at)
cut_answer m side first (Some place) at = record { side = side; first = first; at = at }

-- there is no cut
pub no_place_without_cut : (m : Matrix) → HasNoCut m → HasNoPlaceFor m
no_place_without_cut m none place x = none (side_of x.side) x.first.cut

-- what is said of the submatrix, by the line numbers of the matrix
pub no_separating_place : (m : Matrix) (lines : LineSet) → HasNoPlaceFor (submatrix m lines.rows lines.columns) → HasNoSeparatingPlace m lines
no_separating_place m lines none place x = none x.inside x.at

pub named_place : (m : Matrix) (lines : LineSet) (inside place : Position) → IsPlaceFor (submatrix m lines.rows lines.columns) inside
    → place.row ≡ get_or lines.rows inside.row 0 → place.column ≡ get_or lines.columns inside.column 0 → IsSeparatingPlace m lines place
named_place m lines inside place at row column = record { inside = inside; at = at; row = row; column = column }

-- no nonzero of the submatrix comes before a cut
pub no_late : (m : Matrix) (lines : LineSet) (state : ℕ) → HasNoPlaceBeforeCut (submatrix m lines.rows lines.columns) → HasNoLatePlace m lines state
no_late m lines state none late = none

pub named_before_cut : (m : Matrix) (lines : LineSet) (inside place : Position) → IsFirstPlaceBeforeCut (submatrix m lines.rows lines.columns) inside
    → place.row ≡ get_or lines.rows inside.row 0 → place.column ≡ get_or lines.columns inside.column 0 → IsFirstBeforeCut m lines place
named_before_cut m lines inside place at row column = record { inside = inside; at = at; row = row; column = column }

-- the position is drawn
pub drawn_last : (m : Matrix) (lines : LineSet) (state : ℕ) (found : Option DrawnPlace) → HasNoSeparatingPlace m lines → HasNoLatePlace m lines state
    → found ≡ drawn_place m lines state → IsNextPlace m lines state found
drawn_last m lines state None none early e = (none, early, sym e)
drawn_last m lines state (Some chosen) none early e = inr (none, inr (early, sym e))
