-- Positions of pivots, the first 2 or -2 after a pivot, and the lines of a fault before it.
use Rattle.std.proofs.Common.{◌≡◌, ◌≢◌, ◌<◌, ◌⊎◌, ◌↔◌, inl, inr, ℕ, ℤ, List, [], ◌∷◌, length, get_or, Contains, Option, Some, None, refl, arith}
use Rattle.cmr_base.specs.declared.line_set.LineSet.{LineSet}
use Rattle.cmr_base.specs.declared.position.Position.{Position}
use Rattle.cmr_base.specs.Matrix.{Matrix, height, entry, IsEntry, IsMatrix}
use Rattle.cmr_base.specs.LineSets.{submatrix}
use Rattle.cmr_base.specs.Members.{IsIn}
use Rattle.cmr_base.specs.PlacedPivots.{IsPlaceIn, IsTernaryPivot, pivot_entry}
use Rattle.cmr_base.specs.Seeds.{IsBefore}
use Rattle.cmr_base.specs.Sums.{IsOdd, sum_over}
use Rattle.cmr_base.proofs.IncreasingLists.{IncreasesIn, increasing_row_set, increasing_column_set}
use Rattle.cmr_base.proofs.Places.{contained_below}
use Rattle.pivots.specs.declared.drawn.DrawnPlace.{DrawnPlace}
use Rattle.pivots.specs.ChosenLines.{two_lines}
use Rattle.pivots.specs.DrawnPlaces.{drawn_place}
use Rattle.pivots.specs.PivotedParts.{ShowsFirstTwoIn}
use Rattle.pivots.proofs.PivotedRows.{first_two_apart, two_among}
use Rattle.ghouila.proofs.EntryTests.{entry_or_not}
use Rattle.camion_sign.specs.FaultLines.{IsBuilt}
use Rattle.camion_sign.proofs.LineLists.{above}
use Rattle.block_ranks.specs.PlacesBeforeCuts.{IsPlaceBefore, IsPlaceBeforeCut}
use Rattle.separating_places.specs.declared.place.TheConstants.{LATE_STATE}
use Rattle.separating_places.specs.SeparatingPlaces.{HasNoLatePlace, HasNoSeparatingPlace, IsLatePlace, IsNextPlace, IsSeparatingPlace}
use Rattle.tree_type.specs.Invariant.{AreLines}
use Rattle.decomp_tree.specs.PivotedShapes.{AreBefore}
use Rattle.decompositions_exist.proofs.NotExcluded.{NotExcluded, one_of_two}
use Rattle.decompositions_exist.proofs.LeastKeys.{IsFirstBy, first_key}
use Rattle.decompositions_exist.proofs.CollectedLines.{collected}

-- ---- the next position

abbrev place_key : Position → List ℕ
place_key place = place.row ∷ place.column ∷ []

-- after ten drawn positions there is a first nonzero before a cut if there is one
late_exists : (m : Matrix) (lines : LineSet) (state : ℕ) (inside : Position) → state ≡ LATE_STATE
    → IsPlaceBeforeCut (submatrix m lines.rows lines.columns) inside → NotExcluded ((place : Position) × IsLatePlace m lines state place)
late_exists m lines state inside late is none =
    first_key place_key 2 (λ place. refl) (IsPlaceBeforeCut (submatrix m lines.rows lines.columns)) inside is (λ found.
    let place : Position = record { row = get_or lines.rows found.0.row 0; column = get_or lines.columns found.0.column 0 } in
    none (place, (late, record { inside = found.0; at = record { is = found.1.has; first = λ other before b. found.1.first other before (earlier other found.0 b) }; row = refl; column = refl })))
  where
    earlier : (p q : Position) → IsPlaceBefore p q → IsBefore (place_key p) (place_key q)
    earlier p q (inl l) = inl l
    earlier p q (inr (e, l)) = inr (e, inl l)

pub next_exists : (m : Matrix) (lines : LineSet) (state : ℕ) → NotExcluded ((chosen : Option DrawnPlace) × IsNextPlace m lines state chosen)
next_exists m lines state none = one_of_two ((place : Position) × IsSeparatingPlace m lines place) (λ either. elim either [
  | inl found ↦ none (Some (record { place = found.0; state = state }), inl (found.1, refl))
  | inr without ↦ later (λ place at. without (place, at))
])
  where
    drawn : HasNoSeparatingPlace m lines → HasNoLatePlace m lines state → (drawn : Option DrawnPlace) → drawn_place m lines state ≡ drawn → ⊥
    drawn out early None e = none (None, (out, early, e))
    drawn out early (Some chosen) e = none (Some chosen, inr (out, inr (early, e)))

    later : HasNoSeparatingPlace m lines → ⊥
    later out = one_of_two ((place : Position) × IsLatePlace m lines state place) (λ either. elim either [
      | inl found ↦ none (Some (record { place = found.0; state = state }), inr (out, inl (found.1, refl)))
      | inr without ↦ drawn out (λ late inside is. late_exists m lines state inside late is without) (drawn_place m lines state) refl
    ])

-- ---- the first 2 or -2

pub entry_unless : (z : ℤ) → NotExcluded (IsEntry z) → IsEntry z
entry_unless z some = elim (entry_or_not z) [
  | inl is ↦ is
  | inr not ↦ absurd (some not)
]

two_increase : (n a b : ℕ) → a ≢ b → a < n → b < n → IncreasesIn 0 n (two_lines a b)
two_increase n a b apart ha hb = (omega arith, omega arith, (omega arith, omega arith, tt))

-- a row and a column
record Spot : Type 0 where
  row : ℕ
  column : ℕ

spot_key : Spot → List ℕ
spot_key s = s.row ∷ s.column ∷ []

two_numbers : (s : Spot) → length (spot_key s) ≡ 2
unfolding spot_key
two_numbers s = refl

module _ (m : Matrix) (lines : LineSet) (place : Position) (is : IsMatrix m) (are : AreLines m lines) (place_in : IsPlaceIn m lines place) where
  -- the pivot has a 2 or a -2 at a position
  record HasTwo (s : Spot) : Type 0 where
    row_in : Contains lines.rows s.row
    column_in : Contains lines.columns s.column
    two : ¬ (IsEntry (pivot_entry (entry m) place.row place.column s.row s.column))

  small : (s : Spot) → IsFirstBy spot_key HasTwo s → (i j : ℕ) → Contains lines.rows i → Contains lines.columns j
      → (i < s.row) ⊎ ((i ≡ s.row) × ((j < s.column) ⊎ ((j ≡ s.column) × ⊥))) → IsEntry (pivot_entry (entry m) place.row place.column i j)
  unfolding spot_key
  small s f i j i_in j_in before = entry_unless (pivot_entry (entry m) place.row place.column i j) (λ two. f.first (record { row = i; column = j }) (record { row_in = i_in; column_in = j_in; two = two }) before)

  shows : (s : Spot) → IsFirstBy spot_key HasTwo s → ShowsFirstTwoIn m lines place (two_lines place.row s.row) (two_lines place.column s.column)
  unfolding spot_key
  shows s f =
      let found = first_two_apart m lines place is are.rows are.columns place_in s.row s.column f.has.row_in
      (record { column_in = f.has.column_in; two = f.has.two; columns_before = λ j j_in l. small s f s.row j f.has.row_in j_in (inr (refl, inl l)) }) in
      record {
        other_row = s.row;
        other_column = s.column;
        row_in = f.has.row_in;
        column_in = f.has.column_in;
        two = f.has.two;
        rows_before = λ i j i_in j_in l. small s f i j i_in j_in (inl l);
        columns_before = λ j j_in l. small s f s.row j f.has.row_in j_in (inr (refl, inl l));
        rows_are = refl;
        columns_are = refl;
        row_set = increasing_row_set m (two_lines place.row s.row)
            (two_increase (height m) place.row s.row found.0 (contained_below (height m) lines.rows place.row are.rows.in_range place_in.row) (contained_below (height m) lines.rows s.row are.rows.in_range f.has.row_in));
        column_set = increasing_column_set m (two_lines place.column s.column)
            (two_increase m.width place.column s.column found.1 (contained_below m.width lines.columns place.column are.columns.in_range place_in.column) (contained_below m.width lines.columns s.column are.columns.in_range f.has.column_in));
        among = record {
          rows = two_among lines.rows place.row s.row place_in.row f.has.row_in;
          columns = two_among lines.columns place.column s.column place_in.column f.has.column_in;
        };
        violator = found.2;
      }

  pub ternary_or_two : NotExcluded (IsTernaryPivot m lines place ⊎ ((fault : LineSet) × ShowsFirstTwoIn m lines place fault.rows fault.columns))
  ternary_or_two neither = one_of_two ((s : Spot) × HasTwo s) (λ either. elim either [
    | inl some ↦ first_key spot_key 2 two_numbers HasTwo some.0 some.1 (λ found.
        neither (inr (record { rows = two_lines place.row found.0.row; columns = two_lines place.column found.0.column }, shows found.0 found.1)))
    | inr without ↦ neither (inl (λ i j i_in j_in. entry_unless (pivot_entry (entry m) place.row place.column i j) (λ two. without (record { row = i; column = j }, record { row_in = i_in; column_in = j_in; two = two }))))
  ])

  -- ---- the lines of a fault

  -- the line is in a set, and the pivot's line is if a property holds
  IsLineBefore : (line : ℕ) (P : Type 0) (after : List ℕ) → ℕ → Type 0
  IsLineBefore line P after x = ((x ≡ line) × P) ⊎ ((x ≢ line) × IsIn x after)

  module _ (line bound : ℕ) (P : Type 0) (after before : List ℕ) (built : IsBuilt (IsLineBefore line P after) bound before) (low : (x : ℕ) → IsIn x after → x < bound) where
    the_line : line < bound → IsIn line before ↔ P
    unfolding IsLineBefore
    the_line inside = (
      (λ h. elim ((built.members line).0 h).1 [
        | inl here ↦ here.1
        | inr other ↦ absurd (other.0 refl)
      ]),
      (λ p. (built.members line).1 (inside, inl (refl, p))),
    )

    other_lines : (x : ℕ) → x ≢ line → IsIn x before ↔ IsIn x after
    unfolding IsLineBefore
    other_lines x apart = (
      (λ h. elim ((built.members x).0 h).1 [
        | inl here ↦ absurd (apart here.0)
        | inr other ↦ other.1
      ]),
      (λ h. (built.members x).1 (low x h, inr (apart, h))),
    )

  pub before_exists : (fault : LineSet) → ((x : ℕ) → IsIn x fault.rows → x < height m) → ((x : ℕ) → IsIn x fault.columns → x < m.width)
      → NotExcluded ((before : LineSet) × AreBefore m place fault before)
  before_exists fault rows_low columns_low none =
      let odd_rows = IsOdd (sum_over fault.rows (λ i. entry m i place.column)) in
      let odd_columns = IsOdd (sum_over fault.columns (entry m place.row)) in
      collected (IsLineBefore place.row odd_rows fault.rows) (height m) (λ rows. collected (IsLineBefore place.column odd_columns fault.columns) m.width (λ columns. none (
        record { rows = rows.0; columns = columns.0 },
        record {
          row_set = record { increasing = rows.1.increasing; in_range = above (IsLineBefore place.row odd_rows fault.rows) (height m) rows.0 rows.1 };
          column_set = record { increasing = columns.1.increasing; in_range = above (IsLineBefore place.column odd_columns fault.columns) m.width columns.0 columns.1 };
          lines = record {
            row_there = the_line place.row (height m) odd_rows fault.rows rows.0 rows.1 rows_low (contained_below (height m) lines.rows place.row are.rows.in_range place_in.row);
            other_rows = other_lines place.row (height m) odd_rows fault.rows rows.0 rows.1 rows_low;
            column_there = the_line place.column m.width odd_columns fault.columns columns.0 columns.1 columns_low (contained_below m.width lines.columns place.column are.columns.in_range place_in.column);
            other_columns = other_lines place.column m.width odd_columns fault.columns columns.0 columns.1 columns_low;
          };
        },
      )))
