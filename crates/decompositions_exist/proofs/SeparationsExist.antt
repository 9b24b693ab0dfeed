-- A matrix with a separation has the separation of the first good seed.
use Rattle.std.proofs.Common.{◌≡◌, filter, ℕ, List, length, refl, sym}
use Rattle.std.proofs.lemmas.List.Kept.{IsStrictlyIncreasing-filter}
use Rattle.cmr_base.specs.declared.line.Line.{Line}
use Rattle.cmr_base.specs.declared.line.Line.TheVariants.{Row, Column}
use Rattle.cmr_base.specs.declared.line_set.LineSet.{LineSet}
use Rattle.cmr_base.specs.declared.separation.Connector.{Connector}
use Rattle.cmr_base.specs.declared.separation.Form.{Form}
use Rattle.cmr_base.specs.declared.separation.Two.{Two}
use Rattle.cmr_base.specs.declared.separation.Three.{Three}
use Rattle.cmr_base.specs.Matrix.{Matrix, height, entry}
use Rattle.cmr_base.specs.LineSets.{first_lines}
use Rattle.cmr_base.specs.Separations.{Lines, TwoSeparates, ThreeSeparates, listed}
use Rattle.cmr_base.specs.Seeds.{IsLine, IsGoodTwo, two_key}
use Rattle.cmr_base.proofs.RowLists.{in_filter}
use Rattle.cmr_base.proofs.RemovedLines.{first_lines_increase, row_set_from_within, column_set_from_within}
use Rattle.cmr_base.proofs.SeedLemmas.{good_two_seed, good_three_seed, two_separation_of_seed}
use Rattle.two_sep.specs.FirstSeeds.{IsFirstTwoSeparation}
use Rattle.two_sep.proofs.FirstTwo.{good_same, listed_filter}
use Rattle.three_sep.specs.NumberedSeeds.{IsGoodSeed, Seed, seed_key}
use Rattle.three_sep.specs.ThreeSeparations.{IsFirstThreeSeparation}
use Rattle.three_sep.proofs.SideLemmas.{lines_of_filters}
use Rattle.three_sep.proofs.SeedForms.{first_three}
use Rattle.decompositions_exist.proofs.NotExcluded.{NotExcluded}
use Rattle.decompositions_exist.proofs.LeastKeys.{IsFirstBy, first_key}

-- the lines of a set, as lists
pub rows_on : Matrix → Lines → List ℕ
rows_on m S = filter (λ r. S (Row r)) (first_lines (height m))

pub columns_on : Matrix → Lines → List ℕ
columns_on m S = filter (λ c. S (Column c)) (first_lines m.width)

pub lines_on : Matrix → Lines → LineSet
lines_on m S = record { rows = rows_on m S; columns = columns_on m S }

-- ---- two-separations

-- a position, a line and a set of lines
record TwoSeed : Type 0 where
  row : ℕ
  column : ℕ
  line : Line
  side : Lines

module _ (m : Matrix) where
  two_number : TwoSeed → List ℕ
  two_number s = two_key (height m) s.row s.column s.line

  IsTwoSeed : TwoSeed → Type 0
  IsTwoSeed s = IsGoodTwo (height m) m.width (entry m) s.row s.column s.line s.side

  three_numbers : (s : TwoSeed) → length (two_number s) ≡ 3
  unfolding two_number
  three_numbers s = refl

  on_lists : (S : Lines) (line : Line) → IsLine (height m) m.width line → S line ≡ listed (rows_on m S) (columns_on m S) line
  unfolding rows_on columns_on
  on_lists S (Row r) l = sym (listed_filter (λ x. S (Row x)) (height m) r l)
  on_lists S (Column c) l = sym (listed_filter (λ x. S (Column x)) m.width c l)

  first_two_of : (s : TwoSeed) → IsFirstBy two_number IsTwoSeed s → IsFirstTwoSeparation m (record { side = lines_on m s.side; row = s.row; column = s.column })
  unfolding two_number IsTwoSeed rows_on columns_on lines_on
  first_two_of s f =
      let good = good_same (height m) m.width (entry m) s.row s.column s.side (listed (rows_on m s.side) (columns_on m s.side)) (on_lists s.side) s.line f.has in
      record {
        row_set = row_set_from_within m (rows_on m s.side) (IsStrictlyIncreasing-filter (λ r. s.side (Row r)) (first_lines (height m)) (first_lines_increase (height m))) (λ x h. (in_filter (λ r. s.side (Row r)) x (first_lines (height m)) h).0);
        column_set = column_set_from_within m (columns_on m s.side) (IsStrictlyIncreasing-filter (λ c. s.side (Column c)) (first_lines m.width) (first_lines_increase m.width)) (λ x h. (in_filter (λ c. s.side (Column c)) x (first_lines m.width) h).0);
        first = record { seed = s.line; good = good; first = λ i j line side g. f.first (record { row = i; column = j; line = line; side = side }) g };
        separates = two_separation_of_seed (height m) m.width (entry m) s.row s.column s.line (listed (rows_on m s.side) (columns_on m s.side)) good;
      }

  pub two_exists : (i j : ℕ) (side : Lines) → TwoSeparates m side i j → NotExcluded ((two : Two) × IsFirstTwoSeparation m two)
  unfolding IsTwoSeed
  two_exists i j side separates none =
      let g = good_two_seed (height m) m.width (entry m) i j side separates in
      first_key two_number 3 three_numbers IsTwoSeed (record { row = i; column = j; line = g.0; side = g.1 }) g.2 (λ found. none (record { side = lines_on m found.0.side; row = found.0.row; column = found.0.column }, first_two_of found.0 found.1))

-- ---- three-separations

-- a seed and a set of lines
record ThreeSeed : Type 0 where
  seed : Seed
  side : Lines

module _ (m : Matrix) where
  three_number : ThreeSeed → List ℕ
  three_number s = seed_key m s.seed

  IsThreeSeed : ThreeSeed → Type 0
  IsThreeSeed s = IsGoodSeed m s.seed s.side

  eight_numbers : (s : ThreeSeed) → length (three_number s) ≡ 8
  unfolding three_number
  eight_numbers s = refl

  three_of : ThreeSeed → Three
  three_of s = record { form = s.seed.form; side = lines_on m s.side; first = s.seed.pair.first; second = s.seed.pair.second }

  first_three_of : (s : ThreeSeed) → IsFirstBy three_number IsThreeSeed s → IsFirstThreeSeparation m (three_of s)
  unfolding three_number IsThreeSeed three_of rows_on columns_on lines_on
  first_three_of s f = first_three m (three_of s) (record {
    x = s.seed.line;
    side = s.side;
    begins = tt;
    good = f.has;
    first = λ other T begins g. f.first (record { seed = other; side = T }) g;
    lines = lines_of_filters (height m) m.width s.side (rows_on m s.side) (columns_on m s.side) refl refl;
  })

  pub three_exists : (form : Form) (first second : Connector) (side : Lines) → ThreeSeparates m side form first second → NotExcluded ((three : Three) × IsFirstThreeSeparation m three)
  unfolding IsThreeSeed
  three_exists form first second side separates none =
      let g = good_three_seed (height m) m.width (entry m) form first second side separates in
      first_key three_number 8 eight_numbers IsThreeSeed (record { seed = record { form = form; pair = record { first = first; second = second }; line = g.0 }; side = g.1 }) g.2 (λ found. none (three_of found.0, first_three_of found.0 found.1))
