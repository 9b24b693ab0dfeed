-- A matrix with a cycle fault has a first one.
use Rattle.std.proofs.Common.{◌≡◌, inl, inr, filter, nat_eq, ℕ, Bool, List, [], ◌∷◌, length, refl}
use Rattle.std.specs.List.{list_any}
use Rattle.std.proofs.lemmas.List.Kept.{IsStrictlyIncreasing-filter}
use Rattle.cmr_base.specs.declared.line_set.LineSet.{LineSet}
use Rattle.cmr_base.specs.Matrix.{Matrix, height, entry, IsMatrix}
use Rattle.cmr_base.specs.LineSets.{first_lines}
use Rattle.cmr_base.specs.Members.{IsIn}
use Rattle.cmr_base.specs.CyclePlaces.{IsFaultAt, IsEarlierPlace, IsCycleFault, cycle_rows, cycle_columns}
use Rattle.cmr_base.specs.Seeds.{IsBefore}
use Rattle.cmr_base.proofs.ListedLines.{in_from_listed, listed_from_in}
use Rattle.cmr_base.proofs.RowLists.{filter_in, in_filter}
use Rattle.cmr_base.proofs.RemovedLines.{first_lines_increase, in_first_lines, first_lines_in}
use Rattle.camion_sign.specs.FaultLines.{IsBuilt, IsFirstFault}
use Rattle.camion_sign.proofs.LineLists.{cycle_fault_is}
use Rattle.decompositions_exist.proofs.NotExcluded.{NotExcluded}
use Rattle.decompositions_exist.proofs.LeastKeys.{IsFirstBy, first_key}

-- the lines below a bound that are in a list, in increasing order
is_listed : List ℕ → ℕ → Bool
is_listed lines x = list_any (λ y. nat_eq y x) lines

in_order : List ℕ → ℕ → List ℕ
in_order lines bound = filter (is_listed lines) (first_lines bound)

built : (lines : List ℕ) (bound : ℕ) → IsBuilt (λ x. IsIn x lines) bound (in_order lines bound)
unfolding in_order is_listed
built lines bound = record {
  increasing = IsStrictlyIncreasing-filter (is_listed lines) (first_lines bound) (first_lines_increase bound);
  members = λ y. (
    (λ h. let k = in_filter (is_listed lines) y (first_lines bound) h in (first_lines_in bound y k.0, in_from_listed y lines k.1)),
    λ h. filter_in (is_listed lines) y (first_lines bound) (in_first_lines bound y h.0) (listed_from_in y lines h.1),
  );
}

-- a row, two columns and a path
record Spot : Type 0 where
  row : ℕ
  first : ℕ
  last : ℕ
  path : List ℕ

spot_key : Spot → List ℕ
spot_key s = s.row ∷ s.first ∷ s.last ∷ []

three_numbers : (s : Spot) → length (spot_key s) ≡ 3
unfolding spot_key
three_numbers s = refl

module _ (m : Matrix) where
  IsFaulty : Spot → Type 0
  IsFaulty s = IsFaultAt (entry m) s.row s.first s.last s.path

  before_from_earlier : (s z : Spot) → IsEarlierPlace s.row s.first s.last z.row z.first z.last → IsBefore (spot_key s) (spot_key z)
  unfolding spot_key
  before_from_earlier s z (inl l) = inl l
  before_from_earlier s z (inr (e, inl l)) = inr (e, inl l)
  before_from_earlier s z (inr (e, inr (f, l))) = inr (e, inr (f, inl l))

  first_of_key : (s : Spot) → IsFirstBy spot_key IsFaulty s → IsFirstFault m s.row s.first s.last s.path
  unfolding IsFaulty
  first_of_key s f = record {
    fault = f.has;
    first = λ t c d earlier path fault. let other : Spot = record { row = t; first = c; last = d; path = path } in f.first other fault (before_from_earlier other s earlier);
  }

  pub first_fault : IsMatrix m → (t c d : ℕ) (path : List ℕ) → IsFaultAt (entry m) t c d path → NotExcluded ((fault : LineSet) × IsCycleFault m fault.rows fault.columns)
  unfolding IsFaulty
  first_fault is t c d path fault none = first_key spot_key 3 three_numbers IsFaulty (record { row = t; first = c; last = d; path = path }) fault (λ found.
      let s = found.0 in
      let rows = cycle_rows s.row s.path in
      let columns = cycle_columns s.first s.last s.path in
      none (
        record { rows = in_order rows (height m); columns = in_order columns m.width },
        cycle_fault_is m s.row s.first s.last s.path (in_order rows (height m)) (in_order columns m.width) is (first_of_key s found.1) refl refl (built rows (height m)) (built columns m.width),
      ))
