-- The nonzeros of a submatrix, by their numbers.
use Rattle.std.proofs.Common.{◌≡◌, ◌<◌, ◌≤◌, ◌+◌, ◌-◌, ◌∙◌, ◌++◌, ◌/◌, ◌%◌, inl, inr, ℕ, zero, suc, Bool, true, false, pos, List, [], ◌∷◌, filter, length, get_or, drop, Contains, refl, ap, sym, subst, arith}
use Rattle.std.specs.Prelude.{slice_get, Option, Some, None, unwrap_or, IfSome, IfNone}
use Rattle.std.specs.List.{AllByRecursion}
use Rattle.std.specs.Option.{option_map}
use Rattle.std.proofs.lemmas.List.{drop_more, length-map, length-append}
use Rattle.std.proofs.lemmas.Bool.{cases_eq}
use Rattle.std.proofs.lemmas.Nat.{mod_below}
use Rattle.cmr_base.specs.declared.line_set.LineSet.{LineSet}
use Rattle.cmr_base.specs.Matrix.{Matrix, entry, is_nonzero}
use Rattle.cmr_base.specs.Members.{IsIn}
use Rattle.cmr_base.proofs.Booleans.{true_is_false, zero_is}
use Rattle.cmr_base.proofs.Lists.{all-append, all-map}
use Rattle.cmr_base.proofs.ListsWithout.{in_from_contains, contains_from_in}
use Rattle.cmr_base.proofs.Members.{all_of_members}
use Rattle.cmr_base.specs.Draws.{next_state}
use Rattle.pivots.specs.declared.drawn.DrawnPlace.{DrawnPlace}
use Rattle.cmr_base.specs.declared.position.Position.{Position}
use Rattle.pivots.specs.DrawnPlaces.{row_places, places_on, drawn_place}
use Rattle.cmr_base.specs.PlacedPivots.{IsPlaceIn}
use Rattle.cmr_base.proofs.Members.{some_in}
use Rattle.cmr_base.proofs.RowLists.{filter_in, in_filter}

-- ---- items by their numbers

get_prefix : (xs ys : List Position) (n : ℕ) → n < length xs → slice_get (xs ++ ys) n ≡ slice_get xs n
get_prefix [] ys n h = absurd (omega arith)
get_prefix (x ∷ xs) ys zero h = refl
get_prefix (x ∷ xs) ys (suc n) h = get_prefix xs ys n (omega arith)

get_back : (xs ys : List Position) (n : ℕ) → length xs ≤ n → slice_get (xs ++ ys) n ≡ slice_get ys (n - length xs)
get_back [] ys n h = let e : n ≡ n - 0 = omega arith in ap (slice_get ys) e
get_back (x ∷ xs) ys zero h = absurd (omega arith)
get_back (x ∷ xs) ys (suc n) h = let e : n - length xs ≡ suc n - suc (length xs) = omega arith in get_back xs ys n (omega arith) ∙ ap (slice_get ys) e

abbrev is_there : Option Position → Bool
is_there None = false
is_there (Some x) = true

got : (xs : List Position) (n : ℕ) → n < length xs → is_there (slice_get xs n) ≡ true
got [] n h = absurd (omega arith)
got (x ∷ xs) zero h = refl
got (x ∷ xs) (suc n) h = got xs n (omega arith)

all_got : (P : Position → Type 0) (xs : List Position) (n : ℕ) (x : Position) → AllByRecursion P xs → slice_get xs n ≡ Some x → P x
all_got P [] n x all e = true_is_false (ap is_there (sym e))
all_got P (y ∷ ys) zero x all e = let same : y ≡ x = ap (λ (o : Option Position). unwrap_or o y) e in subst P same all.0
all_got P (y ∷ ys) (suc n) x all e = all_got P ys n x all.1 e

-- ---- rows and places

module _ (m : Matrix) (rows columns : List ℕ) (k left : ℕ) (inside : k < length rows) where
  abbrev row : List Position
  row = row_places m columns (get_or rows k 0)

  more : places_on m (drop k rows) columns ≡ row_places m columns (get_or rows k 0) ++ places_on m (drop (k + 1) rows) columns
  more = ap (λ (xs : List ℕ). places_on m xs columns) (drop_more rows k 0 inside)

  pub place_here : left < length (row_places m columns (get_or rows k 0)) → slice_get (row_places m columns (get_or rows k 0)) left ≡ slice_get (places_on m (drop k rows) columns) left
  place_here h = sym (get_prefix row (places_on m (drop (k + 1) rows) columns) left h) ∙ sym (ap (λ (xs : List Position). slice_get xs left) more)

  pub place_later : length (row_places m columns (get_or rows k 0)) ≤ left
      → slice_get (places_on m (drop (k + 1) rows) columns) (left - length (row_places m columns (get_or rows k 0))) ≡ slice_get (places_on m (drop k rows) columns) left
  place_later h = sym (get_back row (places_on m (drop (k + 1) rows) columns) left h) ∙ sym (ap (λ (xs : List Position). slice_get xs left) more)

-- ---- a zero submatrix

module _ (m : Matrix) (columns : List ℕ) (i j : ℕ) (there : IsIn j columns) (nonzero : is_nonzero (entry m i j) ≡ true) where
  some_in_row : 0 < length (row_places m columns i)
  some_in_row =
      let made = length-map (filter (λ column. is_nonzero (entry m i column)) columns) (λ (column : ℕ). let place : Position = record { row = i; column = column } in place) in
      let some = some_in j (filter (λ column. is_nonzero (entry m i column)) columns) (filter_in (λ column. is_nonzero (entry m i column)) j columns there nonzero) in
      subst (λ n. 0 < n) (sym made) some

  some_place : (rows : List ℕ) → IsIn i rows → 0 < length (places_on m rows columns)
  some_place [] h = absurd h
  some_place (x ∷ xs) (inl e) =
      let both = length-append (row_places m columns x) (places_on m xs columns) in
      let some = subst (λ r. 0 < length (row_places m columns r)) e some_in_row in
      omega (arith, both, some)
  some_place (x ∷ xs) (inr h) =
      let both = length-append (row_places m columns x) (places_on m xs columns) in
      let some = some_place xs h in
      omega (arith, both, some)

pub none_placed : (m : Matrix) (rows columns : List ℕ) → length (places_on m rows columns) ≡ 0 → (i j : ℕ) → Contains rows i → Contains columns j → entry m i j ≡ pos 0
none_placed m rows columns none i j i_in j_in = go (is_nonzero (entry m i j)) refl
  where
    go : (b : Bool) → is_nonzero (entry m i j) ≡ b → entry m i j ≡ pos 0
    go false e = zero_is (entry m i j) e
    go true e = absurd (let some = some_place m columns i j (in_from_contains columns j j_in) e rows (in_from_contains rows i i_in) in omega (arith, none, some))

-- ---- the drawn position

record IsNonzeroOf (m : Matrix) (rows columns : List ℕ) (place : Position) : Type 0 where
  pub row_in : IsIn place.row rows
  pub column_in : IsIn place.column columns
  pub nonzero : is_nonzero (entry m place.row place.column) ≡ true

all_nonzeros : (m : Matrix) (rows columns some : List ℕ) → AllByRecursion (λ x. IsIn x rows) some → AllByRecursion (IsNonzeroOf m rows columns) (places_on m some columns)
all_nonzeros m rows columns [] all = tt
all_nonzeros m rows columns (x ∷ xs) all = all-append (IsNonzeroOf m rows columns) (row_places m columns x) (places_on m xs columns)
    (all-map (IsNonzeroOf m rows columns) (λ (column : ℕ). let place : Position = record { row = x; column = column } in place) (filter (λ column. is_nonzero (entry m x column)) columns)
    (all_of_members (λ column. IsNonzeroOf m rows columns (record { row = x; column = column })) (filter (λ column. is_nonzero (entry m x column)) columns)
    (λ j h. let r = in_filter (λ column. is_nonzero (entry m x column)) j columns h in record { row_in = all.0; column_in = r.0; nonzero = r.1 })))
    (all_nonzeros m rows columns xs all.1)

module _ (m : Matrix) (lines : LineSet) (state : ℕ) where
  abbrev places : List Position
  places = places_on m lines.rows lines.columns

  abbrev number : ℕ
  number = (next_state state / 1024) % length places

  pub drawn_in : IfSome (drawn_place m lines state) (λ drawn. IsPlaceIn m lines drawn.place)
  drawn_in = go (slice_get places number) refl
    where
      go : (o : Option Position) → slice_get places number ≡ o → IfSome (option_map (λ (place : Position). let drawn : DrawnPlace = record { place = place; state = next_state state } in drawn) o) (λ drawn. IsPlaceIn m lines drawn.place)
      go None e = tt
      go (Some x) e =
          let good = all_got (IsNonzeroOf m lines.rows lines.columns) places number x (all_nonzeros m lines.rows lines.columns lines.rows (all_of_members (λ x. IsIn x lines.rows) lines.rows (λ x h. h))) e in
          record {
            row = contains_from_in lines.rows x.row good.row_in;
            column = contains_from_in lines.columns x.column good.column_in;
            nonzero = λ q. true_is_false (sym good.nonzero ∙ ap is_nonzero q);
          }

  pub none_drawn : IfNone (drawn_place m lines state) ((i j : ℕ) → Contains lines.rows i → Contains lines.columns j → entry m i j ≡ pos 0)
  none_drawn = go (slice_get places number) refl
    where
      go : (o : Option Position) → slice_get places number ≡ o
          → IfNone (option_map (λ (place : Position). let drawn : DrawnPlace = record { place = place; state = next_state state } in drawn) o) ((i j : ℕ) → Contains lines.rows i → Contains lines.columns j → entry m i j ≡ pos 0)
      go (Some x) e = tt
      go None e = elim (cases_eq (length places) 0) [
        | inl none ↦ none_placed m lines.rows lines.columns none
        | inr some ↦ absurd (true_is_false (sym (got places number (mod_below (next_state state / 1024) (length places) (omega arith))) ∙ ap is_there e))
      ]
