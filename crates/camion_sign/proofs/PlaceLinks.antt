-- The marks of pairs of columns that make cycle places, as walks determine them.
use Rattle.std.proofs.Common.{◌≡◌, ◌≢◌, ◌∙◌, ◌<◌, ◌≤◌, ◌+◌, ◌++◌, ◌+ℤ◌, ℕ, ℤ, pos, Bool, true, false, Some, None, List, [], ◌∷◌, length, replicate, set, get_or, ◌||◌, inl, inr, refl, sym, ap, ap₂, subst, arith}
use Rattle.std.proofs.lemmas.Bool.{cases_eq, cases_lt}
use Rattle.std.proofs.lemmas.List.{get_or-set_other, length-set, length-replicate}
use Rattle.cmr_base.specs.BitSets.{Bits}
use Rattle.cmr_base.specs.ColumnSets.{has_column}
use Rattle.cmr_base.specs.Matrix.{Matrix, height, entry, with_entry, is_nonzero, IsEntry, IsMatrix}
use Rattle.cmr_base.specs.Planes.{is_minus}
use Rattle.cmr_base.specs.CyclePlaces.{IsPath, path_sum}
use Rattle.cmr_base.specs.Trees.{support}
use Rattle.cmr_base.proofs.Booleans.{not_both, not_either, true_is, true_is_false, zero_is}
use Rattle.cmr_base.proofs.Lists.{get_or-replicated}
use Rattle.cmr_base.proofs.Entries.{height-with_entry, entry-with_entry_same, entry-with_entry_other_column, entry-with_entry_other_row, is_matrix-with_entry}
use Rattle.ghouila.proofs.Routes.{reversed}
use Rattle.camion_sign.specs.declared.walk.ReachedColumn.{ReachedColumn}
use Rattle.camion_sign.specs.declared.walk.Walk.{Walk}
use Rattle.camion_sign.specs.ColumnParts.{HasPartsBefore}
use Rattle.camion_sign.specs.SignOrder.{IsPlaceOf}
use Rattle.camion_sign.specs.Walks.{HasPlacesAndMarks, HasValuesBefore, HasWalked, TwoIf, step_at, place_in}
use Rattle.camion_sign.specs.declared.row_places.RowPlaces.{RowPlaces}
use Rattle.camion_sign.specs.Signings.{HasPathWith, HasRoomForPlaces, HasTouched, ShowsPlace, ShowsPlacesFrom, AreSquare, KnowsPlaces}
use Rattle.camion_sign.proofs.FirstFaults.{key_is, is_place, sum_two}

module _ (m values : Matrix) (t c d : ℕ) (walk : Walk) (w : HasWalked m values t c walk) (order : c < d) (first : entry m t c ≢ pos 0) (last : entry m t d ≢ pos 0) where
  -- the walk has not reached the last column
  pub shows_none : (z : ℤ) → IsEntry z → z ≡ pos 0 → place_in walk.places.items d ≡ 4294967295 → ShowsPlace m values t c d z
  shows_none z small e unreached = record { small = small; place = λ h. absurd (h e); none = λ h path p. w.none d path p.order p.last unreached p.is_path }

  -- the walk has reached it
  pub shows_place : (z : ℤ) → IsEntry z → z ≢ pos 0 → place_in walk.places.items d < 4294967295
      → is_minus z ≡ (step_at walk.steps.items (place_in walk.places.items d)).is_two → ShowsPlace m values t c d z
  shows_place z small h met minus = record {
    small = small;
    place = λ _. (lines, is_place m values t c d walk w order met first last lines key, subst (λ (b : Bool). TwoIf b (path_sum (entry values) c d lines)) (sym minus) (sum_two m values t c d walk w order met first last lines key));
    none = λ e. absurd (h e);
  }
    where
      step : ReachedColumn
      step = step_at walk.steps.items (place_in walk.places.items d)

      lines : List ℕ
      lines = w.key step.before ++ step.row ∷ []

      key : w.key (place_in walk.places.items d) ≡ lines ++ d ∷ []
      key = key_is m values t c d walk w order met (w.key step.before) refl

module _ (m values links : Matrix) (t c last : ℕ) (square : AreSquare m links) (shows : ShowsPlacesFrom m values t c last links) where
  -- no column of row t is between two columns
  pub note_zeros : (a : Matrix) (next : ℕ) → a ≡ m → ((y : ℕ) → last ≤ y → y < next → support a t y ≡ false) → ShowsPlacesFrom m values t c next links
  note_zeros a next same zeros d order l one = elim (cases_lt d last) [
    | inl lt ↦ shows d order lt one
    | inr ge ↦ absurd (one (zero_is (entry m t d) (sym (ap (λ (x : Matrix). support x t d) same) ∙ zeros d ge l)))
  ]

  module _ (z : ℤ) (small : IsEntry z) (c_in : c < m.width) (last_in : last < m.width) where
    row_inside : c < height links
    row_inside = let e = square.links_height in omega arith

    column_inside : last < links.width
    column_inside = let e = square.links_width in omega arith

    pub note_square : AreSquare m (with_entry links c last z)
    note_square = record {
      matrix = is_matrix-with_entry links c last z row_inside small square.matrix;
      links_height = height-with_entry links c last z ∙ square.links_height;
      links_width = square.links_width;
    }

    pub note_shows : ShowsPlace m values t c last z → ShowsPlacesFrom m values t c (last + 1) (with_entry links c last z)
    note_shows here d order l one = elim (cases_lt d last) [
      | inl lt ↦ subst (ShowsPlace m values t c d) (sym (entry-with_entry_other_column links c last z row_inside d (omega arith))) (shows d order lt one)
      | inr ge ↦ let e : last ≡ d = omega arith in
          subst (λ x. ShowsPlace m values t c x (entry (with_entry links c last z) c x)) e (subst (ShowsPlace m values t c last) (sym (entry-with_entry_same links c last z row_inside square.matrix column_inside)) here)
    ]

    pub note_others : (a b : ℕ) → a ≢ c → entry (with_entry links c last z) a b ≡ entry links a b
    note_others a b d = entry-with_entry_other_row links c last z a b d

-- ---- the columns that earlier rows meet

meets : (m : Matrix) (row d : ℕ) (words : List ℕ) → ((x : ℕ) → has_column words x ≡ support m row x) → entry m row d ≢ pos 0 → has_column words d ≡ true
meets m row d words are n = are d ∙ true_is (is_nonzero (entry m row d)) (λ f. n (zero_is (entry m row d) f))

-- the columns of one more row are added
pub touched_more : (m : Matrix) (row : ℕ) (old new : Bits) (words : List ℕ) → HasTouched m row old → ((x : ℕ) → has_column words x ≡ support m row x) → new.size ≡ old.size
    → ((x : ℕ) → has_column new.words x ≡ (has_column old.words x || has_column words x)) → HasTouched m (row + 1) new
touched_more m row old new words touched are size added = record {
  size = size ∙ touched.size;
  all = λ d r l n. true_is (has_column new.words d) (λ f.
      let both = not_either (has_column old.words d) (has_column words d) (sym (added d) ∙ f) in
      elim (cases_lt r row) [
        | inl lt ↦ not_both (has_column old.words d) (touched.all d r lt n) both.0
        | inr ge ↦ let e : r ≡ row = omega arith in not_both (has_column words d) (meets m row d words are (subst (λ (i : ℕ). entry m i d ≢ pos 0) e n)) both.1
      ]);
}

-- ---- the known places after another walk

shows_still : (m values old new : Matrix) (t c x : ℕ) → x ≢ c → ((a b : ℕ) → a ≢ c → entry new a b ≡ entry old a b) → ShowsPlacesFrom m values t x m.width old
    → ShowsPlacesFrom m values t x m.width new
shows_still m values old new t c x apart others shows d order l one = subst (ShowsPlace m values t x d) (sym (others x d apart)) (shows d order l one)

pub known_more : (m values : Matrix) (t c : ℕ) (old new : RowPlaces) → KnowsPlaces m values t old → HasWalked m values t c new.walk
    → ShowsPlacesFrom m values t c m.width new.links → ((a b : ℕ) → a ≢ c → entry new.links a b ≡ entry old.links a b) → AreSquare m new.links
    → new.known.items ≡ set old.known.items c true → new.walked ≡ Some c → new.parts ≡ old.parts → new.touched ≡ old.touched → new.waiting.size ≡ old.waiting.size → KnowsPlaces m values t new
known_more m values t c old new knows walked shows others square e is_there parts touched waiting = record {
  room = record {
    parts = subst (HasPartsBefore m t) (sym parts) knows.room.parts;
    touched = subst (HasTouched m t) (sym touched) knows.room.touched;
    waiting = waiting ∙ knows.room.waiting;
    fits = walked.fits;
    square = square;
    one_each = ap length e ∙ length-set old.known.items c true ∙ knows.room.one_each;
  };
  signs = knows.signs;
  shows = λ x yes. elim (cases_eq x c) [
    | inl same ↦ subst (λ y. ShowsPlacesFrom m values t y m.width new.links) (sym same) shows
    | inr apart ↦ shows_still m values old.links new.links t c x apart others (knows.shows x (sym (get_or-set_other old.known.items c x true false apart) ∙ ap (λ (items : List Bool). get_or items x false) (sym e) ∙ yes))
  ];
  walked = λ x is. let same : c ≡ x = some_same c x (sym is_there ∙ is) in (values, subst (λ y. HasWalked m values t y new.walk) same walked);
}
  where
    some_same : (a b : ℕ) → Some a ≡ Some b → a ≡ b
    some_same a b e = cc

-- nothing is known at the beginning of a row
pub begin_row : (m values : Matrix) (t : ℕ) (old new : RowPlaces) → HasRoomForPlaces m t old → HasValuesBefore m values t → new.parts ≡ old.parts
    → new.walk ≡ old.walk → new.links ≡ old.links → new.walked ≡ None → new.known.items ≡ replicate (length old.known.items) false → new.touched ≡ old.touched
    → new.waiting ≡ old.waiting → KnowsPlaces m values t new
begin_row m values t old new room signs parts walk links walked known touched waiting = record {
  room = record {
    parts = subst (HasPartsBefore m t) (sym parts) room.parts;
    touched = subst (HasTouched m t) (sym touched) room.touched;
    waiting = ap (λ (set : Bits). set.size) waiting ∙ room.waiting;
    fits = subst (HasPlacesAndMarks m) (sym walk) room.fits;
    square = subst (AreSquare m) (sym links) room.square;
    one_each = ap length known ∙ length-replicate (length old.known.items) false ∙ room.one_each;
  };
  signs = signs;
  shows = λ c yes. absurd (true_is_false (sym yes ∙ ap (λ (items : List Bool). get_or items c false) known ∙ get_or-replicated (length old.known.items) c false));
  walked = λ c is. absurd (let e = sym walked ∙ is in cc);
}

-- ---- the marks after another sign

-- a path has the same sum if the values in the rows before t are the same
pub same_path_sum : (M V W : ℕ → ℕ → ℤ) (t c d : ℕ) (lines : List ℕ) → ((i j : ℕ) → i < t → W i j ≡ V i j) → IsPath M t c d lines → path_sum W c d lines ≡ path_sum V c d lines
same_path_sum M V W t c d [] same path = absurd path
same_path_sum M V W t c d (r ∷ []) same (l, a, b) = ap₂ (λ x y. x +ℤ y) (same r c l) (same r d l)
same_path_sum M V W t c d (r ∷ j ∷ lines) same (l, a, b, z, more) = ap₂ (λ x y. x +ℤ y) (ap₂ (λ x y. x +ℤ y) (same r c l) (same r j l)) (same_path_sum M V W t j d lines same more)

path_still : (m s n : Matrix) (t c d : ℕ) (two : Bool) → ((i j : ℕ) → i < t → entry n i j ≡ entry s i j) → HasPathWith m s t c d two → HasPathWith m n t c d two
path_still m s n t c d two same (path, place, sum) = (path, place, subst (TwoIf two) (sym (same_path_sum (entry m) (entry s) (entry n) t c d path same place.is_path)) sum)

pub known_still : (m s n : Matrix) (t : ℕ) (places : RowPlaces) → KnowsPlaces m s t places → HasValuesBefore m n t → ((i j : ℕ) → i < t → entry n i j ≡ entry s i j) → KnowsPlaces m n t places
known_still m s n t places knows signs same = record {
  room = knows.room;
  signs = signs;
  shows = λ c yes d order l one. let shows = knows.shows c yes d order l one in record { small = shows.small; place = λ h. path_still m s n t c d _ same (shows.place h); none = shows.none };
  walked = knows.walked;
}

-- ---- two columns in any order

-- columns of different parts make no place
pub apart_none : (m : Matrix) (t c d : ℕ) → ((path : List ℕ) → ¬ (IsPath (entry m) t c d path)) → IsMatrix m → (path : List ℕ) → ¬ (IsPlaceOf m t d c path)
apart_none m t c d none is path (inl place) = let back = reversed (entry m) is.small t d c path place.is_path in none back.0 back.1
apart_none m t c d none is path (inr place) = none path place.is_path

-- the mark of a first column and a last one
pub mark_none : (m s : Matrix) (t c d : ℕ) (z : ℤ) → c < d → ShowsPlace m s t c d z → z ≡ pos 0 → (path : List ℕ) → ¬ (IsPlaceOf m t c d path)
mark_none m s t c d z l shows e path (inl place) = shows.none e path place
mark_none m s t c d z l shows e path (inr place) = absurd (let k = place.order in omega arith)

pub mark_none_back : (m s : Matrix) (t c d : ℕ) (z : ℤ) → c < d → ShowsPlace m s t c d z → z ≡ pos 0 → (path : List ℕ) → ¬ (IsPlaceOf m t d c path)
mark_none_back m s t c d z l shows e path (inl place) = absurd (let k = place.order in omega arith)
mark_none_back m s t c d z l shows e path (inr place) = shows.none e path place
