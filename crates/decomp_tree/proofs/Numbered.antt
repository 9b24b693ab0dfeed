-- Lines of a submatrix by their numbers in the whole matrix.
use Rattle.std.proofs.Common.{◌≡◌, ◌<◌, ◌≤◌, ◌+◌, ◌∙◌, inl, inr, ℕ, zero, suc, Bool, true, false, cond, not, List, [], ◌∷◌, length, map, filter, take, get_or, Contains, refl, ap, sym, arith}
use Rattle.std.proofs.lemmas.List.{length-map, get_or-map, get_or-take, length-take}
use Rattle.std.proofs.Math.Seq.{take-length}
use Rattle.std.proofs.lemmas.List.Sums.{length-filter, count_by_more_yes, count_by_more_no}
use Rattle.std.proofs.lemmas.Grind.{same_number_lists}
use Rattle.std.proofs.lemmas.List.FromFn.{get_or-map-range_with_len, length-map-range_with_len}
use Rattle.std.specs.List.{AllByRecursion, count_by}
use Rattle.std.specs.List.Sorted.{IsStrictlyIncreasing}
use Rattle.cmr_base.specs.declared.line_set.LineSet.{LineSet}
use Rattle.cmr_base.specs.Indices.{IsAbove}
use Rattle.cmr_base.specs.Matrix.{Matrix, height, entry}
use Rattle.cmr_base.specs.LineSets.{first_lines, AllBelow}
use Rattle.cmr_base.specs.Members.{IsIn}
use Rattle.tree_type.specs.Sides.{is_among, inside, outside}
use Rattle.cmr_base.specs.Violator.{IsViolator}
use Rattle.cmr_base.proofs.Lists.{all_weaker}
use Rattle.cmr_base.proofs.ListsWithout.{in_from_contains, contains_from_in, in-get_or, increasing_distinct, same_place, place_of, place_is}
use Rattle.cmr_base.proofs.Parts.{entry-submatrix}
use Rattle.cmr_base.proofs.RemovedLines.{in_first_lines, first_lines_in}
use Rattle.cmr_base.proofs.RowLists.{filter_in, in_filter}
use Rattle.cmr_base.proofs.Submatrices.{increasing_places}
use Rattle.cmr_base.proofs.ViolatorLemmas.{violator_same, violator-map, violator-transposed}
use Rattle.cmr_base.proofs.LineCounts.{count}
use Rattle.cmr_base.proofs.Booleans.{same_test, not_is}
use Rattle.tree_type.specs.Soundness.{part}
use Rattle.tree_type.proofs.Among.{among_in, in_among}
use Rattle.decomp_tree.specs.Shapes.{numbered}

pub entry_in : (m : Matrix) (lines : LineSet) (i j : ℕ) → i < length lines.rows → j < length lines.columns → entry (part m lines) i j ≡ entry m (numbered lines.rows i) (numbered lines.columns j)
entry_in m lines i j h k = entry-submatrix m lines.rows lines.columns i j h k

pub height_in : (m : Matrix) (lines : LineSet) → height (part m lines) ≡ length lines.rows
height_in m lines = length-map lines.rows (λ row. map (entry m row) lines.columns)

pub violator_in : (m : Matrix) (lines : LineSet) (R C : List ℕ) → AllByRecursion (λ r. r < length lines.rows) R
    → AllByRecursion (λ c. c < length lines.columns) C → IsViolator (entry (part m lines)) R C
    → IsViolator (entry m) (map (numbered lines.rows) R) (map (numbered lines.columns) C)
violator_in m lines R C rows columns v =
    violator-transposed (λ c r. entry m r c) (map (numbered lines.columns) C) (map (numbered lines.rows) R)
    (violator-map (numbered lines.columns) (λ c r. entry m r c) C (map (numbered lines.rows) R)
    (violator-transposed (λ r c. entry m r (numbered lines.columns c)) (map (numbered lines.rows) R) C
    (violator-map (numbered lines.rows) (λ r c. entry m r (numbered lines.columns c)) R C
    (violator_same (entry (part m lines)) (λ r c. entry m (numbered lines.rows r) (numbered lines.columns c)) R C
    (all_weaker (λ r. r < length lines.rows) (λ r. AllByRecursion (λ c. entry (part m lines) r c ≡ entry m (numbered lines.rows r) (numbered lines.columns c)) C)
    (λ r h. all_weaker (λ c. c < length lines.columns) (λ c. entry (part m lines) r c ≡ entry m (numbered lines.rows r) (numbered lines.columns c)) (λ c k. entry_in m lines r c h k) C columns) R rows) v))))

pub in_map : (f : ℕ → ℕ) (xs : List ℕ) (x : ℕ) → IsIn x xs → IsIn (f x) (map f xs)
in_map f [] x h = absurd h
in_map f (y ∷ ys) x (inl e) = inl (ap f e)
in_map f (y ∷ ys) x (inr h) = inr (in_map f ys x h)

pub map_in : (f : ℕ → ℕ) (xs : List ℕ) (y : ℕ) → IsIn y (map f xs) → (x : ℕ) × IsIn x xs × (y ≡ f x)
map_in f [] y h = absurd h
map_in f (x ∷ xs) y (inl e) = (x, inl refl, e)
map_in f (x ∷ xs) y (inr h) = let w = map_in f xs y h in (w.0, inr w.1, w.2)

-- the lines of a side by their numbers in a increasing list
module _ (xs : List ℕ) (increases : IsStrictlyIncreasing xs) (s : ℕ → Bool) where
  abbrev pub named : List ℕ
  named = map (numbered xs) (filter s (first_lines (length xs)))

  pub once : (i k : ℕ) → i < length xs → k < length xs → numbered xs i ≡ numbered xs k → i ≡ k
  once i k h l e = same_place xs i k (increasing_distinct xs increases) h l e

  pub among_named : (k : ℕ) → k < length xs → is_among named (numbered xs k) ≡ s k
  among_named k l = same_test (is_among named (numbered xs k)) (s k)
      (λ e. let w = map_in (numbered xs) (filter s (first_lines (length xs))) (numbered xs k) (among_in named (numbered xs k) e) in
      let v = in_filter s w.0 (first_lines (length xs)) w.1 in
      ap s (once k w.0 l (first_lines_in (length xs) w.0 v.0) w.2) ∙ v.1)
      (λ e. in_among named (numbered xs k) (in_map (numbered xs) (filter s (first_lines (length xs))) k (filter_in s k (first_lines (length xs)) (in_first_lines (length xs) k l) e)))

  -- a line of side one, and a line of side two
  pub from_inside : (x : ℕ) → Contains (inside named xs) x → (k : ℕ) × (k < length xs) × (x ≡ numbered xs k) × (s k ≡ true)
  from_inside x h =
      let w = in_filter (is_among named) x xs (in_from_contains (inside named xs) x h) in
      let p = place_is x xs w.0 in
      (place_of x xs, p.in_range, sym p.there, sym (among_named (place_of x xs) p.in_range) ∙ ap (is_among named) p.there ∙ w.1)

  pub from_outside : (x : ℕ) → Contains (outside named xs) x → (k : ℕ) × (k < length xs) × (x ≡ numbered xs k) × (s k ≡ false)
  from_outside x h =
      let w = in_filter (λ y. not (is_among named y)) x xs (in_from_contains (outside named xs) x h) in
      let p = place_is x xs w.0 in
      (place_of x xs, p.in_range, sym p.there, sym (among_named (place_of x xs) p.in_range) ∙ ap (is_among named) p.there ∙ not_is (is_among named x) w.1)

  pub to_inside : (k : ℕ) → k < length xs → s k ≡ true → Contains (inside named xs) (numbered xs k)
  to_inside k l e = contains_from_in (inside named xs) (numbered xs k) (filter_in (is_among named) (numbered xs k) xs (in-get_or xs k l) (among_named k l ∙ e))

  pub to_outside : (k : ℕ) → k < length xs → s k ≡ false → Contains (outside named xs) (numbered xs k)
  to_outside k l e = contains_from_in (outside named xs) (numbered xs k) (filter_in (λ y. not (is_among named y)) (numbered xs k) xs (in-get_or xs k l) (ap not (among_named k l ∙ e)))

one_more : (k : ℕ) → k + 1 ≡ suc k
one_more k = omega arith

counted : (p s : ℕ → Bool) (xs : List ℕ) → ((k : ℕ) → k < length xs → p (get_or xs k 0) ≡ s k) → (k : ℕ) → k ≤ length xs → count s k ≡ count_by p (take k xs)
counted p s xs h zero l = refl
counted p s xs h (suc k) l = go (s k) refl (counted p s xs h k (omega (arith, l)))
  where
    next : count_by p (take (k + 1) xs) ≡ count_by p (take (suc k) xs)
    next = ap (λ n. count_by p (take n xs)) (one_more k)

    go : (b : Bool) → s k ≡ b → count s k ≡ count_by p (take k xs) → cond (s k) (suc (count s k)) (count s k) ≡ count_by p (take (suc k) xs)
    go true e f = rw e (let w = count_by_more_yes p xs k 0 l (h k l ∙ e) in omega (arith, f, w, next))
    go false e f = rw e (let w = count_by_more_no p xs k 0 l (h k l ∙ e) in f ∙ sym w ∙ next)

-- as many pass as the list has lines that do
pub counted_all : (p s : ℕ → Bool) (xs : List ℕ) → ((k : ℕ) → k < length xs → p (get_or xs k 0) ≡ s k) → length (filter p xs) ≡ count s (length xs)
counted_all p s xs h = length-filter p xs ∙ sym (counted p s xs h (length xs) (omega arith) ∙ ap (count_by p) (take-length xs))

-- all numbers name all lines
pub named_all : (xs : List ℕ) → map (numbered xs) (first_lines (length xs)) ≡ xs
named_all xs = same_number_lists (map (numbered xs) (first_lines (length xs))) xs (length-map-range_with_len (numbered xs) 0 (length xs))
    (λ k l. get_or-map-range_with_len (numbered xs) 0 (length xs) k k 0 (omega (arith, l, length-map-range_with_len (numbered xs) 0 (length xs))) (omega arith))

-- what is named next is above all that was named
pub named_below : (lines places : List ℕ) (i : ℕ) → IsStrictlyIncreasing lines → IsStrictlyIncreasing places → AllBelow (length lines) places
    → i < length places → IsAbove (numbered lines (get_or places i 0)) (map (numbered lines) (take i places))
named_below lines places i increases places_increase low l k h =
    let many = length-map (take i places) (numbered lines) in
    let taken = length-take i places in
    let before : k < i = omega (arith, h, many, taken) in
    let short : k < length (take i places) = omega (arith, h, many) in
    let a = get_or-map (numbered lines) (take i places) k 0 0 short in
    let b = get_or-take i places k 0 before in
    let less = increasing_places lines (get_or places k 0) (get_or places i 0) increases (increasing_places places k i places_increase before l) (low i l) in
    omega (arith, a, ap (numbered lines) b, less)
