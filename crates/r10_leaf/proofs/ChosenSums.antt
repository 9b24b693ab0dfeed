-- Sums over sets of lines, as sums over all lines in some order with the lines of the set chosen.
use Rattle.std.proofs.Common.{◌≡◌, ◌∙◌, ◌<◌, ◌⊎◌, ◌%◌, ◌&&◌, ◌+◌, length, arith, ℕ, ℤ, pos, negsuc, ◌+ℤ◌, Bool, true, false, cond, filter, nat_eq, List, [], ◌∷◌, map, inl, inr, refl, sym, ap, subst}
use Rattle.std.proofs.lemmas.List.{length-map}
use Rattle.cmr_base.specs.Members.{IsIn, IsDistinct}
use Rattle.cmr_base.specs.Sums.{sum_over, IsEven, IsTwoModFour}
use Rattle.cmr_base.specs.Violator.{IsViolator}
use Rattle.cmr_base.specs.R10.{IsOrder}
use Rattle.cmr_base.proofs.Integers.{sums}
use Rattle.cmr_base.proofs.Members.{all_in, sum_over_members}
use Rattle.cmr_base.proofs.RowLists.{eq_of, is_eq, ne_of, filter_in, in_filter}
use Rattle.cmr_base.proofs.ListsWithout.{true_is_false}
use Rattle.r10_leaf.proofs.Signings.{chosen_sum, rests, row_sums, chosen_even, added, zeros, column_sums, is_clean, always, always_holds}

-- whether a number is in a list
abbrev pub has : List ℕ → ℕ → Bool
has [] x = false
has (y ∷ ys) x = cond (nat_eq x y) true (has ys x)

has_in : (xs : List ℕ) (x : ℕ) → has xs x ≡ true → IsIn x xs
has_in [] x h = true_is_false (sym h)
has_in (y ∷ ys) x h = go (nat_eq x y) refl h (has_in ys x)
  where
    go : (b : Bool) → nat_eq x y ≡ b → cond b true (has ys x) ≡ true → (has ys x ≡ true → IsIn x ys) → IsIn x (y ∷ ys)
    go true e h k = inl (eq_of x y e)
    go false e h k = inr (k h)

in_has : (xs : List ℕ) (x : ℕ) → IsIn x xs → has xs x ≡ true
in_has [] x h = absurd h
in_has (y ∷ ys) x h = go (nat_eq x y) refl h (in_has ys x)
  where
    go : (b : Bool) → nat_eq x y ≡ b → (x ≡ y) ⊎ IsIn x ys → (IsIn x ys → has ys x ≡ true) → cond b true (has ys x) ≡ true
    go true e h k = refl
    go false e (inl q) k = absurd (ne_of x y e q)
    go false e (inr g) k = k g

filter_distinct : (p : ℕ → Bool) (xs : List ℕ) → IsDistinct xs → IsDistinct (filter p xs)
filter_distinct p [] d = tt
filter_distinct p (x ∷ xs) d = go (p x) (filter_distinct p xs d.1)
  where
    go : (b : Bool) → IsDistinct (filter p xs) → IsDistinct (cond b (x ∷ filter p xs) (filter p xs))
    go true k = ((λ h. d.0 (in_filter p x xs h).0), k)
    go false k = k

sum_over_filter : (p : ℕ → Bool) (xs : List ℕ) (f : ℕ → ℤ) → sum_over (filter p xs) f ≡ sum_over xs (λ x. cond (p x) (f x) (pos 0))
sum_over_filter p [] f = refl
sum_over_filter p (x ∷ xs) f = go (p x) (sum_over_filter p xs f)
  where
    go : (b : Bool) → sum_over (filter p xs) f ≡ sum_over xs (λ y. cond (p y) (f y) (pos 0))
        → sum_over (cond b (x ∷ filter p xs) (filter p xs)) f ≡ cond b (f x) (pos 0) +ℤ sum_over xs (λ y. cond (p y) (f y) (pos 0))
    go true e = ap (λ z. f x +ℤ z) e
    go false e = omega (arith, sums)

sum_over_chosen : (xs lines : List ℕ) (f : ℕ → ℤ) → sum_over lines (λ x. cond (has xs x) (f x) (pos 0)) ≡ chosen_sum (map (has xs) lines) (map f lines)
sum_over_chosen xs [] f = refl
sum_over_chosen xs (x ∷ lines) f = ap (λ z. cond (has xs x) (f x) (pos 0) +ℤ z) (sum_over_chosen xs lines f)

module _ (n : ℕ) (lines : List ℕ) (order : IsOrder n lines) where
  -- the sum over a set
  pub chosen : (xs : List ℕ) → IsDistinct xs → ((x : ℕ) → IsIn x xs → x < n) → (f : ℕ → ℤ) → sum_over xs f ≡ chosen_sum (map (has xs) lines) (map f lines)
  chosen xs distinct below f =
      sum_over_members xs (filter (has xs) lines) f distinct (filter_distinct (has xs) lines order.distinct)
      (λ x h. filter_in (has xs) x lines ((order.all x).1 (below x h)) (in_has xs x h))
      (λ x h. has_in xs x (in_filter (has xs) x lines h).1)
      ∙ sum_over_filter (has xs) lines f
      ∙ sum_over_chosen xs lines f

map_same : {A B : Type 0} (f g : A → B) (xs : List A) → ((x : A) → f x ≡ g x) → map f xs ≡ map g xs
map_same f g [] h = refl
map_same f g (x ∷ xs) h = rw (h x, map_same f g xs h) refl

-- the sums of the rows
row_sums_are : (E : ℕ → ℕ → ℤ) (bs : List Bool) (rows columns : List ℕ) → row_sums (map (λ i. map (E i) columns) rows) bs ≡ map (λ i. chosen_sum bs (map (E i) columns)) rows
row_sums_are E bs [] columns = refl
row_sums_are E bs (i ∷ rows) columns = ap (λ zs. chosen_sum bs (map (E i) columns) ∷ zs) (row_sums_are E bs rows columns)

added_are : (f g : ℕ → ℤ) (xs : List ℕ) → added (map f xs) (map g xs) ≡ map (λ x. f x +ℤ g x) xs
added_are f g [] = refl
added_are f g (x ∷ xs) = ap (λ zs. (f x +ℤ g x) ∷ zs) (added_are f g xs)

nothing_added : (f : ℕ → ℤ) (xs : List ℕ) → map f xs ≡ map (λ x. pos 0 +ℤ f x) xs
nothing_added f xs = map_same f (λ x. pos 0 +ℤ f x) xs (λ x. plus (f x))
  where
    plus : (z : ℤ) → z ≡ pos 0 +ℤ z
    plus z = omega (arith, sums)

-- the sums of the columns
column_sums_are : (E : ℕ → ℕ → ℤ) (b : ℕ → Bool) (rows columns : List ℕ)
    → column_sums (map (λ j. pos 0) columns) (map (λ i. map (E i) columns) rows) (map b rows) ≡ map (λ j. chosen_sum (map b rows) (map (λ i. E i j) rows)) columns
column_sums_are E b [] columns = refl
column_sums_are E b (i ∷ rows) columns = go (b i) (column_sums_are E b rows columns)
  where
    go : (t : Bool) → column_sums (map (λ j. pos 0) columns) (map (λ k. map (E k) columns) rows) (map b rows) ≡ map (λ j. chosen_sum (map b rows) (map (λ k. E k j) rows)) columns
        → cond t (added (map (E i) columns) (column_sums (map (λ j. pos 0) columns) (map (λ k. map (E k) columns) rows) (map b rows))) (column_sums (map (λ j. pos 0) columns) (map (λ k. map (E k) columns) rows) (map b rows))
        ≡ map (λ j. cond t (E i j) (pos 0) +ℤ chosen_sum (map b rows) (map (λ k. E k j) rows)) columns
    go true e = rw e (added_are (E i) (λ j. chosen_sum (map b rows) (map (λ k. E k j) rows)) columns)
    go false e = e ∙ nothing_added (λ j. chosen_sum (map b rows) (map (λ k. E k j) rows)) columns

rests_even : (z : ℤ) → IsEven z → rests z 2 0 ≡ true
rests_even (pos n) (pos k, e) = is_eq (n % 2) 0 (omega (arith, sums))
rests_even (pos n) (negsuc k, e) = absurd (omega (arith, sums))
rests_even (negsuc n) (pos k, e) = absurd (omega (arith, sums))
rests_even (negsuc n) (negsuc k, e) = is_eq ((n + 1) % 2) 0 (omega (arith, sums))

rests_two : (z : ℤ) → IsTwoModFour z → rests z 4 2 ≡ true
rests_two (pos n) (pos k, e) = is_eq (n % 4) 2 (omega (arith, sums))
rests_two (pos n) (negsuc k, e) = absurd (omega (arith, sums))
rests_two (negsuc n) (pos k, e) = absurd (omega (arith, sums))
rests_two (negsuc n) (negsuc k, e) = is_eq ((n + 1) % 4) 2 (omega (arith, sums))

chosen_are_even : (xs lines : List ℕ) (f : ℕ → ℤ) → ((x : ℕ) → IsIn x xs → IsEven (f x)) → chosen_even (map (has xs) lines) (map f lines) ≡ true
chosen_are_even xs [] f h = refl
chosen_are_even xs (x ∷ lines) f h = go (has xs x) refl (chosen_are_even xs lines f h)
  where
    go : (b : Bool) → has xs x ≡ b → chosen_even (map (has xs) lines) (map f lines) ≡ true → cond b (rests (f x) 2 0) true && chosen_even (map (has xs) lines) (map f lines) ≡ true
    go true e k = rw (rests_even (f x) (h x (has_in xs x e)), k) refl
    go false e k = rw k refl

length-map_has : (xs lines : List ℕ) → length (map (has xs) lines) ≡ length lines
length-map_has xs lines = length-map lines (has xs)

-- a table without violators: a matrix that has the table in some order of its lines has no violator
pub table_clean : (E : ℕ → ℕ → ℤ) (table : List (List ℤ)) (rows columns : List ℕ) → IsOrder 5 rows → IsOrder 5 columns → length rows ≡ 5 → length columns ≡ 5
    → map (λ i. map (E i) columns) rows ≡ table → always 5 (λ bs. always 5 (λ cs. is_clean table bs cs)) ≡ true
    → (R C : List ℕ) → IsDistinct R → IsDistinct C → ((i : ℕ) → IsIn i R → i < 5) → ((j : ℕ) → IsIn j C → j < 5) → ¬ (IsViolator E R C)
table_clean E table rows columns row_order column_order many_rows many_columns is clean R C dr dc lr lc v = true_is_false (sym found ∙ not_clean)
  where
    bs : List Bool
    bs = map (has R) rows

    cs : List Bool
    cs = map (has C) columns

    found : is_clean (map (λ i. map (E i) columns) rows) (map (has R) rows) (map (has C) columns) ≡ true
    found = subst (λ t. is_clean t (map (has R) rows) (map (has C) columns) ≡ true) (sym is)
        (always_holds 5 (λ c. is_clean table (map (has R) rows) c)
        (always_holds 5 (λ b. always 5 (λ c. is_clean table b c)) clean (map (has R) rows) (length-map_has R rows ∙ many_rows))
        (map (has C) columns) (length-map_has C columns ∙ many_columns))

    row : (i : ℕ) → sum_over C (E i) ≡ chosen_sum (map (has C) columns) (map (E i) columns)
    row i = chosen 5 columns column_order C dc lc (E i)

    column : (j : ℕ) → sum_over R (λ i. E i j) ≡ chosen_sum (map (has R) rows) (map (λ i. E i j) rows)
    column j = chosen 5 rows row_order R dr lr (λ i. E i j)

    rows_even : chosen_even (map (has R) rows) (map (λ i. chosen_sum (map (has C) columns) (map (E i) columns)) rows) ≡ true
    rows_even = chosen_are_even R rows (λ i. chosen_sum (map (has C) columns) (map (E i) columns)) (λ i h. subst IsEven (row i) (all_in (λ k. IsEven (sum_over C (E k))) R v.even_rows i h))

    columns_even : chosen_even (map (has C) columns) (map (λ j. chosen_sum (map (has R) rows) (map (λ i. E i j) rows)) columns) ≡ true
    columns_even = chosen_are_even C columns (λ j. chosen_sum (map (has R) rows) (map (λ i. E i j) rows)) (λ j h. subst IsEven (column j) (all_in (λ k. IsEven (sum_over R (λ i. E i k))) C v.even_columns j h))

    whole : sum_over R (λ i. sum_over C (E i)) ≡ chosen_sum (map (has R) rows) (map (λ i. chosen_sum (map (has C) columns) (map (E i) columns)) rows)
    whole = chosen 5 rows row_order R dr lr (λ i. sum_over C (E i)) ∙ ap (λ zs. chosen_sum (map (has R) rows) zs) (map_same (λ i. sum_over C (E i)) (λ i. chosen_sum (map (has C) columns) (map (E i) columns)) rows row)

    two : rests (chosen_sum (map (has R) rows) (map (λ i. chosen_sum (map (has C) columns) (map (E i) columns)) rows)) 4 2 ≡ true
    two = rests_two (chosen_sum (map (has R) rows) (map (λ i. chosen_sum (map (has C) columns) (map (E i) columns)) rows)) (subst IsTwoModFour whole v.two_mod_four)

    nothing : map (λ (j : ℕ). pos 0) columns ≡ zeros
    nothing = five columns many_columns
      where
        five : (xs : List ℕ) → length xs ≡ 5 → map (λ (j : ℕ). pos 0) xs ≡ zeros
        five (a ∷ b ∷ c ∷ d ∷ e ∷ []) h = refl
        five [] h = absurd (omega arith)
        five (a ∷ []) h = absurd (omega arith)
        five (a ∷ b ∷ []) h = absurd (omega arith)
        five (a ∷ b ∷ c ∷ []) h = absurd (omega arith)
        five (a ∷ b ∷ c ∷ d ∷ []) h = absurd (omega arith)
        five (a ∷ b ∷ c ∷ d ∷ e ∷ f ∷ xs) h = absurd (omega arith)

    not_clean : is_clean (map (λ i. map (E i) columns) rows) (map (has R) rows) (map (has C) columns) ≡ false
    not_clean = rw (row_sums_are E (map (has C) columns) rows columns, rows_even, sym nothing, column_sums_are E (has R) rows columns, columns_even, two) refl
