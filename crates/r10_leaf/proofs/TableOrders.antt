-- Lists of rows that fit a table are orders of the rows, and each order has a number.
use Rattle.std.proofs.Common.{◌≡◌, ◌∙◌, ◌<◌, ◌≤◌, ◌⊎◌, ◌+◌, ◌*◌, ◌/◌, ◌%◌, ℕ, zero, suc, Bool, true, false, cond, nat_eq, List, [], ◌∷◌, map, length, get_or, drop, inl, inr, refl, sym, ap, subst, arith}
use Rattle.std.proofs.lemmas.Bool.{cases_lt}
use Rattle.std.proofs.lemmas.List.{ext_get_or, get_or-map, length-map}
use Rattle.cmr_base.specs.Matrix.{Matrix, entry}
use Rattle.cmr_base.specs.Members.{IsIn, IsDistinct}
use Rattle.cmr_base.specs.R10.{mark, marks, IsOrder, HasTable, circulant_table, bordered_table}
use Rattle.cmr_base.proofs.Members.{distinct_few, in_at}
use Rattle.cmr_base.proofs.RowLists.{eq_of, is_eq, in_or_not}
use Rattle.cmr_base.proofs.ListsWithout.{true_is_false, place_of, place_is}
use Rattle.r10_leaf.specs.Tables.{IsTable, table_at, IsColumn, HasTableColumns, rows_numbered}

-- ---- tests of all numbers below a bound

abbrev every : ℕ → (ℕ → Bool) → Bool
every zero test = true
every (suc n) test = cond (test n) (every n test) false

every_at : (n : ℕ) (test : ℕ → Bool) → every n test ≡ true → (i : ℕ) → i < n → test i ≡ true
every_at zero test h i l = absurd (omega arith)
every_at (suc n) test h i l = go (test n) refl h (λ e. every_at n test e i) (cases_lt i n)
  where
    go : (b : Bool) → test n ≡ b → cond b (every n test) false ≡ true → (every n test ≡ true → i < n → test i ≡ true) → (i < n) ⊎ (n ≤ i) → test i ≡ true
    go true e h k (inl lt) = k h lt
    go true e h k (inr ge) = let q : n ≡ i = omega arith in subst (λ x. test x ≡ true) q e
    go false e h k c = true_is_false (sym h)

every_true : (n : ℕ) (test : ℕ → Bool) → ((i : ℕ) → i < n → test i ≡ true) → every n test ≡ true
every_true zero test h = refl
every_true (suc n) test h = rw (h n (omega arith)) (every_true n test (λ i l. h i (omega arith)))

-- ---- the lines of a table differ

abbrev same_rows : List (List ℕ) → ℕ → ℕ → Bool
same_rows table i k = every 5 (λ j. nat_eq (table_at table i j) (table_at table k j))

abbrev same_columns : List (List ℕ) → ℕ → ℕ → Bool
same_columns table i k = every 5 (λ j. nat_eq (table_at table j i) (table_at table j k))

abbrev apart : (ℕ → ℕ → Bool) → Bool
apart same = every 5 (λ i. every 5 (λ k. cond (same i k) (nat_eq i k) true))

apart_at : (same : ℕ → ℕ → Bool) → apart same ≡ true → (i k : ℕ) → i < 5 → k < 5 → same i k ≡ true → i ≡ k
apart_at same h i k l g e = eq_of i k (go (same i k) e (every_at 5 (λ y. cond (same i y) (nat_eq i y) true) (every_at 5 (λ x. every 5 (λ y. cond (same x y) (nat_eq x y) true)) h i l) k g))
  where
    go : (b : Bool) → b ≡ true → cond b (nat_eq i k) true ≡ true → nat_eq i k ≡ true
    go true e h = h
    go false e h = true_is_false (sym e)

rows_apart : (table : List (List ℕ)) → IsTable table → apart (same_rows table) ≡ true
rows_apart table (inl e) = rw e refl
rows_apart table (inr e) = rw e refl

columns_apart : (table : List (List ℕ)) → IsTable table → apart (same_columns table) ≡ true
columns_apart table (inl e) = rw e refl
columns_apart table (inr e) = rw e refl

abbrev five_long : List (List ℕ) → ℕ → Bool
five_long table k = nat_eq (length (get_or table k [])) 5

rows_long : (table : List (List ℕ)) → IsTable table → every 5 (five_long table) ≡ true
rows_long table (inl e) = rw e refl
rows_long table (inr e) = rw e refl

pub table_long : (table : List (List ℕ)) → IsTable table → length table ≡ 5
table_long table (inl e) = rw e refl
table_long table (inr e) = rw e refl

-- ---- orders

distinct_by_places : (xs : List ℕ) → ((i k : ℕ) → i < length xs → k < length xs → get_or xs i 0 ≡ get_or xs k 0 → i ≡ k) → IsDistinct xs
distinct_by_places [] h = tt
distinct_by_places (x ∷ xs) h = (
  (λ i. let p = place_is x xs i in let e = h 0 (suc (place_of x xs)) (omega arith) (let l = p.in_range in omega arith) (sym p.there) in omega arith),
  distinct_by_places xs (λ i k l g e. let q = h (suc i) (suc k) (omega arith) (omega arith) e in omega arith),
)

order_by_places : (xs : List ℕ) → length xs ≡ 5 → ((k : ℕ) → k < 5 → get_or xs k 0 < 5) → ((i k : ℕ) → i < 5 → k < 5 → get_or xs i 0 ≡ get_or xs k 0 → i ≡ k) → IsOrder 5 xs
order_by_places xs long below injective = record { distinct = distinct; all = λ line. (below_five line, there line) }
  where
    distinct : IsDistinct xs
    distinct = distinct_by_places xs (λ i k l g e. injective i k (omega arith) (omega arith) e)

    below_five : (line : ℕ) → IsIn line xs → line < 5
    below_five line i = let p = place_is line xs i in let l = p.in_range in let b = below (place_of line xs) (omega arith) in let e = p.there in omega arith

    there : (line : ℕ) → line < 5 → IsIn line xs
    there line l = elim (in_or_not line xs) [
      | inl i ↦ i
      | inr out ↦ absurd (let few = distinct_few 5 (line ∷ xs) (out, distinct) (λ x i. either x i) in omega arith)
    ]
      where
        either : (x : ℕ) → IsIn x (line ∷ xs) → x < 5
        either x (inl e) = omega arith
        either x (inr i) = below_five x i

-- ---- an order from a list of rows that fits

below_none : 0 < 5
below_none = omega arith

below_one : 1 < 5
below_one = omega arith

below_two : 2 < 5
below_two = omega arith

below_three : 3 < 5
below_three = omega arith

below_four : 4 < 5
below_four = omega arith

module _ (m : Matrix) (table : List (List ℕ)) (is : IsTable table) (rows : List ℕ) (long : length rows ≡ 5) (below : (k : ℕ) → k < 5 → get_or rows k 0 < 5) (fits : HasTableColumns m table rows) where
  columns : List ℕ
  columns = (fits 0 below_none).0 ∷ (fits 1 below_one).0 ∷ (fits 2 below_two).0 ∷ (fits 3 below_three).0 ∷ (fits 4 below_four).0 ∷ []

  column : (j : ℕ) → j < 5 → (get_or columns j 0 < 5) × IsColumn m table rows j (get_or columns j 0)
  unfolding columns
  column zero l = ((fits 0 below_none).1, (fits 0 below_none).2)
  column (suc zero) l = ((fits 1 below_one).1, (fits 1 below_one).2)
  column (suc (suc zero)) l = ((fits 2 below_two).1, (fits 2 below_two).2)
  column (suc (suc (suc zero))) l = ((fits 3 below_three).1, (fits 3 below_three).2)
  column (suc (suc (suc (suc zero)))) l = ((fits 4 below_four).1, (fits 4 below_four).2)
  column (suc (suc (suc (suc (suc j))))) l = absurd (omega arith)

  five : length columns ≡ 5
  unfolding columns
  five = refl

  marked : (k j : ℕ) → k < 5 → j < 5 → mark (entry m (get_or rows k 0) (get_or columns j 0)) ≡ table_at table k j
  marked k j l g = (column j g).1 k l

  row_order : IsOrder 5 rows
  row_order = order_by_places rows long below (λ i k l g e. apart_at (same_rows table) (rows_apart table is) i k l g
      (every_true 5 (λ j. nat_eq (table_at table i j) (table_at table k j)) (λ j h. is_eq (table_at table i j) (table_at table k j)
      (sym (marked i j l h) ∙ ap (λ r. mark (entry m r (get_or columns j 0))) e ∙ marked k j g h))))

  column_order : IsOrder 5 columns
  column_order = order_by_places columns five (λ j l. (column j l).0) (λ i k l g e. apart_at (same_columns table) (columns_apart table is) i k l g
      (every_true 5 (λ j. nat_eq (table_at table j i) (table_at table j k)) (λ j h. is_eq (table_at table j i) (table_at table j k)
      (sym (marked j i h l) ∙ ap (λ c. mark (entry m (get_or rows j 0) c)) e ∙ marked j k h g))))

  marks_are : marks m rows columns ≡ table
  marks_are = ext_get_or [] (marks m rows columns) table (length-map rows (λ row. map (λ c. mark (entry m row c)) columns) ∙ long ∙ sym (table_long table is))
      (λ k l. row k (let e = length-map rows (λ r. map (λ c. mark (entry m r c)) columns) in omega arith))
    where
      row : (k : ℕ) → k < 5 → get_or (marks m rows columns) k [] ≡ get_or table k []
      row k l = get_or-map (λ r. map (λ c. mark (entry m r c)) columns) rows k 0 [] (omega arith)
          ∙ ext_get_or 0 (map (λ c. mark (entry m (get_or rows k 0) c)) columns) (get_or table k [])
          (length-map columns (λ c. mark (entry m (get_or rows k 0) c)) ∙ five ∙ sym (eq_of (length (get_or table k [])) 5 (every_at 5 (five_long table) (rows_long table is) k l)))
          (λ j g. place j (let e = length-map columns (λ c. mark (entry m (get_or rows k 0) c)) in let f = five in omega arith))
        where
          place : (j : ℕ) → j < 5 → get_or (map (λ c. mark (entry m (get_or rows k 0) c)) columns) j 0 ≡ get_or (get_or table k []) j 0
          place j g = get_or-map (λ c. mark (entry m (get_or rows k 0) c)) columns j 0 0 (let f = five in omega arith) ∙ marked k j l g

  pub has_table : HasTable m table
  has_table = record { rows = rows; columns = columns; row_order = row_order; column_order = column_order; marks_are = marks_are }

-- ---- the number of an order

-- the matrix has as many lines as the table
pub sizes : (m : Matrix) (rows columns : List ℕ) (line : List ℕ) (lines : List (List ℕ)) → length line ≡ 5 → length lines ≡ 4
    → marks m rows columns ≡ line ∷ lines → (length rows ≡ 5) × (length columns ≡ 5)
sizes m [] columns line lines e f h = absurd (let g : 0 ≡ suc (length lines) = ap length h in omega arith)
sizes m (r ∷ rows) columns line lines e f h = (
  (let g = ap length h in let k = length-map rows (λ row. map (λ column. mark (entry m row column)) columns) in omega arith),
  sym (length-map columns (λ column. mark (entry m r column))) ∙ ap (λ (ls : List (List ℕ)). length (get_or ls 0 [])) h ∙ e,
)

table_sizes : (m : Matrix) (table : List (List ℕ)) (rows columns : List ℕ) → IsTable table → marks m rows columns ≡ table → (length rows ≡ 5) × (length columns ≡ 5)
table_sizes m table rows columns (inl e) h = sizes m rows columns (get_or circulant_table 0 []) (drop 1 circulant_table) refl refl (h ∙ e)
table_sizes m table rows columns (inr e) h = sizes m rows columns (get_or bordered_table 0 []) (drop 1 bordered_table) refl refl (h ∙ e)

abbrev number_of : ℕ → ℕ → ℕ → ℕ → ℕ → ℕ
number_of a b c d e = a + 5 * (b + 5 * (c + 5 * (d + 5 * e)))

digits : (a b c d e : ℕ) → a < 5 → b < 5 → c < 5 → d < 5 → e < 5 → (number_of a b c d e < 3125) × (rows_numbered (number_of a b c d e) ≡ a ∷ b ∷ c ∷ d ∷ e ∷ [])
digits a b c d e l g h i j = (omega arith, rw (first, second, third, fourth, fifth) refl)
  where
    first : number_of a b c d e % 5 ≡ a
    first = omega arith

    second : number_of a b c d e / 5 % 5 ≡ b
    second = omega arith

    third : number_of a b c d e / 25 % 5 ≡ c
    third = omega arith

    fourth : number_of a b c d e / 125 % 5 ≡ d
    fourth = omega arith

    fifth : number_of a b c d e / 625 % 5 ≡ e
    fifth = omega arith

numbered : (rows : List ℕ) → length rows ≡ 5 → ((line : ℕ) → IsIn line rows → line < 5) → (n : ℕ) × (n < 3125) × (rows_numbered n ≡ rows)
numbered (a ∷ b ∷ c ∷ d ∷ e ∷ []) long below = let found = digits a b c d e (below a (inl refl)) (below b (inr (inl refl))) (below c (inr (inr (inl refl)))) (below d (inr (inr (inr (inl refl))))) (below e (inr (inr (inr (inr (inl refl)))))) in (number_of a b c d e, found.0, found.1)
numbered [] long below = absurd (omega arith)
numbered (a ∷ []) long below = absurd (omega arith)
numbered (a ∷ b ∷ []) long below = absurd (omega arith)
numbered (a ∷ b ∷ c ∷ []) long below = absurd (omega arith)
numbered (a ∷ b ∷ c ∷ d ∷ []) long below = absurd (omega arith)
numbered (a ∷ b ∷ c ∷ d ∷ e ∷ f ∷ rows) long below = absurd (omega arith)

pub number_found : (m : Matrix) (table : List (List ℕ)) → IsTable table → HasTable m table → (n : ℕ) × (n < 3125) × HasTableColumns m table (rows_numbered n)
number_found m table is t = let s = table_sizes m table t.rows t.columns is t.marks_are in
    let found = numbered t.rows s.0 (λ line i. (t.row_order.all line).0 i) in
    (found.0, found.1, subst (λ rows. HasTableColumns m table rows) (sym found.2) (fits s.0 s.1))
  where
    fits : length t.rows ≡ 5 → length t.columns ≡ 5 → HasTableColumns m table t.rows
    fits many_rows many_columns place l = (get_or t.columns place 0, (t.column_order.all (get_or t.columns place 0)).0 (in_at t.columns place (omega arith)), column)
      where
        column : IsColumn m table t.rows place (get_or t.columns place 0)
        column k g = sym (get_or-map (λ c. mark (entry m (get_or t.rows k 0) c)) t.columns place 0 0 (omega arith))
            ∙ ap (λ row. get_or row place 0) (sym (get_or-map (λ r. map (λ c. mark (entry m r c)) t.columns) t.rows k 0 [] (omega arith)))
            ∙ ap (λ ls. table_at ls k place) t.marks_are

pub digits_below : (n k : ℕ) → k < 5 → get_or (rows_numbered n) k 0 < 5
digits_below n zero l = omega arith
digits_below n (suc zero) l = omega arith
digits_below n (suc (suc zero)) l = omega arith
digits_below n (suc (suc (suc zero))) l = omega arith
digits_below n (suc (suc (suc (suc zero)))) l = omega arith
digits_below n (suc (suc (suc (suc (suc k))))) l = absurd (omega arith)
