-- An R10 matrix has the support of a matrix without violators: a signing of its table without violators, with the lines in the order of the
-- matrix.
use Rattle.std.proofs.Common.{◌≡◌, ◌≢◌, ◌∙◌, ◌<◌, ◌⊎◌, ℕ, zero, suc, ℤ, pos, negsuc, Bool, true, false, cond, nat_eq, List, [], ◌∷◌, map, length, get_or, drop, inl, inr, refl, sym, ap, subst, arith}
use Rattle.std.specs.List.{AllByRecursion}
use Rattle.std.proofs.lemmas.Bool.{cases_lt}
use Rattle.std.proofs.lemmas.List.{get_or_past}
use Rattle.std.proofs.lemmas.List.FromFn.{get_or-map-range_with_len, length-map-range_with_len}
use Rattle.std.proofs.lemmas.Int.{ints}
use Rattle.cmr_base.specs.Matrix.{Matrix, height, row_of, entry, IsEntry, HasTernaryEntries, IsRectangular}
use Rattle.cmr_base.specs.LineSets.{first_lines}
use Rattle.cmr_base.specs.Supports.{HaveOneSupport}
use Rattle.cmr_base.specs.Members.{IsIn, IsDistinct}
use Rattle.cmr_base.specs.Violator.{HasNoViolator}
use Rattle.cmr_base.specs.CyclePlaces.{HasNoCycleFault}
use Rattle.cmr_base.specs.R10.{mark, marks, IsOrder, IsR10, HasTable, circulant_table, bordered_table}
use Rattle.cmr_base.proofs.Members.{all_in, increasing_are_distinct}
use Rattle.cmr_base.proofs.IncreasingLists.{row_set_increases, column_set_increases, increasing_below}
use Rattle.cmr_base.proofs.RowLists.{is_eq, is_ne}
use Rattle.cmr_base.proofs.ListsWithout.{true_is_false}
use Rattle.cmr_base.proofs.Submatrices.{map_members}
use Rattle.ghouila.proofs.SignsUnique.{row_in, column_in, fault_free_has_no_violator}
use Rattle.r10_leaf.proofs.Signings.{circulant, bordered, circulant_clean, bordered_clean, always, is_clean}
use Rattle.r10_leaf.proofs.TableOrders.{sizes}
use Rattle.r10_leaf.proofs.ChosenSums.{table_clean}

zero_is_entry : IsEntry (pos 0)
zero_is_entry = record { low = omega (arith, ints); high = omega (arith, ints) }

-- the value in the second list at the position of a number in the first list
abbrev pub beside : {A : Type 0} → List ℕ → List A → A → ℕ → A
beside [] values other x = other
beside (y ∷ ys) [] other x = other
beside (y ∷ ys) (v ∷ values) other x = cond (nat_eq x y) v (beside ys values other x)

map-beside : {A : Type 0} (xs : List ℕ) (values : List A) (other : A) → IsDistinct xs → length values ≡ length xs → map (beside xs values other) xs ≡ values
map-beside [] [] other d e = refl
map-beside [] (v ∷ values) other d e = absurd (omega arith)
map-beside (x ∷ xs) [] other d e = absurd (omega arith)
map-beside (x ∷ xs) (v ∷ values) other d e =
    rw (is_eq x x refl, map_members (λ y. cond (nat_eq y x) v (beside xs values other y)) (beside xs values other) xs (λ y i. later y (is_ne y x (λ q. d.0 (subst (λ z. IsIn z xs) q i)))), map-beside xs values other d.1 (omega arith)) refl
  where
    later : (y : ℕ) → nat_eq y x ≡ false → cond (nat_eq y x) v (beside xs values other y) ≡ beside xs values other y
    later y e = rw e refl

each_beside : {A : Type 0} (P : A → Type 0) (xs : List ℕ) (values : List A) (other : A) → AllByRecursion P values → P other → (x : ℕ) → P (beside xs values other x)
each_beside P [] values other h o x = o
each_beside P (y ∷ ys) [] other h o x = o
each_beside P (y ∷ ys) (v ∷ values) other h o x = go (nat_eq x y) (each_beside P ys values other h.1 o x)
  where
    go : (b : Bool) → P (beside ys values other x) → P (cond b v (beside ys values other x))
    go true k = h.0
    go false k = k

-- the table's matrix, with its lines in these positions
module _ (table : List (List ℤ)) (rows columns : List ℕ) where
  abbrev pub value : ℕ → ℕ → ℤ
  value i j = beside columns (beside rows table [] i) (pos 0) j

  abbrev pub arranged : Matrix
  arranged = record { rows = map (λ i. map (value i) (first_lines 5)) (first_lines 5); width = 5 }

  row-arranged : (i : ℕ) → i < 5 → row_of arranged i ≡ map (value i) (first_lines 5)
  row-arranged i h = get_or-map-range_with_len (λ k. map (value k) (first_lines 5)) 0 5 i i [] h (omega arith)

  pub entry-arranged : (i j : ℕ) → i < 5 → j < 5 → entry arranged i j ≡ value i j
  entry-arranged i j h l = ap (λ row. get_or row j (pos 0)) (row-arranged i h) ∙ get_or-map-range_with_len (value i) 0 5 j j (pos 0) l (omega arith)

  pub rectangular-arranged : IsRectangular arranged
  rectangular-arranged i h = ap length (row-arranged i h) ∙ length-map-range_with_len (value i) 0 5

  module _ (row_order : IsOrder 5 rows) (column_order : IsOrder 5 columns) (many_rows : length table ≡ length rows) (many_columns : AllByRecursion (λ line. length line ≡ length columns) table) where
    -- the matrix in this order is the table
    pub arranged_is : map (λ i. map (entry arranged i) columns) rows ≡ table
    arranged_is = map_members (λ i. map (entry arranged i) columns) (beside rows table []) rows (λ i h. row i h) ∙ map-beside rows table [] row_order.distinct many_rows
      where
        row : (i : ℕ) → IsIn i rows → map (entry arranged i) columns ≡ beside rows table [] i
        row i h = map_members (entry arranged i) (value i) columns (λ j g. entry-arranged i j ((row_order.all i).0 h) ((column_order.all j).0 g))
            ∙ map-beside columns (beside rows table [] i) (pos 0) column_order.distinct (long rows table row_order.distinct many_rows many_columns i h)
          where
            long : (xs : List ℕ) (values : List (List ℤ)) → IsDistinct xs → length values ≡ length xs
                → AllByRecursion (λ line. length line ≡ length columns) values → (x : ℕ) → IsIn x xs → length (beside xs values [] x) ≡ length columns
            long [] values d e all x h = absurd h
            long (y ∷ ys) [] d e all x h = absurd (omega arith)
            long (y ∷ ys) (v ∷ values) d e all x h = pick (nat_eq x y) refl h (long ys values d.1 (omega arith) all.1 x)
              where
                pick : (b : Bool) → nat_eq x y ≡ b → (x ≡ y) ⊎ IsIn x ys → (IsIn x ys → length (beside ys values [] x) ≡ length columns) → length (cond b v (beside ys values [] x)) ≡ length columns
                pick true e h k = all.0
                pick false e (inl q) k = true_is_false (sym (is_eq x y q) ∙ e)
                pick false e (inr g) k = k g

    pub ternary_arranged : AllByRecursion (AllByRecursion IsEntry) table → HasTernaryEntries arranged
    ternary_arranged small i j = elim (cases_lt i 5) [
      | inl h ↦ elim (cases_lt j 5) [
        | inl l ↦ subst IsEntry (sym (entry-arranged i j h l)) (each_beside IsEntry columns (beside rows table [] i) (pos 0) (each_beside (AllByRecursion IsEntry) rows table [] small tt i) zero_is_entry j)
        | inr past ↦ subst IsEntry (sym (get_or_past (row_of arranged i) j (pos 0) (let e = rectangular-arranged i h in omega arith))) zero_is_entry
      ]
      | inr past ↦ subst IsEntry (sym (ap (λ row. get_or row j (pos 0)) (get_or_past (arranged.rows) i [] past))) zero_is_entry
    ]

map_injects : {A B : Type 0} (f g : A → B) (x : A) (xs : List A) → map f (x ∷ xs) ≡ map g (x ∷ xs) → (f x ≡ g x) × (map f xs ≡ map g xs)
map_injects f g x xs e = (ap (λ ys. get_or ys 0 (f x)) e, ap (drop 1) e)

same_at : {B : Type 0} (f g : ℕ → B) (xs : List ℕ) → map f xs ≡ map g xs → (x : ℕ) → IsIn x xs → f x ≡ g x
same_at f g [] e x h = absurd h
same_at f g (y ∷ ys) e x h = let both = map_injects f g y ys e in pick h (same_at f g ys both.1 x) both.0
  where
    pick : (x ≡ y) ⊎ IsIn x ys → (IsIn x ys → f x ≡ g x) → f y ≡ g y → f x ≡ g x
    pick (inl q) k first = subst (λ z. f z ≡ g z) (sym q) first
    pick (inr i) k first = k i

map-map_marks : (E : ℕ → ℕ → ℤ) (rows columns : List ℕ) → map (map mark) (map (λ i. map (E i) columns) rows) ≡ map (λ i. map (λ j. mark (E i j)) columns) rows
map-map_marks E [] columns = refl
map-map_marks E (i ∷ rows) columns = rw (line columns, map-map_marks E rows columns) refl
  where
    line : (xs : List ℕ) → map mark (map (E i) xs) ≡ map (λ j. mark (E i j)) xs
    line [] = refl
    line (j ∷ xs) = ap (λ ys. mark (E i j) ∷ ys) (line xs)

mark_zero : (z w : ℤ) → mark z ≡ mark w → z ≡ pos 0 → w ≡ pos 0
mark_zero z (pos zero) e h = refl
mark_zero z (pos (suc n)) e h = absurd (let f : 0 ≡ 1 = ap mark (sym h) ∙ e in omega arith)
mark_zero z (negsuc n) e h = absurd (let f : 0 ≡ 1 = ap mark (sym h) ∙ e in omega arith)

zero_or_not : (z : ℤ) → (z ≡ pos 0) ⊎ (z ≢ pos 0)
zero_or_not (pos zero) = inl refl
zero_or_not (pos (suc n)) = inr (λ e. let f : 1 ≡ 0 = ap mark e in omega arith)
zero_or_not (negsuc n) = inr (λ e. let f : 1 ≡ 0 = ap mark e in omega arith)

-- a matrix of five rows and five columns with the support of a table without violators
free_by_table : (m : Matrix) → IsRectangular m → HasTernaryEntries m → height m ≡ 5 → m.width ≡ 5 → HasNoCycleFault (entry m)
    → (supports : List (List ℕ)) (table : List (List ℤ)) (rows columns : List ℕ) → IsOrder 5 rows → IsOrder 5 columns → length rows ≡ 5 → length columns ≡ 5
    → marks m rows columns ≡ supports → map (map mark) table ≡ supports → length table ≡ 5 → AllByRecursion (λ line. length line ≡ 5) table → AllByRecursion (AllByRecursion IsEntry) table
    → always 5 (λ bs. always 5 (λ cs. is_clean table bs cs)) ≡ true → HasNoViolator m
free_by_table m rectangular ternary tall wide clean supports table rows columns row_order column_order five_rows five_columns marks_m marks_t long lines small free =
    fault_free_has_no_violator m n rectangular (rectangular-arranged table rows columns) ternary (ternary_arranged table rows columns row_order column_order many_rows many_columns small) support clean no_violator
  where
    n : Matrix
    n = arranged table rows columns

    many_rows : length table ≡ length rows
    many_rows = long ∙ sym five_rows

    many_columns : AllByRecursion (λ line. length line ≡ length columns) table
    many_columns = subst (λ k. AllByRecursion (λ line. length line ≡ k) table) (sym five_columns) lines

    is : map (λ i. map (entry (arranged table rows columns) i) columns) rows ≡ table
    is = arranged_is table rows columns row_order column_order many_rows many_columns

    inside : (i j : ℕ) → i < 5 → j < 5 → mark (entry m i j) ≡ mark (entry (arranged table rows columns) i j)
    inside i j h l = same_at (λ j. mark (entry m i j)) (λ j. mark (entry (arranged table rows columns) i j)) columns
        (same_at (λ i. map (λ j. mark (entry m i j)) columns) (λ i. map (λ j. mark (entry (arranged table rows columns) i j)) columns) rows
        (marks_m ∙ sym marks_t ∙ ap (map (map mark)) (sym is) ∙ map-map_marks (entry (arranged table rows columns)) rows columns) i ((row_order.all i).1 h)) j ((column_order.all j).1 l)

    to : (a b : Matrix) → IsRectangular b → height b ≡ 5 → b.width ≡ 5 → ((i j : ℕ) → i < 5 → j < 5 → mark (entry a i j) ≡ mark (entry b i j)) → (i j : ℕ) → entry a i j ≡ pos 0 → entry b i j ≡ pos 0
    to a b rect tall wide same i j z = elim (zero_or_not (entry b i j)) [
      | inl e ↦ e
      | inr d ↦ let h = row_in b i j d in let l = column_in b i j rect d in mark_zero (entry a i j) (entry b i j) (same i j (omega arith) (omega arith)) z
    ]

    support : HaveOneSupport m (arranged table rows columns)
    support = record {
      height_same = tall ∙ refl;
      width_same = wide;
      zeros_same = λ i j. (
        to m (arranged table rows columns) (rectangular-arranged table rows columns) refl refl inside i j,
        to (arranged table rows columns) m rectangular tall wide (λ i j h l. sym (inside i j h l)) i j,
      );
    }

    no_violator : HasNoViolator (arranged table rows columns)
    no_violator R C row_set column_set = table_clean (entry (arranged table rows columns)) table rows columns row_order column_order five_rows five_columns is free R C
        (increasing_are_distinct 0 5 R (row_set_increases (arranged table rows columns) R row_set)) (increasing_are_distinct 0 5 C (column_set_increases (arranged table rows columns) C column_set))
        (all_in (λ x. x < 5) R (increasing_below 0 5 R (row_set_increases (arranged table rows columns) R row_set))) (all_in (λ x. x < 5) C (increasing_below 0 5 C (column_set_increases (arranged table rows columns) C column_set)))

one : IsEntry (pos 1)
one = record { low = omega (arith, ints); high = omega (arith, ints) }

minus : IsEntry (negsuc 0)
minus = record { low = omega (arith, ints); high = omega (arith, ints) }

o : IsEntry (pos 0)
o = zero_is_entry

circulant_small : AllByRecursion (AllByRecursion IsEntry) circulant
circulant_small = (
  (one, (minus, (o, (o, (minus, tt))))),
  (
    (minus, (one, (minus, (o, (o, tt))))),
    (
      (o, (minus, (one, (minus, (o, tt))))),
      (
        (o, (o, (minus, (one, (minus, tt))))),
        (
          (minus, (o, (o, (minus, (one, tt))))),
          tt,
        ),
      ),
    ),
  ),
)

bordered_small : AllByRecursion (AllByRecursion IsEntry) bordered
bordered_small = (
  (one, (one, (one, (one, (one, tt))))),
  (
    (one, (one, (one, (o, (o, tt))))),
    (
      (one, (o, (one, (one, (o, tt))))),
      (
        (one, (o, (o, (one, (one, tt))))),
        (
          (one, (one, (o, (o, (one, tt))))),
          tt,
        ),
      ),
    ),
  ),
)

pub fault_free_r10_has_no_violator : (m : Matrix) → IsRectangular m → HasTernaryEntries m → IsR10 m → HasNoCycleFault (entry m) → HasNoViolator m
fault_free_r10_has_no_violator m rectangular ternary r10 clean = go r10.table
  where
    go : HasTable m circulant_table ⊎ HasTable m bordered_table → HasNoViolator m
    go (inl t) = let s = sizes m t.rows t.columns (get_or circulant_table 0 []) (drop 1 circulant_table) refl refl t.marks_are in
        free_by_table m rectangular ternary r10.five_rows r10.five_columns clean circulant_table circulant t.rows t.columns t.row_order t.column_order s.0 s.1 t.marks_are refl refl (refl, (refl, (refl, (refl, (refl, tt))))) circulant_small circulant_clean
    go (inr t) = let s = sizes m t.rows t.columns (get_or bordered_table 0 []) (drop 1 bordered_table) refl refl t.marks_are in
        free_by_table m rectangular ternary r10.five_rows r10.five_columns clean bordered_table bordered t.rows t.columns t.row_order t.column_order s.0 s.1 t.marks_are refl refl (refl, (refl, (refl, (refl, (refl, tt))))) bordered_small bordered_clean
