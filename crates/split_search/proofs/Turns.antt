-- Marks of columns that are turned along a path.
use Rattle.std.proofs.Common.{◌≡◌, ◌≢◌, ◌<◌, ◌∙◌, ◌⊎◌, inl, inr, ℕ, ℤ, pos, ◌+ℤ◌, ◌*ℤ◌, ◌-ℤ◌, Bool, true, false, not, nat_eq, if◌then◌else◌, List, [], ◌∷◌, length, get_or, set, Option, Some, None, refl, ap, ap₂, sym, subst, arith}
use Rattle.std.proofs.lemmas.Bool.{cases_lt}
use Rattle.std.proofs.lemmas.List.{get_or_past, get_or-set_other, length-set}
use Rattle.std.specs.List.{AllByRecursion}
use Rattle.cmr_base.specs.Signing.{IsSign}
use Rattle.cmr_base.specs.Sums.{sum_over, IsEven}
use Rattle.cmr_base.proofs.Booleans.{two_cases, eq_of, ne_of}
use Rattle.cmr_base.proofs.Integers.{sums}
use Rattle.cmr_base.proofs.Lists.{all_at, sum_over-one_more}
use Rattle.ghouila.specs.Found.{marked}
use Rattle.ghouila.proofs.Marks.{joined, set_same_mark}
use Rattle.sparse_matrix.specs.declared.nonzero.Nonzero.{Nonzero}
use Rattle.sparse_matrix.specs.SparseRows.{SparseRows, run_of, value_in, sparse_entry, IsNonzeroWithin, AreSparseRows}
use Rattle.two_nonzeros.specs.Cancelling.{Cancels}
use Rattle.split_search.specs.declared.forest.Node.{Node}
use Rattle.split_search.specs.declared.forest.Edge.{Edge}
use Rattle.split_search.specs.RowForests.{row_node, HasEnds, IsBelow, IsHung, Spans}
use Rattle.sparse_matrix.specs.LineMarks.{is_marked}
use Rattle.split_search.specs.Paths.{above_of, above_at, node_root, node_number, AreSignsOf, unit_at, marked_sum, CancelsTwo, TurnsPath}
use Rattle.split_search.proofs.Attached.{some_none, some_same}

-- the marks with one mark turned
abbrev pub turned : List Bool → ℕ → List Bool
turned marks k = set marks k (not (get_or marks k false))

pub turned_even : (marks : List Bool) (k : ℕ) (f : ℕ → ℤ) → k < length marks → IsEven ((sum_over (marked marks) f +ℤ sum_over (marked (turned marks k)) f) +ℤ f k)
turned_even marks k f l =
    subst (λ (ms : List Bool). IsEven ((sum_over (marked ms) f +ℤ sum_over (marked (turned marks k)) f) +ℤ f k)) (set_same_mark marks k) (go (get_or marks k false))
  where
    more : sum_over (marked (set marks k true)) f ≡ f k +ℤ sum_over (marked (set marks k false)) f
    more = sum_over-one_more k (marked (set marks k false)) (marked (set marks k true)) f (joined true marks k l)

    both : (a b z : ℤ) → a ≡ z +ℤ b → IsEven ((a +ℤ b) +ℤ z)
    both a b z e = (a, omega (arith, sums))

    other : (a b z : ℤ) → a ≡ z +ℤ b → IsEven ((b +ℤ a) +ℤ z)
    other a b z e = (a, omega (arith, sums))

    go : (b : Bool) → IsEven ((sum_over (marked (set marks k b)) f +ℤ sum_over (marked (set marks k (not b))) f) +ℤ f k)
    go true = both (sum_over (marked (set marks k true)) f) (sum_over (marked (set marks k false)) f) (f k) more
    go false = other (sum_over (marked (set marks k true)) f) (sum_over (marked (set marks k false)) f) (f k) more

-- ---- a column with two nonzeros

one_even : (z : ℤ) → IsSign z → IsEven (z +ℤ (pos 1 +ℤ pos 0))
one_even z (inl e) = (pos 1, rw e refl)
one_even z (inr e) = (pos 0, rw e refl)

other_even : (z : ℤ) → IsSign z → IsEven (z +ℤ (pos 0 +ℤ pos 1))
other_even z (inl e) = (pos 1, rw e refl)
other_even z (inr e) = (pos 0, rw e refl)

pair_even : (x y : Nonzero) (row : ℕ) → x.line ≢ y.line → IsSign x.value → IsSign y.value → IsEven (value_in (x ∷ y ∷ []) row +ℤ (unit_at x.line row +ℤ unit_at y.line row))
pair_even x y row apart s t = step (nat_eq x.line row) (nat_eq y.line row) (λ e f. apart (eq_of x.line row e ∙ sym (eq_of y.line row f)))
  where
    step : (a b : Bool) → (a ≡ true → b ≡ true → ⊥)
        → IsEven ((if a then x.value else (if b then y.value else pos 0)) +ℤ ((if a then pos 1 else pos 0) +ℤ (if b then pos 1 else pos 0)))
    step true true h = absurd (h refl refl)
    step true false h = one_even x.value s
    step false true h = other_even y.value t
    step false false h = (pos 0, refl)

even_swapped : (a b c : ℤ) → IsEven (a +ℤ (b +ℤ c)) → IsEven (a +ℤ (c +ℤ b))
even_swapped a b c (k, e) = (k, omega (arith, sums))

pub ends_even : (t : SparseRows) (column : ℕ) (x y : Nonzero) (row : ℕ) → HasEnds t column x y → x.line ≢ y.line → IsSign x.value → IsSign y.value
    → IsEven (sparse_entry t column row +ℤ (unit_at x.line row +ℤ unit_at y.line row))
ends_even t column x y row (inl e) apart s u = subst (λ (run : List Nonzero). IsEven (value_in run row +ℤ (unit_at x.line row +ℤ unit_at y.line row))) (sym e) (pair_even x y row apart s u)
ends_even t column x y row (inr e) apart s u = subst (λ (run : List Nonzero). IsEven (value_in run row +ℤ (unit_at x.line row +ℤ unit_at y.line row))) (sym e)
    (even_swapped (value_in (y ∷ x ∷ []) row) (unit_at y.line row) (unit_at x.line row) (pair_even y x row (λ f. apart (sym f)) u s))

pub ends_cancel : (t : SparseRows) (column : ℕ) (x y : Nonzero) (sign : ℕ → ℤ) → HasEnds t column x y → (sign x.line *ℤ x.value) +ℤ (sign y.line *ℤ y.value) ≡ pos 0 → Cancels sign (run_of t column)
ends_cancel t column x y sign (inl e) h = subst (Cancels sign) (sym e) h
ends_cancel t column x y sign (inr e) h = subst (Cancels sign) (sym e) (exchanged (sign x.line *ℤ x.value) (sign y.line *ℤ y.value) h)
  where
    exchanged : (a b : ℤ) → a +ℤ b ≡ pos 0 → b +ℤ a ≡ pos 0
    exchanged a b e = omega (arith, sums)

empty : {A B : Type 0} {x : A} {xs : List A} → [] ≡ x ∷ xs → B
empty e = absurd (none e)
  where
    none : {A : Type 0} {x : A} {xs : List A} → [] ≡ x ∷ xs → ⊥
    none e = cc

pub ends_inside : (t : SparseRows) (column : ℕ) (x y : Nonzero) → HasEnds t column x y → column < length t.runs
ends_inside t column x y ends = elim (cases_lt column (length t.runs)) [
  | inl l ↦ l
  | inr l ↦ none ends (get_or_past t.runs column [] l)
]
  where
    none : HasEnds t column x y → run_of t column ≡ [] → column < length t.runs
    none (inl e) h = empty (sym h ∙ e)
    none (inr e) h = empty (sym h ∙ e)

pub run_inside : (t : SparseRows) → AreSparseRows t → (column : ℕ) → AllByRecursion (IsNonzeroWithin t.width) (run_of t column)
run_inside t shape column = elim (cases_lt column (length t.runs)) [
  | inl l ↦ all_at (AllByRecursion (IsNonzeroWithin t.width)) t.runs column [] shape.runs_in l
  | inr l ↦ subst (AllByRecursion (IsNonzeroWithin t.width)) (sym (get_or_past t.runs column [] l)) tt
]

pub ends_within : (t : SparseRows) (column : ℕ) (x y : Nonzero) → AreSparseRows t → HasEnds t column x y → IsNonzeroWithin t.width x × IsNonzeroWithin t.width y
ends_within t column x y shape (inl e) = let all = subst (AllByRecursion (IsNonzeroWithin t.width)) e (run_inside t shape column) in (all.0, all.1.0)
ends_within t column x y shape (inr e) = let all = subst (AllByRecursion (IsNonzeroWithin t.width)) e (run_inside t shape column) in (all.1.0, all.0)

-- ---- one step of a path

node_above : (o : Option Node) (e : Edge) → above_of o ≡ Some e → (n : Node) × (o ≡ Some n) × (n.above ≡ Some e)
node_above None e h = some_none h refl
node_above (Some n) e h = (n, refl, h)

chained : (b a u f p h q : ℤ) → IsEven ((b +ℤ a) +ℤ (p +ℤ h)) → IsEven ((a +ℤ u) +ℤ f) → IsEven (f +ℤ (h +ℤ q)) → IsEven ((b +ℤ u) +ℤ (p +ℤ q))
chained b a u f p h q (k, d) (l, e) (m, g) = ((((k +ℤ l) +ℤ m) -ℤ a) -ℤ h -ℤ f, omega (arith, sums))

module _ (t : SparseRows) (nodes : List (Option Node)) (before after : List Bool) (from here : ℕ) (e : Edge)
    (shape : AreSparseRows t) (spans : Spans t nodes) (count : length before ≡ length t.runs) (is : TurnsPath t nodes before after from here) (above : above_at nodes here ≡ Some e) where
  found : (n : Node) × (row_node nodes here ≡ Some n) × (n.above ≡ Some e)
  found = node_above (row_node nodes here) e above

  abbrev node : Node
  node = found.0

  below : IsBelow t nodes here node e
  below = subst (IsHung t nodes here node) found.2 (spans.forest here node found.1)

  apart : here ≢ e.row
  apart f = let same : node ≡ below.parent = some_same found.1 (ap (row_node nodes) f ∙ below.reached) in
      let same_number = ap (λ (n : Node). n.number) same in let number_below = below.number in omega (arith, same_number, number_below)

  abbrev low : Nonzero
  low = record { line = here; value = below.here }

  abbrev high : Nonzero
  high = record { line = e.row; value = below.there }

  within : IsNonzeroWithin t.width low × IsNonzeroWithin t.width high
  within = ends_within t e.column low high shape below.ends

  pub column_inside : e.column < length after
  column_inside = let end_inside = ends_inside t e.column low high below.ends in let same_size = is.size in omega (arith, end_inside, same_size, count)

  pub fewer : node_number (row_node nodes e.row) < node_number (row_node nodes here)
  fewer = let other_number = ap node_number below.reached in let own_number = ap node_number found.1 in let number_below = below.number in omega (arith, other_number, own_number, number_below)

  cancel_later : (sign : ℕ → ℤ) → AreSignsOf nodes sign → (column : ℕ) → is_marked (turned after e.column) column ≡ true → (is_marked before column ≡ true) ⊎ CancelsTwo t sign column
  cancel_later sign signs column h = elim (two_cases (nat_eq column e.column)) [
    | inl f ↦ inr (subst (CancelsTwo t sign) (sym (eq_of column e.column f)) (record {
      first = low;
      second = high;
      ends = below.ends;
      apart = apart;
      cancel = ap₂ (λ (a b : ℤ). (a *ℤ below.here) +ℤ (b *ℤ below.there)) (signs here node found.1) (signs e.row below.parent below.reached) ∙ below.cancel;
    }))
    | inr f ↦ is.cancel sign signs column (sym (get_or-set_other after e.column column (not (get_or after e.column false)) false (ne_of column e.column f)) ∙ h)
  ]

  pub turned_more : TurnsPath t nodes before (turned after e.column) from e.row
  turned_more = record {
    inside = within.1.inside;
    size = length-set after e.column (not (get_or after e.column false)) ∙ is.size;
    even = λ row. chained (marked_sum t before row) (marked_sum t after row) (marked_sum t (turned after e.column) row)
        (sparse_entry t e.column row) (unit_at from row) (unit_at here row) (unit_at e.row row)
        (is.even row) (turned_even after e.column (λ column. sparse_entry t column row) column_inside)
        (ends_even t e.column low high row below.ends apart within.0.sign within.1.sign);
    cancel = cancel_later;
    root = ap node_root below.reached ∙ below.root ∙ sym (ap node_root found.1) ∙ is.root;
  }

-- nothing is turned yet
pub path_begins : (t : SparseRows) (nodes : List (Option Node)) (marks : List Bool) (from : ℕ) → from < t.width → TurnsPath t nodes marks marks from from
path_begins t nodes marks from inside = record {
  inside = inside;
  size = refl;
  even = λ row. twice (marked_sum t marks row) (unit_at from row);
  cancel = λ sign signs column h. inl h;
  root = refl;
}
  where
    twice : (a b : ℤ) → IsEven ((a +ℤ a) +ℤ (b +ℤ b))
    twice a b = (a +ℤ b, omega (arith, sums))
