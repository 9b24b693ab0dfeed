-- The kept columns, collected one after another.
use Rattle.std.proofs.Common.{◌≡◌, ◌<◌, ◌≤◌, ◌≤ℤ◌, ◌+◌, ◌++◌, ◌∙◌, inl, inr, ℕ, zero, suc, Bool, true, false, not, ℤ, pos, neg_ℤ, ◌+ℤ◌, ◌-ℤ◌, List, [], ◌∷◌, length, get_or, refl, ap₂, sym, SFits, to_z, of_z, w32, subst, arith}
use Rattle.std.specs.List.{AllByRecursion}
use Rattle.std.specs.Prelude.{IsTrue}
use Rattle.std.proofs.lemmas.Bool.{cases_eq, false≢true}
use Rattle.std.proofs.lemmas.Int.{ints, to_z-of_z}
use Rattle.cmr_base.specs.Matrix.{Matrix, entry, is_nonzero, IsEntry, IsMatrix}
use Rattle.cmr_base.specs.Members.{IsIn}
use Rattle.cmr_base.specs.Sums.{sum_over, IsEven, IsTwoModFour}
use Rattle.cmr_base.proofs.Integers.{sums}
use Rattle.cmr_base.proofs.Members.{all_in, all_of_members, in-append, in_at, increasing-append}
use Rattle.cmr_base.proofs.Parity.{IsFour, even-add, two_mod_four_not_four}
use Rattle.ghouila.proofs.Cycles.{four_or_two}
use Rattle.balance.specs.CandidateColumns.{AreAlikeColumns, AreKept, AreKeptBelow, IsCandidate, IsLeastAlike}
use Rattle.balance.proofs.NonzeroCounts.{two_is_even}

-- a sum of entries is at most as large as their number
pub sum_low : (xs : List ℕ) (f : ℕ → ℤ) → ((x : ℕ) → IsEntry (f x)) → neg_ℤ (pos (length xs)) ≤ℤ sum_over xs f
sum_low [] f small = omega (arith, sums)
sum_low (x ∷ xs) f small = let s = small x in let h = s.low in let k = sum_low xs f small in omega (arith, sums)

pub sum_high : (xs : List ℕ) (f : ℕ → ℤ) → ((x : ℕ) → IsEntry (f x)) → sum_over xs f ≤ℤ pos (length xs)
sum_high [] f small = omega (arith, sums)
sum_high (x ∷ xs) f small = let s = small x in let h = s.high in let k = sum_high xs f small in omega (arith, sums)

pub pair_fits : (a b : ℤ) → neg_ℤ (pos 1000) ≤ℤ a → a ≤ℤ pos 1000 → neg_ℤ (pos 1000) ≤ℤ b → b ≤ℤ pos 1000 → SFits w32 (to_z w32 (of_z w32 a) +ℤ to_z w32 (of_z w32 b))
pair_fits a b low high from to = omega (arith, ints)

pub pair_sum : (a b : ℤ) → neg_ℤ (pos 1000) ≤ℤ a → a ≤ℤ pos 1000 → neg_ℤ (pos 1000) ≤ℤ b → b ≤ℤ pos 1000 → to_z w32 (of_z w32 (to_z w32 (of_z w32 a) +ℤ to_z w32 (of_z w32 b))) ≡ a +ℤ b
pair_sum a b low high from to =
    let one : SFits w32 a = omega (arith, ints) in
    let two : SFits w32 b = omega (arith, ints) in
    to_z-of_z w32 (to_z w32 (of_z w32 a) +ℤ to_z w32 (of_z w32 b)) (pair_fits a b low high from to) ∙ ap₂ (λ (x y : ℤ). x +ℤ y) (to_z-of_z w32 a one) (to_z-of_z w32 b two)

-- the sum of a column of a matrix in few rows
pub column_low : (m : Matrix) (rows : List ℕ) (c : ℕ) (z : ℤ) → IsMatrix m → length rows ≤ 1000 → z ≡ sum_over rows (λ row. entry m row c) → neg_ℤ (pos 1000) ≤ℤ z
column_low m rows c z is few e = let k = sum_low rows (λ row. entry m row c) (λ row. is.small row c) in omega (arith, sums)

pub column_high : (m : Matrix) (rows : List ℕ) (c : ℕ) (z : ℤ) → IsMatrix m → length rows ≤ 1000 → z ≡ sum_over rows (λ row. entry m row c) → z ≤ℤ pos 1000
column_high m rows c z is few e = let k = sum_high rows (λ row. entry m row c) (λ row. is.small row c) in omega (arith, sums)

module _ (m : Matrix) (is : IsMatrix m) (rows : List ℕ) where
  abbrev column_sum : ℕ → ℤ
  column_sum c = sum_over rows (λ row. entry m row c)

  even : (c : ℕ) → IsCandidate m rows c → IsEven (column_sum c)
  even c two = two_is_even (λ row. entry m row c) (λ row. is.small row c) rows two

  -- two columns that are alike one column are alike each other
  alike_through : (x y z : ℕ) → IsCandidate m rows x → IsCandidate m rows y → AreAlikeColumns m rows x y → AreAlikeColumns m rows y z → IsEven (column_sum z) → AreAlikeColumns m rows x z
  alike_through x y z p q a b r = record {
    same_rows = all_of_members (λ row. is_nonzero (entry m row x) ≡ is_nonzero (entry m row z)) rows
        (λ i h. all_in (λ row. is_nonzero (entry m row x) ≡ is_nonzero (entry m row y)) rows a.same_rows i h ∙ all_in (λ row. is_nonzero (entry m row y) ≡ is_nonzero (entry m row z)) rows b.same_rows i h);
    no_fault = λ two. two_mod_four_not_four (column_sum x +ℤ column_sum z) two (joined (four x y (even x p) (even y q) a.no_fault) (four y z (even y q) r b.no_fault) (even y q));
  }
    where
      four : (u v : ℕ) → IsEven (column_sum u) → IsEven (column_sum v) → ¬ (IsTwoModFour (column_sum u +ℤ column_sum v)) → IsFour (column_sum u +ℤ column_sum v)
      four u v e f none = elim (four_or_two (column_sum u +ℤ column_sum v) (even-add (column_sum u) (column_sum v) e f)) [ inl k ↦ k | inr two ↦ absurd (none two) ]

      joined : IsFour (column_sum x +ℤ column_sum y) → IsFour (column_sum y +ℤ column_sum z) → IsEven (column_sum y) → IsFour (column_sum x +ℤ column_sum z)
      joined (a, e) (b, f) (k, g) = ((a +ℤ b) -ℤ k, omega (arith, sums))

  module _ (column : ℕ) (inside : column < m.width) (before : List ℕ) (b : AreKeptBelow m rows column before) where
    -- if no kept column is alike, no candidate before the column is alike
    no_earlier : (bound other : ℕ) → IsCandidate m rows column → ((other : ℕ) → IsIn other before → ¬ (AreAlikeColumns m rows other column)) → other < bound
        → other < column → IsCandidate m rows other → ¬ (AreAlikeColumns m rows other column)
    no_earlier zero other candidate none l less is_one alike = omega arith
    no_earlier (suc bound) other candidate none l less is_one alike = none other ((b.members other).1 (
      less,
      record {
        column_in = omega arith;
        candidate = is_one;
        least = λ x under is_x a. no_earlier bound x candidate none (omega arith) (omega arith) is_x (alike_through x other column is_x is_one a alike (even column candidate));
      },
    )) alike

    pub least_alike : IsCandidate m rows column → ((other : ℕ) × IsIn other before × AreAlikeColumns m rows other column → ⊥) → IsLeastAlike m rows column
    least_alike candidate none = record {
      column_in = inside;
      candidate = candidate;
      least = λ other less. no_earlier (suc other) other candidate (λ x h a. none (x, h, a)) (omega arith) less;
    }

    pub not_least : IsLeastAlike m rows column → (other : ℕ) × IsIn other before × AreAlikeColumns m rows other column → ⊥
    not_least least (other, h, a) = let k = (b.members other).0 h in least.least other k.0 k.1.candidate a

-- ---- one column after another

-- the next kept column is greater than the kept columns before it
pub above : (m : Matrix) (rows : List ℕ) (bound : ℕ) (columns : List ℕ) → AreKeptBelow m rows bound columns → (k : ℕ) → k < length columns → get_or columns k 0 < bound
above m rows bound columns b k l = ((b.members (get_or columns k 0)).0 (in_at columns k l)).0

pub below_width : (m : Matrix) (rows : List ℕ) (bound : ℕ) (columns : List ℕ) → AreKeptBelow m rows bound columns → (k : ℕ) → k < length columns → get_or columns k 0 < m.width
below_width m rows bound columns b k l = ((b.members (get_or columns k 0)).0 (in_at columns k l)).1.column_in

pub one_kept : (m : Matrix) (rows : List ℕ) (x : ℕ) (list list2 : List ℕ) → AreKeptBelow m rows x list → IsLeastAlike m rows x → list2 ≡ list ++ x ∷ [] → AreKeptBelow m rows (x + 1) list2
one_kept m rows x list list2 b p e = rw e (record {
  increasing = increasing-append list x b.increasing (λ y h. ((b.members y).0 h).0);
  members = λ y. (
    (λ h. elim ((in-append list x y).0 h) [ inl g ↦ let w = (b.members y).0 g in (let l = w.0 in omega arith, w.1) | inr q ↦ (omega arith, subst (IsLeastAlike m rows) (sym q) p) ]),
    (λ w. (in-append list x y).1 (elim (cases_eq y x) [ inl q ↦ inr q | inr d ↦ inl ((b.members y).1 (let l = w.0 in omega arith, w.1)) ])),
  );
})

pub one_omitted : (m : Matrix) (rows : List ℕ) (x : ℕ) (list list2 : List ℕ) → AreKeptBelow m rows x list → (IsLeastAlike m rows x → ⊥) → list2 ≡ list → AreKeptBelow m rows (x + 1) list2
one_omitted m rows x list list2 b p e = rw e (record {
  increasing = b.increasing;
  members = λ y. (
    (λ h. let w = (b.members y).0 h in (let l = w.0 in omega arith, w.1)),
    (λ w. (b.members y).1 (elim (cases_eq y x) [ inl q ↦ absurd (p (subst (IsLeastAlike m rows) q w.1)) | inr d ↦ (let l = w.0 in omega arith) ], w.1)),
  );
})

pub all_kept : (m : Matrix) (rows : List ℕ) (x : ℕ) (columns : List ℕ) → m.width ≤ x → AreKeptBelow m rows x columns → AreKept m rows columns
all_kept m rows x columns l b = record {
  column_set = record { increasing = b.increasing; in_range = below_width m rows x columns b };
  members = λ y. ((λ h. ((b.members y).0 h).1), (λ w. (b.members y).1 (let i = w.column_in in omega arith, w)));
}

-- ---- tests

pub not_true : (b : Bool) → IsTrue (not b) → IsTrue b → ⊥
not_true true h k = false≢true h
not_true false h k = false≢true k

pub from_not : (b : Bool) → ¬ (IsTrue b) → IsTrue (not b)
from_not true h = absurd (h refl)
from_not false h = refl

pub some_alike : (m : Matrix) (rows columns : List ℕ) (column k : ℕ) → k < length columns → AreAlikeColumns m rows (get_or columns k 0) column
    → (other : ℕ) × IsIn other columns × AreAlikeColumns m rows other column
some_alike m rows columns column k l a = (get_or columns k 0, in_at columns k l, a)

pub none_alike : (m : Matrix) (rows columns : List ℕ) (column : ℕ) → AllByRecursion (λ other. ¬ (AreAlikeColumns m rows other column)) columns
    → (other : ℕ) × IsIn other columns × AreAlikeColumns m rows other column → ⊥
none_alike m rows columns column none (other, h, a) = all_in (λ other. ¬ (AreAlikeColumns m rows other column)) columns none other h a
