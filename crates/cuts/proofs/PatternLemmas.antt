-- Counts over increasing lists of numbers that are 0 or equal to one number, and counts of the lines outside a set with class 0
-- or one other class.
use Rattle.std.proofs.Common.{ℕ, zero, suc, ◌+◌, ◌++◌, ◌&&◌, ◌||◌, Bool, true, false, not, cond, nat_eq, List, [], ◌∷◌, ◌≡◌, ◌≢◌, ◌<◌, ◌≤◌, ◌∙◌, sym, ap, refl, arith, subst, ◌⊎◌, inl, inr, length, get_or, take, count_by, IsPermutation, length-append}
use Rattle.std.specs.List.Sorted.{IsNonDecreasing}
use Rattle.std.proofs.lemmas.List.{take_all}
use Rattle.std.proofs.lemmas.List.Sums.{sum_by_more, sum_by_push, sum_by-le-sum_by}
use Rattle.std.proofs.lemmas.List.Sorted.{sum_by-IsPermutation}
use Rattle.cmr_base.specs.BitSets.{Bits}
use Rattle.cmr_base.specs.ColumnSets.{has_column}
use Rattle.cmr_base.specs.Seeds.{count}
use Rattle.cmr_base.proofs.SeedLemmas.{count_grows}
use Rattle.cmr_base.proofs.Booleans.{and_is, eq_of, is_eq, is_ne, not_both, same_or_not, two_cases}
use Rattle.cuts.specs.declared.patterns.Runs.{Runs}
use Rattle.cuts.specs.Patterns.{AreAtMostBeside, AreAtMostListed, AreOpen, AreRunsCounted}

-- ---- lines that are not in a set

one_more : (n s : ℕ) (t : Bool) → s ≡ n → s + cond t 1 0 ≡ cond t (suc n) n
one_more n s true e = omega (arith, e)
one_more n s false e = omega (arith, e)

pub open_more : (own classes listed after : List ℕ) (row : ℕ) → AreOpen own classes row listed → has_column own row ≡ false
    → after ≡ listed ++ get_or classes row 0 ∷ [] → AreOpen own classes (row + 1) after
open_more own classes listed after row so f is = let next : suc row ≡ row + 1 = omega arith in subst (λ (n : ℕ). AreOpen own classes n after) next (λ test.
    ap (count_by test) is ∙ sum_by_push (λ class. cond (test class) 1 0) listed (get_or classes row 0)
    ∙ one_more (count (λ a. not (has_column own a) && test (get_or classes a 0)) row) (count_by test listed) (test (get_or classes row 0)) (so test)
    ∙ sym (rw f refl))

pub open_same : (own classes listed : List ℕ) (row : ℕ) → AreOpen own classes row listed → has_column own row ≡ true → AreOpen own classes (row + 1) listed
open_same own classes listed row so t = let next : suc row ≡ row + 1 = omega arith in subst (λ (n : ℕ). AreOpen own classes n listed) next (λ test. so test ∙ sym (rw t refl))

pub listed_more : (own classes listed after : List ℕ) (row : ℕ) → length listed ≤ row → AreOpen own classes row listed → has_column own row ≡ false → after ≡ listed ++ get_or classes row 0 ∷ []
    → (length after ≤ row + 1) × AreOpen own classes (row + 1) after
listed_more own classes listed after row l so f is =
    let e = ap length is in
    let k = length-append listed (get_or classes row 0 ∷ []) in
    (omega (arith, e, k, l), open_more own classes listed after row so f is)

-- all lines outside the set, whatever their classes
pub most_of_others : (own : Bits) (classes : List ℕ) (most : ℕ) → most ≡ count (λ a. not (has_column own.words a)) own.size → AreAtMostBeside own classes most
most_of_others own classes most others given =
    let l = count_grows (λ a. not (has_column own.words a) && (nat_eq (get_or classes a 0) 0 || nat_eq (get_or classes a 0) given)) (λ a. not (has_column own.words a)) own.size
    (λ a la e. (and_is (not (has_column own.words a)) (nat_eq (get_or classes a 0) 0 || nat_eq (get_or classes a 0) given) e).0) in
    omega (arith, l, others)

pub open_sorted : (own classes listed sorted : List ℕ) (size : ℕ) → AreOpen own classes size listed → IsPermutation listed sorted → AreOpen own classes size sorted
open_sorted own classes listed sorted size so permuted test = sum_by-IsPermutation (λ class. cond (test class) 1 0) listed sorted permuted ∙ so test

pub most_of_sorted : (own : Bits) (classes sorted listed : List ℕ) (most : ℕ) → sorted ≡ listed → AreOpen own.words classes own.size listed
    → AreAtMostListed sorted most → AreAtMostBeside own classes most
most_of_sorted own classes sorted listed most es so l given =
    let e = so (λ class. nat_eq class 0 || nat_eq class given) in
    let k = subst (λ (v : List ℕ). AreAtMostListed v most) es l given in
    omega (arith, e, k)

-- ---- an increasing list

none_listed : (sorted : List ℕ) (class n : ℕ) → n ≤ length sorted → ((k : ℕ) → k < n → get_or sorted k 0 ≢ class) → count_by (λ c. nat_eq c class) (take n sorted) ≡ 0
none_listed sorted class zero l h = refl
none_listed sorted class (suc n) l h =
    let next : suc n ≡ n + 1 = omega arith in
    let before = none_listed sorted class n (omega (arith, l)) (λ k lk. h k (omega (arith, lk))) in
    ap (λ (z : ℕ). count_by (λ c. nat_eq c class) (take z sorted)) next ∙ sum_by_more (λ c. cond (nat_eq c class) 1 0) sorted n 0 (omega (arith, l))
    ∙ ap (λ (z : ℕ). z + cond (nat_eq (get_or sorted n 0) class) 1 0) before ∙ ap (λ (b : Bool). 0 + cond b 1 0) (is_ne (get_or sorted n 0) class (h n (omega arith)))

module _ (sorted : List ℕ) (place class : ℕ) (runs : Runs) (up : IsNonDecreasing sorted) (l : place < length sorted) (here : get_or sorted place 0 ≡ class) (so : AreRunsCounted sorted place runs) where
  grown : (given : ℕ) → count_by (λ c. nat_eq c given) (take (place + 1) sorted) ≡ count_by (λ c. nat_eq c given) (take place sorted) + cond (nat_eq class given) 1 0
  grown given = sum_by_more (λ c. cond (nat_eq c given) 1 0) sorted place 0 l ∙ ap (λ (z : ℕ). count_by (λ c. nat_eq c given) (take place sorted) + cond (nat_eq z given) 1 0) here

  grown_other : (given : ℕ) → class ≢ given → count_by (λ c. nat_eq c given) (take (place + 1) sorted) ≡ count_by (λ c. nat_eq c given) (take place sorted)
  grown_other given n = let e = grown given ∙ ap (λ (b : Bool). count_by (λ c. nat_eq c given) (take place sorted) + cond b 1 0) (is_ne class given n) in omega (arith, e)

  grown_same : (given : ℕ) → class ≡ given → count_by (λ c. nat_eq c given) (take (place + 1) sorted) ≡ count_by (λ c. nat_eq c given) (take place sorted) + 1
  grown_same given e = grown given ∙ ap (λ (b : Bool). count_by (λ c. nat_eq c given) (take place sorted) + cond b 1 0) (is_eq class given e)

  next_above : (k : ℕ) → place + 1 ≤ k → k < length sorted → class ≤ get_or sorted k 0
  next_above k lk low = let r = up place k 0 (omega (arith, lk)) low in omega (arith, r, here)

  next_below : (k : ℕ) → k < place + 1 → get_or sorted k 0 ≤ class
  next_below k lk = let r = up k place 0 (omega (arith, lk)) l in omega (arith, r, here)

  pub counted_zero : (after : Runs) → class ≡ 0 → after.zeros ≡ runs.zeros + 1 → after.longest ≡ runs.longest → after.run ≡ runs.run → after.last ≡ class → AreRunsCounted sorted (place + 1) after
  counted_zero after z ez el er elast = record {
    zeros = let e = grown_same 0 z in let h = so.zeros in omega (arith, e, h, ez);
    longest = λ given n. let e = grown_other given (λ s. n (sym s ∙ z)) in let h = so.longest given n in omega (arith, e, h, el);
    run = λ n. absurd (n (elast ∙ z));
    above = λ k lk low. let h = next_above k lk low in omega (arith, h, elast);
    below = λ k lk. let h = next_below k lk in omega (arith, h, elast);
    short = record {
      zeros = let h = so.short.zeros in omega (arith, h, ez);
      longest = let h = so.short.longest in omega (arith, h, el);
      run = let h = so.short.run in omega (arith, h, er);
    };
  }

  -- the count of the next number, with the next number
  next_run : class ≢ 0 → count_by (λ c. nat_eq c class) (take (place + 1) sorted) ≤ cond (nat_eq class runs.last) (runs.run + 1) 1
  next_run n = let e = grown_same class refl in elim (same_or_not class runs.last) [
    | inl same ↦
        let h = so.run (λ z. n (same ∙ z)) in
        let h' : count_by (λ c. nat_eq c class) (take place sorted) ≤ runs.run = subst (λ (z : ℕ). count_by (λ c. nat_eq c z) (take place sorted) ≤ runs.run) (sym same) h in
        rw (is_eq class runs.last same) (omega (arith, e, h'))
    | inr other ↦
        let none = none_listed sorted class place (omega (arith, l)) (λ k lk s. absurd (let b = so.below k lk in let a = so.above place (omega arith) l in omega (arith, b, a, here, s, other))) in
        rw (is_ne class runs.last other) (omega (arith, e, none))
  ]

  short_run : cond (nat_eq class runs.last) (runs.run + 1) 1 ≤ place + 1
  short_run = elim (two_cases (nat_eq class runs.last)) [
    | inl t ↦ rw t (let h = so.short.run in omega (arith, h))
    | inr f ↦ rw f (omega arith)
  ]

  pub counted_class : (after : Runs) → class ≢ 0 → after.zeros ≡ runs.zeros → after.run ≡ cond (nat_eq class runs.last) (runs.run + 1) 1 → runs.longest ≤ after.longest → after.run ≤ after.longest
      → (after.longest ≡ runs.longest) ⊎ (after.longest ≡ after.run) → after.last ≡ class → AreRunsCounted sorted (place + 1) after
  counted_class after n ez er l1 l2 either elast = record {
    zeros = let e = grown_other 0 n in let h = so.zeros in omega (arith, e, h, ez);
    longest = λ given nn. elim (same_or_not class given) [
      | inl same ↦ let h = next_run n in subst (λ (z : ℕ). count_by (λ c. nat_eq c z) (take (place + 1) sorted) ≤ after.longest) same (omega (arith, h, er, l2))
      | inr other ↦ let e = grown_other given other in let h = so.longest given nn in omega (arith, e, h, l1)
    ];
    run = λ nn. let h = next_run n in subst (λ (z : ℕ). count_by (λ c. nat_eq c z) (take (place + 1) sorted) ≤ after.run) (sym elast) (omega (arith, h, er));
    above = λ k lk low. let h = next_above k lk low in omega (arith, h, elast);
    below = λ k lk. let h = next_below k lk in omega (arith, h, elast);
    short = record {
      zeros = let h = so.short.zeros in omega (arith, h, ez);
      longest = elim either [
        | inl e ↦ let h = so.short.longest in omega (arith, h, e)
        | inr e ↦ let h = short_run in omega (arith, h, e, er)
      ];
      run = let h = short_run in omega (arith, h, er);
    };
  }

pub counted_none : (sorted : List ℕ) (runs : Runs) → runs.zeros ≡ 0 → runs.longest ≡ 0 → runs.run ≡ 0 → runs.last ≡ 0 → AreRunsCounted sorted 0 runs
counted_none sorted runs ez el er elast = record {
  zeros = omega arith;
  longest = λ given n. omega arith;
  run = λ n. absurd (n elast);
  above = λ k lk low. omega (arith, elast);
  below = λ k lk. absurd (omega (arith, lk));
  short = record { zeros = omega (arith, ez); longest = omega (arith, el); run = omega (arith, er) };
}

-- the numbers that pass one test or another
either_listed : (given : ℕ) (xs : List ℕ) → count_by (λ c. nat_eq c 0 || nat_eq c given) xs ≤ count_by (λ c. nat_eq c 0) xs + count_by (λ c. nat_eq c given) xs
either_listed given xs = whole
  where
    bit : (a b : Bool) → cond (a || b) 1 0 ≤ cond a 1 0 + cond b 1 0
    bit true true = omega arith
    bit true false = omega arith
    bit false true = omega arith
    bit false false = omega arith

    upto : (n : ℕ) → n ≤ length xs → count_by (λ c. nat_eq c 0 || nat_eq c given) (take n xs) ≤ count_by (λ c. nat_eq c 0) (take n xs) + count_by (λ c. nat_eq c given) (take n xs)
    upto zero l = omega arith
    upto (suc n) l =
        let next : n + 1 ≡ suc n = omega arith in
        let before = upto n (omega (arith, l)) in
        let low : n < length xs = omega (arith, l) in
        let a = sum_by_more (λ c. cond (nat_eq c 0 || nat_eq c given) 1 0) xs n 0 low in
        let b = sum_by_more (λ c. cond (nat_eq c 0) 1 0) xs n 0 low in
        let d = sum_by_more (λ c. cond (nat_eq c given) 1 0) xs n 0 low in
        let h = bit (nat_eq (get_or xs n 0) 0) (nat_eq (get_or xs n 0) given) in
        subst (λ (z : ℕ). count_by (λ c. nat_eq c 0 || nat_eq c given) (take z xs) ≤ count_by (λ c. nat_eq c 0) (take z xs) + count_by (λ c. nat_eq c given) (take z xs)) next (omega (arith, before, a, b, d, h))

    whole : count_by (λ c. nat_eq c 0 || nat_eq c given) xs ≤ count_by (λ c. nat_eq c 0) xs + count_by (λ c. nat_eq c given) xs
    whole = subst (λ (v : List ℕ). count_by (λ c. nat_eq c 0 || nat_eq c given) v ≤ count_by (λ c. nat_eq c 0) v + count_by (λ c. nat_eq c given) v) (take_all (length xs) xs (omega arith)) (upto (length xs) (omega arith))

pub counted_all : (sorted : List ℕ) (runs : Runs) (place : ℕ) → length sorted ≤ place → AreRunsCounted sorted place runs → AreAtMostListed sorted (runs.zeros + runs.longest)
counted_all sorted runs place l so given = elim (same_or_not given 0) [
  | inl z ↦
      let h = so.zeros in
      let e = sum_by-le-sum_by (λ c. cond (nat_eq c 0 || nat_eq c given) 1 0) (λ c. cond (nat_eq c 0) 1 0) sorted (λ c. zero_only (nat_eq c 0) (nat_eq c given) (λ t. is_eq c 0 (eq_of c given t ∙ z))) in
      omega (arith, e, whole (λ c. nat_eq c 0), h)
  | inr n ↦
      let h = so.zeros in
      let k = so.longest given n in
      let e = either_listed given sorted in
      omega (arith, e, whole (λ c. nat_eq c 0), whole (λ c. nat_eq c given), h, k)
]
  where
    whole : (test : ℕ → Bool) → count_by test (take place sorted) ≡ count_by test sorted
    whole test = ap (count_by test) (take_all place sorted l)

    zero_only : (a b : Bool) → (b ≡ true → a ≡ true) → cond (a || b) 1 0 ≤ cond a 1 0
    zero_only true b h = omega arith
    zero_only false true h = absurd (not_both false (h refl) refl)
    zero_only false false h = omega arith
