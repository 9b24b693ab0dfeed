-- Sums over positions, and how they change if one more position passes a test.
use Rattle.std.proofs.Common.{◌≡◌, ◌≢◌, ◌<◌, ◌≤◌, ◌+◌, ◌*◌, ◌&&◌, ◌∙◌, ◌↔◌, inl, inr, ℕ, suc, Bool, true, false, cond, List, [], ◌∷◌, ◌++◌, length, get_or, set, take, sum_by, refl, ap, sym, subst, arith}
use Rattle.std.specs.List.Sorted.{IsStrictlyIncreasing}
use Rattle.std.proofs.lemmas.Bool.{cases_eq}
use Rattle.std.proofs.lemmas.List.{get_or-set_other, get_or-set_same, length-set, take_more}
use Rattle.std.proofs.lemmas.List.FromFn.{length-range_with_len}
use Rattle.std.proofs.lemmas.List.Sums.{sum_by-cons}
use Rattle.cmr_base.specs.LineSets.{first_lines, without}
use Rattle.cmr_base.specs.Members.{IsIn, IsDistinct}
use Rattle.cmr_base.proofs.Members.{IsWithin, in-append}
use Rattle.cmr_base.proofs.ListsWithout.{in_without, without_in, without_increases, increasing_distinct}
use Rattle.cmr_base.proofs.RemovedLines.{in_first_lines, first_lines_in, first_lines_increase}
use Rattle.sp_reduce.specs.Tallies.{AreMarks, tally}
use Rattle.sp_reduce.proofs.WithoutLemmas.{sum_by-without}

-- ---- sums

sum_same : (f g : ℕ → ℕ) (xs : List ℕ) → ((x : ℕ) → IsIn x xs → f x ≡ g x) → sum_by f xs ≡ sum_by g xs
sum_same f g [] h = refl
sum_same f g (x ∷ xs) h =
    let e = sum_by-cons f x xs in
    let e' = sum_by-cons g x xs in
    let here = h x (inl refl) in
    let rest = sum_same f g xs (λ y i. h y (inr i)) in
    omega (arith, e, e', here, rest)

sum_none : (f : ℕ → ℕ) (xs : List ℕ) → ((x : ℕ) → IsIn x xs → f x ≡ 0) → sum_by f xs ≡ 0
sum_none f [] h = refl
sum_none f (x ∷ xs) h =
    let e = sum_by-cons f x xs in
    let here = h x (inl refl) in
    let rest = sum_none f xs (λ y i. h y (inr i)) in
    omega (arith, e, here, rest)

sum_bound : (f : ℕ → ℕ) (most : ℕ) (xs : List ℕ) → ((x : ℕ) → IsIn x xs → f x ≤ most) → sum_by f xs ≤ length xs * most
sum_bound f most [] h = omega arith
sum_bound f most (x ∷ xs) h =
    let e = sum_by-cons f x xs in
    let here = h x (inl refl) in
    let rest = sum_bound f most xs (λ y i. h y (inr i)) in
    more (f x) (sum_by f xs) (sum_by f (x ∷ xs)) (length xs) e here rest
  where
    more : (a s t n : ℕ) → t ≡ a + s → a ≤ most → s ≤ n * most → t ≤ suc n * most
    more a s t n e here rest = omega arith

-- one place has more
sum_more : (f g : ℕ → ℕ) (place more : ℕ) (xs : List ℕ) → IsDistinct xs → IsIn place xs → g place ≡ f place + more → ((x : ℕ) → x ≢ place → f x ≡ g x) → sum_by g xs ≡ sum_by f xs + more
sum_more f g place more xs distinct there here same =
    let e = sum_by-without f place xs distinct there in
    let e' = sum_by-without g place xs distinct there in
    let rest = sum_same f g (without xs place) (λ x h. same x (without_in place x xs h).1) in
    omega (arith, e, e', rest, here)

-- positions with the value 0 can be removed
sum_within : (f : ℕ → ℕ) (xs ys : List ℕ) → IsDistinct xs → IsStrictlyIncreasing ys → IsWithin xs ys → ((y : ℕ) → IsIn y ys → ¬ IsIn y xs → f y ≡ 0) → sum_by f ys ≡ sum_by f xs
sum_within f [] ys distinct increases within none = sum_none f ys (λ y i. none y i (λ h. h))
sum_within f (x ∷ xs) ys distinct increases within none =
    let e = sum_by-without f x ys (increasing_distinct ys increases) (within x (inl refl)) in
    let e' = sum_by-cons f x xs in
    let rest = sum_within f xs (without ys x) distinct.1 (without_increases x ys increases)
    (λ y i. in_without x y ys (within y (inr i)) (λ q. distinct.0 (subst (λ (z : ℕ). IsIn z xs) q i)))
    (λ y i out. let there = without_in x y ys i in none y there.0 (λ h. elim h [ inl q ↦ there.1 q | inr g ↦ out g ])) in
    omega (arith, e, e', rest)

-- ---- sums over marked places

pub tally_same : (number : ℕ → ℕ) (marks : List Bool) (size : ℕ) (p q : ℕ → Bool) → ((k : ℕ) → k < size → p k ≡ q k) → tally number marks size p ≡ tally number marks size q
tally_same number marks size p q same =
    sum_same (λ k. cond (get_or marks k false && p k) (number k) 0) (λ k. cond (get_or marks k false && q k) (number k) 0) (first_lines size)
    (λ k h. ap (λ (b : Bool). cond (get_or marks k false && b) (number k) 0) (same k (first_lines_in size k h)))

-- only the marked places matter
pub tally_same_marked : (number : ℕ → ℕ) (marks : List Bool) (size : ℕ) (p q : ℕ → Bool) → ((k : ℕ) → k < size → get_or marks k false ≡ true → p k ≡ q k)
    → tally number marks size p ≡ tally number marks size q
tally_same_marked number marks size p q same =
    sum_same (λ k. cond (get_or marks k false && p k) (number k) 0) (λ k. cond (get_or marks k false && q k) (number k) 0) (first_lines size)
    (λ k h. ap (λ (b : Bool). cond b (number k) 0) (go (get_or marks k false) (p k) (q k) (λ e. same k (first_lines_in size k h) e)))
  where
    go : (b x y : Bool) → (b ≡ true → x ≡ y) → (b && x) ≡ (b && y)
    go true x y e = e refl
    go false x y e = refl

pub tally_none : (number : ℕ → ℕ) (marks : List Bool) (size : ℕ) (p : ℕ → Bool) → ((k : ℕ) → p k ≡ false) → tally number marks size p ≡ 0
tally_none number marks size p none =
    sum_none (λ k. cond (get_or marks k false && p k) (number k) 0) (first_lines size)
    (λ k h. ap (λ (b : Bool). cond (get_or marks k false && b) (number k) 0) (none k) ∙ nothing (get_or marks k false) (number k))
  where
    nothing : (b : Bool) (n : ℕ) → cond (b && false) n 0 ≡ 0
    nothing true n = refl
    nothing false n = refl

pub tally_bound : (number : ℕ → ℕ) (marks : List Bool) (size most : ℕ) (p : ℕ → Bool) → ((k : ℕ) → k < size → number k ≤ most) → tally number marks size p ≤ size * most
tally_bound number marks size most p small =
    subst (λ (n : ℕ). tally number marks size p ≤ n * most) (length-range_with_len 0 size)
    (sum_bound (λ k. cond (get_or marks k false && p k) (number k) 0) most (first_lines size)
    (λ k h. part (get_or marks k false && p k) (number k) (small k (first_lines_in size k h))))
  where
    part : (b : Bool) (n : ℕ) → n ≤ most → cond b n 0 ≤ most
    part true n h = h
    part false n h = omega arith

-- the marked places are these
pub tally_marked : (number : ℕ → ℕ) (marks : List Bool) (size : ℕ) (lines : List ℕ) (p : ℕ → Bool) → AreMarks size lines marks → IsStrictlyIncreasing lines → ((k : ℕ) → IsIn k lines → k < size)
    → tally number marks size p ≡ sum_by (λ k. cond (p k) (number k) 0) lines
tally_marked number marks size lines p are increases inside =
    sum_within (λ k. cond (get_or marks k false && p k) (number k) 0) lines (first_lines size) (increasing_distinct lines increases) (first_lines_increase size)
    (λ k i. in_first_lines size k (inside k i))
    (λ k i out. unmarked (get_or marks k false) (p k) (number k) (λ e. out ((are.exact k).0 e)))
    ∙ sum_same (λ k. cond (get_or marks k false && p k) (number k) 0) (λ k. cond (p k) (number k) 0) lines
    (λ k i. ap (λ (b : Bool). cond (b && p k) (number k) 0) ((are.exact k).1 i))
  where
    unmarked : (b t : Bool) (n : ℕ) → (b ≡ true → ⊥) → cond (b && t) n 0 ≡ 0
    unmarked true t n h = absurd (h refl)
    unmarked false t n h = refl

-- ---- one place more passes

module _ (number : ℕ → ℕ) (marks : List Bool) (size own place : ℕ) (before after : ℕ → ℕ → Bool) (inside : place < size)
    (apart : (l k : ℕ) → (l ≡ own → k ≡ place → ⊥) → before l k ≡ after l k) (was_not : before own place ≡ false) (counts : Bool) (is : after own place ≡ counts) where
  abbrev more : ℕ
  more = cond counts (cond (get_or marks place false) (number place) 0) 0

  own_more : tally number marks size (after own) ≡ tally number marks size (before own) + more
  own_more =
      sum_more (λ k. cond (get_or marks k false && before own k) (number k) 0) (λ k. cond (get_or marks k false && after own k) (number k) 0) place more
      (first_lines size) (increasing_distinct (first_lines size) (first_lines_increase size)) (in_first_lines size place inside) (here (get_or marks place false) counts is)
      (λ k d. ap (λ (b : Bool). cond (get_or marks k false && b) (number k) 0) (apart own k (λ e q. d q)))
    where
      here : (b v : Bool) → after own place ≡ v → cond (b && after own place) (number place) 0 ≡ cond (b && before own place) (number place) 0 + cond v (cond b (number place) 0) 0
      here true true e = rw (was_not, e) (omega arith)
      here true false e = rw (was_not, e) refl
      here false true e = refl
      here false false e = refl

  pub one_more : (lines : ℕ) (IsOne : ℕ → Type 0) (xs ys : List ℕ) → own < length xs → own < lines → IsOne own → ys ≡ set xs own (get_or xs own 0 + more)
      → ((l : ℕ) → l < lines → IsOne l → get_or xs l 0 ≡ tally number marks size (before l)) → (l : ℕ) → l < lines → IsOne l → get_or ys l 0 ≡ tally number marks size (after l)
  one_more lines IsOne xs ys long among one changed each l h is_one =
      let value = get_or xs own 0 + more in
      elim (cases_eq l own) [
        | inl q ↦
            ap (λ (zs : List ℕ). get_or zs l 0) changed ∙ ap (λ (k : ℕ). get_or (set xs own value) k 0) q ∙ get_or-set_same xs own value 0 long
            ∙ ap (λ (n : ℕ). n + more) (each own among one) ∙ sym own_more ∙ ap (λ (k : ℕ). tally number marks size (after k)) (sym q)
        | inr d ↦
            ap (λ (zs : List ℕ). get_or zs l 0) changed ∙ get_or-set_other xs own l value 0 d ∙ each l h is_one
            ∙ tally_same number marks size (before l) (after l) (λ k g. apart l k (λ q e. d q))
      ]

-- ---- the marks

pub one_marked : (size : ℕ) (lines : List ℕ) (marks : List Bool) (i : ℕ) → i < length lines → get_or lines i 0 < size → AreMarks size (take i lines) marks
    → AreMarks size (take (i + 1) lines) (set marks (get_or lines i 0) true)
one_marked size lines marks i h small are = record {
  long = length-set marks line true ∙ are.long;
  exact = λ k. subst (λ (xs : List ℕ). (get_or (set marks line true) k false ≡ true) ↔ IsIn k xs) (sym (take_more lines i 0 h)) (exact k);
}
  where
    line : ℕ
    line = get_or lines i 0

    exact : (k : ℕ) → (get_or (set marks line true) k false ≡ true) ↔ IsIn k (take i lines ++ line ∷ [])
    exact k = elim (cases_eq k line) [
      | inl q ↦ (
        (λ e. (in-append (take i lines) line k).1 (inr q)),
        (λ g. subst (λ (n : ℕ). get_or (set marks line true) n false ≡ true) (sym q) (get_or-set_same marks line true false (let long = are.long in omega (arith, long, small)))),
      )
      | inr d ↦ let same = get_or-set_other marks line k true false d in (
        (λ e. (in-append (take i lines) line k).1 (inl ((are.exact k).0 (sym same ∙ e)))),
        (λ g. same ∙ (are.exact k).1 (elim ((in-append (take i lines) line k).0 g) [ inl there ↦ there | inr q ↦ absurd (d q) ])),
      )
    ]
