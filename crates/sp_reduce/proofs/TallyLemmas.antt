-- The nonzeros of all lines of a kind, while the rows are visited.
use Rattle.std.proofs.Common.{◌≡◌, ◌≢◌, ◌<◌, ◌≤◌, ◌+◌, ◌*◌, ◌^◌, ◌&&◌, ◌∙◌, inl, inr, ℕ, zero, suc, ℤ, pos, negsuc, Bool, true, false, cond, ltb, eqb, List, length, get_or, set, sum_by, replicate, eq-eqb, ne_eqb, true≢false, refl, ap, sym, subst, arith}
use Rattle.std.proofs.lemmas.Bool.{cases_lt, cases_eq, lt-ltb, le-ltb}
use Rattle.std.proofs.lemmas.List.{get_or-replicate, length-replicate, length-set}
use Rattle.std.proofs.Math.Nat.{le_trans, mul-le-mul_right}
use Rattle.cmr_base.specs.Matrix.{Matrix, height, entry, is_nonzero, IsMatrix}
use Rattle.cmr_base.specs.Trees.{support}
use Rattle.cmr_base.specs.Reductions.{nonzeros_at}
use Rattle.cmr_base.specs.LineSets.{AllBelow}
use Rattle.cmr_base.specs.Planes.{is_minus}
use Rattle.cmr_base.specs.Members.{IsIn}
use Rattle.cmr_base.proofs.ListsWithout.{in-get_or, place_of, place_is}
use Rattle.sp_reduce.specs.declared.kind.LineKind.{LineKind}
use Rattle.sp_reduce.specs.declared.kind.LineKind.TheVariants.{Rows, Columns}
use Rattle.sp_reduce.specs.declared.tallies.Tallies.{Tallies}
use Rattle.sp_reduce.specs.LineKinds.{count_of_kind, cross_size, other_kind, own_line, table}
use Rattle.sp_reduce.specs.StayingSides.{weight, weight_at, minus_weight_at, IsAcross}
use Rattle.sp_reduce.specs.Tallies.{rows_for, AreMarks, AreTallies, AreTalliesAt, AreTalliesOf, AreVisited, AreWeights, IsCounted, is_passed, is_passed_minus, by_kind}
use Rattle.sp_reduce.proofs.PlaceSums.{tally_same, tally_same_marked, tally_none, tally_bound, tally_marked, one_more}
use Rattle.sp_reduce.proofs.Weights.{weight_small}

-- ---- places that were passed

-- from one nonzero of a row to after the next nonzero
module _ (m : Matrix) (row from next : ℕ) (ordered : from ≤ next) (found : support m row next ≡ true) (none : (c : ℕ) → from ≤ c → c < next → support m row c ≡ false) where
  in_row : (j : ℕ) → j ≢ next → (ltb j from && support m row j) ≡ (ltb j (next + 1) && support m row j)
  in_row j d = elim (cases_lt j from) [
    | inl h ↦ rw (lt-ltb j from h, lt-ltb j (next + 1) (omega (arith, h, ordered))) refl
    | inr past ↦ elim (cases_lt j next) [
      | inl h ↦ no_support (ltb j from) (ltb j (next + 1)) (none j past h)
      | inr g ↦ rw (le-ltb j from past, le-ltb j (next + 1) (omega (arith, g, d))) refl
    ]
  ]
    where
      no_support : (a b : Bool) {s : Bool} → s ≡ false → (a && s) ≡ (b && s)
      no_support true true e = refl
      no_support true false e = e
      no_support false true e = sym e
      no_support false false e = refl

  pub passed_apart : (i j : ℕ) → (i ≡ row → j ≡ next → ⊥) → is_passed m row from i j ≡ is_passed m row (next + 1) i j
  passed_apart i j d = elim (cases_lt i row) [
    | inl h ↦ rw (lt-ltb i row h) refl
    | inr past ↦ elim (cases_eq i row) [
      | inl q ↦
          rw (le-ltb i row past, eq-eqb i row q)
          (subst (λ (r : ℕ). (ltb j from && support m r j) ≡ (ltb j (next + 1) && support m r j)) (sym q) (in_row j (λ e. d q e)))
      | inr g ↦ rw (le-ltb i row past, ne_eqb i row g) refl
    ]
  ]

  pub not_passed : is_passed m row from row next ≡ false
  not_passed = rw (le-ltb row row (omega arith), eq-eqb row row refl, le-ltb next from ordered) refl

  pub now_passed : is_passed m row (next + 1) row next ≡ true
  now_passed = rw (le-ltb row row (omega arith), eq-eqb row row refl, lt-ltb next (next + 1) (omega arith)) found

-- after the last nonzero of a row
pub passed_row : (m : Matrix) (row from : ℕ) → ((c : ℕ) → from ≤ c → support m row c ≡ false) → (i j : ℕ) → is_passed m row from i j ≡ is_passed m (row + 1) 0 i j
passed_row m row from none i j = elim (cases_lt i row) [
  | inl h ↦ rw (lt-ltb i row h, lt-ltb i (row + 1) (omega (arith, h))) refl
  | inr past ↦ elim (cases_eq i row) [
    | inl q ↦ rw (le-ltb i row past, eq-eqb i row q, lt-ltb i (row + 1) (omega (arith, q))) (whole q)
    | inr d ↦ rw (le-ltb i row past, ne_eqb i row d, le-ltb i (row + 1) (omega (arith, past, d)), le-ltb j 0 (omega arith)) (nothing (eqb i (row + 1)))
  ]
]
  where
    whole : i ≡ row → (ltb j from && support m i j) ≡ support m i j
    whole q = elim (cases_lt j from) [
      | inl h ↦ rw (lt-ltb j from h) refl
      | inr past ↦ rw (le-ltb j from past) (sym (ap (λ (r : ℕ). support m r j) q ∙ none j past))
    ]

    nothing : (b : Bool) → false ≡ ((b && false) && support m i j)
    nothing true = refl
    nothing false = refl

pub none_passed : (m : Matrix) (i j : ℕ) → is_passed m 0 0 i j ≡ false
none_passed m i j = rw (le-ltb i 0 (omega arith), le-ltb j 0 (omega arith)) (nothing (eqb i 0))
  where
    nothing : (b : Bool) → ((b && false) && support m i j) ≡ false
    nothing true = refl
    nothing false = refl

all_passed : (m : Matrix) (i j : ℕ) → i < height m → is_passed m (height m) 0 i j ≡ support m i j
all_passed m i j h = rw (lt-ltb i (height m) h) refl

-- ---- the same by kinds

by_kind_same : (kind : LineKind) (p q : ℕ → ℕ → Bool) → ((i j : ℕ) → p i j ≡ q i j) → (l k : ℕ) → by_kind p kind l k ≡ by_kind q kind l k
by_kind_same Rows p q same l k = same l k
by_kind_same Columns p q same l k = same k l

by_kind_none : (kind : LineKind) (p : ℕ → ℕ → Bool) → ((i j : ℕ) → p i j ≡ false) → (l k : ℕ) → by_kind p kind l k ≡ false
by_kind_none Rows p none l k = none l k
by_kind_none Columns p none l k = none k l

by_kind_apart : (kind : LineKind) (p q : ℕ → ℕ → Bool) (row next : ℕ) → ((i j : ℕ) → (i ≡ row → j ≡ next → ⊥) → p i j ≡ q i j)
    → (l k : ℕ) → (l ≡ own_line kind row next → k ≡ own_line (other_kind kind) row next → ⊥) → by_kind p kind l k ≡ by_kind q kind l k
by_kind_apart Rows p q row next apart l k d = apart l k d
by_kind_apart Columns p q row next apart l k d = apart k l (λ e f. d f e)

by_kind_at : (kind : LineKind) (p : ℕ → ℕ → Bool) (row next : ℕ) → by_kind p kind (own_line kind row next) (own_line (other_kind kind) row next) ≡ p row next
by_kind_at Rows p row next = refl
by_kind_at Columns p row next = refl

pub own_in : (m : Matrix) (kind : LineKind) (row column : ℕ) → row < height m → column < m.width → own_line kind row column < count_of_kind m kind
own_in m Rows row column h g = h
own_in m Columns row column h g = g

pub other_in : (m : Matrix) (kind : LineKind) (row column : ℕ) → row < height m → column < m.width → own_line (other_kind kind) row column < cross_size m kind
other_in m Rows row column h g = g
other_in m Columns row column h g = h

pub cross_small : (m : Matrix) (kind : LineKind) → IsMatrix m → cross_size m kind ≤ 1000
cross_small m Rows is = is.width_in
cross_small m Columns is = is.height_in

pub weights_small : (marks : List Bool) (weights : List ℕ) → AreWeights marks weights → length marks ≤ 1000 → (k : ℕ) → k < length marks → get_or weights k 0 ≤ 1000 ^ 5
weights_small marks weights are few k h = subst (λ (n : ℕ). n ≤ 1000 ^ 5) (sym (are.exact k h)) (of_mark (get_or marks k false))
  where
    of_mark : (mark : Bool) → cond mark (weight k) 0 ≤ 1000 ^ 5
    of_mark true = weight_small (k + 1) (omega (arith, h, few))
    of_mark false = omega arith

by_kind_all : (m : Matrix) (kind : LineKind) (l k : ℕ) → l < count_of_kind m kind → k < cross_size m kind → by_kind (is_passed m (height m) 0) kind l k ≡ by_kind (support m) kind l k
by_kind_all m Rows l k h g = all_passed m l k h
by_kind_all m Columns l k h g = all_passed m k l g

-- ---- the counts and the sums

-- at the same places there are the same entries -1
minus_same : (m : Matrix) (i j : ℕ) {b c : Bool} → b ≡ c → (b && is_minus (entry m i j)) ≡ (c && is_minus (entry m i j))
minus_same m i j e = ap (λ (passed : Bool). passed && is_minus (entry m i j)) e

-- all entries -1 were passed: they are nonzeros
all_minus_passed : (m : Matrix) (i j : ℕ) → i < height m → is_passed_minus m (height m) 0 i j ≡ is_minus (entry m i j)
all_minus_passed m i j h = minus_same m i j (all_passed m i j h) ∙ nonzero_too (entry m i j)
  where
    nonzero_too : (z : ℤ) → (is_nonzero z && is_minus z) ≡ is_minus z
    nonzero_too (pos zero) = refl
    nonzero_too (pos (suc n)) = refl
    nonzero_too (negsuc n) = refl

by_kind_all_minus : (m : Matrix) (kind : LineKind) (l k : ℕ) → l < count_of_kind m kind → k < cross_size m kind
    → by_kind (is_passed_minus m (height m) 0) kind l k ≡ by_kind (λ i j. is_minus (entry m i j)) kind l k
by_kind_all_minus m Rows l k h g = all_minus_passed m l k h
by_kind_all_minus m Columns l k h g = all_minus_passed m k l g

pub tallies_same : (m : Matrix) (kind : LineKind) (visited marks : List Bool) (row column row' column' : ℕ) (t : Tallies) → ((i j : ℕ) → is_passed m row column i j ≡ is_passed m row' column' i j)
    → AreTallies m kind visited marks row column t → AreTallies m kind visited marks row' column' t
tallies_same m kind visited marks row column row' column' t same are =
    let p = is_passed m row column in
    let q = is_passed m row' column' in
    record {
      many_counts = are.many_counts;
      many_sums = are.many_sums;
      many_minus_sums = are.many_minus_sums;
      counts = λ l h one. are.counts l h one ∙ tally_same (λ _. 1) marks (cross_size m kind) (by_kind p kind l) (by_kind q kind l) (λ k g. by_kind_same kind p q same l k);
      sums = λ l h one. are.sums l h one ∙ tally_same weight marks (cross_size m kind) (by_kind p kind l) (by_kind q kind l) (λ k g. by_kind_same kind p q same l k);
      minus_sums = λ l h one.
          are.minus_sums l h one
          ∙ tally_same weight marks (cross_size m kind) (by_kind (is_passed_minus m row column) kind l) (by_kind (is_passed_minus m row' column') kind l)
          (λ k g. by_kind_same kind (is_passed_minus m row column) (is_passed_minus m row' column') (λ i j. minus_same m i j (same i j)) l k);
    }

pub tallies_start : (m : Matrix) (kind : LineKind) (visited marks : List Bool) (t : Tallies) → t.counts.items ≡ replicate (count_of_kind m kind) 0 → t.sums.items ≡ replicate (count_of_kind m kind) 0
    → t.minus_sums.items ≡ replicate (count_of_kind m kind) 0 → AreTallies m kind visited marks 0 0 t
tallies_start m kind visited marks t counts sums minus_sums =
    let p = is_passed m 0 0 in
    let none = λ (l k : ℕ). by_kind_none kind p (none_passed m) l k in
    record {
      many_counts = ap (λ (xs : List ℕ). length xs) counts ∙ length-replicate (count_of_kind m kind) 0;
      many_sums = ap (λ (xs : List ℕ). length xs) sums ∙ length-replicate (count_of_kind m kind) 0;
      many_minus_sums = ap (λ (xs : List ℕ). length xs) minus_sums ∙ length-replicate (count_of_kind m kind) 0;
      counts = λ l h one. zero_at t.counts.items counts l h ∙ sym (tally_none (λ _. 1) marks (cross_size m kind) (by_kind p kind l) (none l));
      sums = λ l h one. zero_at t.sums.items sums l h ∙ sym (tally_none weight marks (cross_size m kind) (by_kind p kind l) (none l));
      minus_sums = λ l h one.
          zero_at t.minus_sums.items minus_sums l h
          ∙ sym (tally_none weight marks (cross_size m kind) (by_kind (is_passed_minus m 0 0) kind l)
          (by_kind_none kind (is_passed_minus m 0 0) (λ i j. minus_same m i j (none_passed m i j)) l));
    }
  where
    zero_at : (xs : List ℕ) → xs ≡ replicate (count_of_kind m kind) 0 → (l : ℕ) → l < count_of_kind m kind → get_or xs l 0 ≡ 0
    zero_at xs e l h = ap (λ (ys : List ℕ). get_or ys l 0) e ∙ get_or-replicate (count_of_kind m kind) l 0 0 h

module _ (m : Matrix) (kind : LineKind) (visited marks : List Bool) (row column : ℕ) (t : Tallies) (shape : IsMatrix m) (are : AreTallies m kind visited marks row column t) where
  at_most : (n most : ℕ) {x y : ℕ} → n ≤ 1000 → x ≡ y → y ≤ n * most → x ≤ 1000 * most
  at_most n most {x} {y} h e g = subst (λ (z : ℕ). z ≤ 1000 * most) (sym e) (le_trans g (mul-le-mul_right most h))

  pub counts_small : (l : ℕ) → l < count_of_kind m kind → IsCounted kind visited l → get_or t.counts.items l 0 ≤ 1000
  counts_small l h one =
      at_most (cross_size m kind) 1 (cross_small m kind shape) (are.counts l h one) (tally_bound (λ _. 1) marks (cross_size m kind) 1 (by_kind (is_passed m row column) kind l) (λ k g. omega arith))

  pub sums_small : (l : ℕ) → l < count_of_kind m kind → IsCounted kind visited l → get_or t.sums.items l 0 ≤ 1000 * 1000 ^ 5
  sums_small l h one =
      at_most (cross_size m kind) (1000 ^ 5) (cross_small m kind shape) (are.sums l h one)
      (tally_bound weight marks (cross_size m kind) (1000 ^ 5) (by_kind (is_passed m row column) kind l) (λ k g. let few = cross_small m kind shape in weight_small (k + 1) (omega (arith, few, g))))

  pub minus_sums_small : (l : ℕ) → l < count_of_kind m kind → IsCounted kind visited l → get_or t.minus_sums.items l 0 ≤ 1000 * 1000 ^ 5
  minus_sums_small l h one =
      at_most (cross_size m kind) (1000 ^ 5) (cross_small m kind shape) (are.minus_sums l h one)
      (tally_bound weight marks (cross_size m kind) (1000 ^ 5) (by_kind (is_passed_minus m row column) kind l) (λ k g. let few = cross_small m kind shape in weight_small (k + 1) (omega (arith, few, g))))

pub own_counted : (kind : LineKind) (visited : List Bool) (row next : ℕ) → get_or visited row false ≡ true → IsCounted kind visited (own_line kind row next)
own_counted Rows visited row next e = e
own_counted Columns visited row next e = tt

-- a row that is not visited
pub tallies_skip : (m : Matrix) (kind : LineKind) (visited marks : List Bool) (row : ℕ) (t : Tallies) → AreVisited kind visited marks → get_or visited row false ≡ false
    → AreTallies m kind visited marks row 0 t → AreTallies m kind visited marks (row + 1) 0 t
tallies_skip m kind visited marks row t within out are = record {
  many_counts = are.many_counts;
  many_sums = are.many_sums;
  many_minus_sums = are.many_minus_sums;
  counts = λ l h one. are.counts l h one ∙ tally_same_marked (λ _. 1) marks (cross_size m kind) (by_kind p kind l) (by_kind q kind l) (λ k g e. same kind p q apart within l one k e);
  sums = λ l h one. are.sums l h one ∙ tally_same_marked weight marks (cross_size m kind) (by_kind p kind l) (by_kind q kind l) (λ k g e. same kind p q apart within l one k e);
  minus_sums = λ l h one.
      are.minus_sums l h one
      ∙ tally_same_marked weight marks (cross_size m kind) (by_kind p' kind l) (by_kind q' kind l) (λ k g e. same kind p' q' (λ i j d. minus_same m i j (apart i j d)) within l one k e);
}
  where
    p : ℕ → ℕ → Bool
    p = is_passed m row 0

    q : ℕ → ℕ → Bool
    q = is_passed m (row + 1) 0

    p' : ℕ → ℕ → Bool
    p' = is_passed_minus m row 0

    q' : ℕ → ℕ → Bool
    q' = is_passed_minus m (row + 1) 0

    apart : (i j : ℕ) → i ≢ row → p i j ≡ q i j
    apart i j d = elim (cases_lt i row) [
      | inl h ↦ rw (lt-ltb i row h, lt-ltb i (row + 1) (omega (arith, h))) refl
      | inr past ↦
          rw (le-ltb i row past, ne_eqb i row d, le-ltb i (row + 1) (omega (arith, past, d)), le-ltb j 0 (omega arith))
          (nothing (eqb i (row + 1)))
    ]
      where
        nothing : (b : Bool) → false ≡ ((b && false) && support m i j)
        nothing true = refl
        nothing false = refl

    same : (x : LineKind) (before after : ℕ → ℕ → Bool) → ((i j : ℕ) → i ≢ row → before i j ≡ after i j) → AreVisited x visited marks → (l : ℕ)
        → IsCounted x visited l → (k : ℕ) → get_or marks k false ≡ true
        → by_kind before x l k ≡ by_kind after x l k
    same Rows before after equal visits l one k e = equal l k (λ r. true≢false (sym one ∙ ap (λ (i : ℕ). get_or visited i false) r ∙ out))
    same Columns before after equal visits l one k e = equal k l (λ r. true≢false (sym (visits k e) ∙ ap (λ (i : ℕ). get_or visited i false) r ∙ out))

pub tallies_step : (m : Matrix) (kind : LineKind) (visited marks : List Bool) (row from next : ℕ) (t t' : Tallies) → AreTallies m kind visited marks row from t
    → get_or visited row false ≡ true → row < height m → next < m.width
    → from ≤ next → support m row next ≡ true → ((c : ℕ) → from ≤ c → c < next → support m row c ≡ false)
    → t'.counts.items ≡ set t.counts.items (own_line kind row next) (get_or t.counts.items (own_line kind row next) 0 + cond (get_or marks (own_line (other_kind kind) row next) false) 1 0)
    → t'.sums.items ≡ set t.sums.items (own_line kind row next)
    (get_or t.sums.items (own_line kind row next) 0 + cond (get_or marks (own_line (other_kind kind) row next) false) (weight (own_line (other_kind kind) row next)) 0)
    → t'.minus_sums.items ≡ set t.minus_sums.items (own_line kind row next)
    (get_or t.minus_sums.items (own_line kind row next) 0
    + cond (is_minus (entry m row next)) (cond (get_or marks (own_line (other_kind kind) row next) false) (weight (own_line (other_kind kind) row next)) 0) 0)
    → AreTallies m kind visited marks row (next + 1) t'
tallies_step m kind visited marks row from next t t' are visit h g ordered found none counts sums minus_sums =
    let p = is_passed m row from in
    let q = is_passed m row (next + 1) in
    let own = own_line kind row next in
    let other = own_line (other_kind kind) row next in
    let apart = by_kind_apart kind p q row next (passed_apart m row from next ordered found none) in
    let was_not = by_kind_at kind p row next ∙ not_passed m row from next ordered found none in
    let is = by_kind_at kind q row next ∙ now_passed m row from next ordered found none in
    let minus = is_minus (entry m row next) in
    let p' = is_passed_minus m row from in
    let q' = is_passed_minus m row (next + 1) in
    let apart' = by_kind_apart kind p' q' row next (λ i j d. minus_same m i j (passed_apart m row from next ordered found none i j d)) in
    let was_not' = by_kind_at kind p' row next ∙ minus_same m row next (not_passed m row from next ordered found none) in
    let is' = by_kind_at kind q' row next ∙ minus_same m row next (now_passed m row from next ordered found none) in
    let among = own_in m kind row next h g in
    let one = own_counted kind visited row next visit in
    let IsOne = IsCounted kind visited in
    let crossing = other_in m kind row next h g in
    record {
      many_counts = ap (λ (xs : List ℕ). length xs) counts ∙ long t.counts.items own _ ∙ are.many_counts;
      many_sums = ap (λ (xs : List ℕ). length xs) sums ∙ long t.sums.items own _ ∙ are.many_sums;
      many_minus_sums = ap (λ (xs : List ℕ). length xs) minus_sums ∙ long t.minus_sums.items own _ ∙ are.many_minus_sums;
      counts = one_more (λ _. 1) marks (cross_size m kind) own other (by_kind p kind) (by_kind q kind) crossing apart was_not true is (count_of_kind m kind) IsOne t.counts.items t'.counts.items
          (omega (arith, among, are.many_counts)) among one counts are.counts;
      sums = one_more weight marks (cross_size m kind) own other (by_kind p kind) (by_kind q kind) crossing apart was_not true is (count_of_kind m kind) IsOne t.sums.items t'.sums.items
          (omega (arith, among, are.many_sums)) among one sums are.sums;
      minus_sums = one_more weight marks (cross_size m kind) own other (by_kind p' kind) (by_kind q' kind) crossing apart' was_not' minus is' (count_of_kind m kind) IsOne t.minus_sums.items t'.minus_sums.items
          (omega (arith, among, are.many_minus_sums)) among one minus_sums are.minus_sums;
    }
  where
    long : (xs : List ℕ) (i x : ℕ) → length (set xs i x) ≡ length xs
    long xs i x = length-set xs i x

-- all rows were visited, and these lines are marked
module _ (m : Matrix) (kind : LineKind) (visited marks : List Bool) (across : List ℕ) (t : Tallies) (are : AreTallies m kind visited marks (height m) 0 t) (marked : AreMarks (cross_size m kind) across marks) (is : IsAcross m kind across) where
  inside : (k : ℕ) → IsIn k across → k < cross_size m kind
  inside k h = let p = place_is k across h in subst (λ (n : ℕ). n < cross_size m kind) p.there (is.in_range (place_of k across) p.in_range)

  abbrev sum_of : (ℕ → ℕ) → (ℕ → Bool) → ℕ
  sum_of number test = sum_by (λ k. cond (test k) (number k) 0) across

  by_table : (l : ℕ) → (number : ℕ → ℕ) → sum_of number (by_kind (support m) kind l) ≡ sum_of number (λ k. is_nonzero (table (entry m) kind l k))
  by_table l number = go kind
    where
      go : (x : LineKind) → sum_of number (by_kind (support m) x l) ≡ sum_of number (λ k. is_nonzero (table (entry m) x l k))
      go Rows = refl
      go Columns = refl

  counts_are : (l : ℕ) → l < count_of_kind m kind → IsCounted kind visited l → get_or t.counts.items l 0 ≡ nonzeros_at across (table (entry m) kind l)
  counts_are l h one =
      are.counts l h one ∙ tally_same (λ _. 1) marks (cross_size m kind) (by_kind (is_passed m (height m) 0) kind l) (by_kind (support m) kind l) (λ k g. by_kind_all m kind l k h g)
      ∙ tally_marked (λ _. 1) marks (cross_size m kind) across (by_kind (support m) kind l) marked is.increasing inside ∙ by_table l (λ _. 1)

  sums_are : (l : ℕ) → l < count_of_kind m kind → IsCounted kind visited l → get_or t.sums.items l 0 ≡ weight_at across (table (entry m) kind l)
  sums_are l h one =
      are.sums l h one ∙ tally_same weight marks (cross_size m kind) (by_kind (is_passed m (height m) 0) kind l) (by_kind (support m) kind l) (λ k g. by_kind_all m kind l k h g)
      ∙ tally_marked weight marks (cross_size m kind) across (by_kind (support m) kind l) marked is.increasing inside ∙ by_table l weight

  by_table_minus : (l : ℕ) → sum_of weight (by_kind (λ i j. is_minus (entry m i j)) kind l) ≡ sum_of weight (λ k. is_minus (table (entry m) kind l k))
  by_table_minus l = go kind
    where
      go : (x : LineKind) → sum_of weight (by_kind (λ i j. is_minus (entry m i j)) x l) ≡ sum_of weight (λ k. is_minus (table (entry m) x l k))
      go Rows = refl
      go Columns = refl

  minus_sums_are : (l : ℕ) → l < count_of_kind m kind → IsCounted kind visited l → get_or t.minus_sums.items l 0 ≡ minus_weight_at across (table (entry m) kind l)
  minus_sums_are l h one =
      are.minus_sums l h one
      ∙ tally_same weight marks (cross_size m kind) (by_kind (is_passed_minus m (height m) 0) kind l) (by_kind (λ i j. is_minus (entry m i j)) kind l) (λ k g. by_kind_all_minus m kind l k h g)
      ∙ tally_marked weight marks (cross_size m kind) across (by_kind (λ i j. is_minus (entry m i j)) kind l) marked is.increasing inside ∙ by_table_minus l

  -- and only of some lines
  pub tallies_of : (lines : List ℕ) (some : Tallies) → AllBelow (count_of_kind m kind) lines
      → ((k : ℕ) → k < length lines → IsCounted kind visited (get_or lines k 0)) → AreTalliesAt lines (length lines) t some
      → AreTalliesOf m kind lines across some
  tallies_of lines some below counted at = record {
    many_counts = at.many_counts;
    many_sums = at.many_sums;
    many_minus_sums = at.many_minus_sums;
    counts = λ k h. at.counts k h ∙ counts_are (get_or lines k 0) (below k h) (counted k h);
    sums = λ k h. at.sums k h ∙ sums_are (get_or lines k 0) (below k h) (counted k h);
    minus_sums = λ k h. at.minus_sums k h ∙ minus_sums_are (get_or lines k 0) (below k h) (counted k h);
  }

-- ---- the rows that are visited

pub lines_counted : (m : Matrix) (kind : LineKind) (lines across : List ℕ) (visited : List Bool) → AreMarks (height m) (rows_for kind lines across) visited
    → (k : ℕ) → k < length lines → IsCounted kind visited (get_or lines k 0)
lines_counted m Rows lines across visited are k h = (are.exact (get_or lines k 0)).1 (in-get_or lines k h)
lines_counted m Columns lines across visited are k h = tt
