-- The number of lines of a set.
use Rattle.std.proofs.Common.{◌≡◌, ◌≢◌, ◌<◌, ◌≤◌, ◌+◌, ◌++◌, ◌∙◌, ℕ, zero, suc, Bool, true, false, not, cond, filter, nat_eq, List, [], ◌∷◌, length, ap, ap₂, sym, subst, refl, arith, zero-add}
use Rattle.std.proofs.lemmas.Bool.{false≢true}
use Rattle.std.proofs.lemmas.Bool.Decides.{nat_tests}
use Rattle.std.specs.List.{AllByRecursion}
use Rattle.cmr_base.specs.declared.line.Line.{Line}
use Rattle.cmr_base.specs.declared.line.Line.TheVariants.{Row, Column}
use Rattle.cmr_base.specs.LineSets.{first_lines}
use Rattle.cmr_base.specs.Separations.{Lines, opposite, count_lines_in}
use Rattle.cmr_base.specs.Seeds.{IsLine}
pub use Rattle.cmr_base.specs.Seeds.{count, count_inside, count_outside}
use Rattle.cmr_base.proofs.LineSetLemmas.{range_more}
use Rattle.cmr_base.proofs.Booleans.{eq_of, is_ne, ne_of, self_eq}

-- the lines of the list are distinct
abbrev pub AreApart : List Line → Type 0
AreApart [] = Unit {0}
AreApart (x ∷ xs) = AllByRecursion (λ y. x ≢ y) xs × AreApart xs

length-filter_append : (p : ℕ → Bool) (xs : List ℕ) (k : ℕ) → length (filter p (xs ++ k ∷ [])) ≡ cond (p k) (suc (length (filter p xs))) (length (filter p xs))
length-filter_append p [] k = go (p k)
  where
    go : (t : Bool) → length (cond t (k ∷ []) []) ≡ cond t 1 0
    go true = refl
    go false = refl
length-filter_append p (x ∷ xs) k = go (p x) (p k) (length-filter_append p xs k)
  where
    go : (s t : Bool) → length (filter p (xs ++ k ∷ [])) ≡ cond t (suc (length (filter p xs))) (length (filter p xs))
        → length (cond s (x ∷ filter p (xs ++ k ∷ [])) (filter p (xs ++ k ∷ []))) ≡ cond t (suc (length (cond s (x ∷ filter p xs) (filter p xs)))) (length (cond s (x ∷ filter p xs) (filter p xs)))
    go true true h = ap suc h
    go true false h = ap suc h
    go false true h = h
    go false false h = h

pub count-filter : (p : ℕ → Bool) (k : ℕ) → length (filter p (first_lines k)) ≡ count p k
count-filter p zero = refl
count-filter p (suc k) =
    let next : suc k ≡ k + 1 = omega arith in
    ap (λ (n : ℕ). length (filter p (first_lines n))) next ∙ ap (λ xs. length (filter p xs)) (range_more 0 k k (zero-add k)) ∙ length-filter_append p (first_lines k) k
    ∙ ap (λ (n : ℕ). cond (p k) (suc n) n) (count-filter p k)

pub inside_is : (m n : ℕ) (S : Lines) → count_lines_in S (first_lines m) (first_lines n) ≡ count_inside m n S
inside_is m n S = ap₂ (λ (a b : ℕ). a + b) (count-filter (λ r. S (Row r)) m) (count-filter (λ c. S (Column c)) n)

pub outside_is : (m n : ℕ) (S : Lines) → count_lines_in (opposite S) (first_lines m) (first_lines n) ≡ count_outside m n S
outside_is m n S = inside_is m n (opposite S)

-- the test without the number x
abbrev pub less : ℕ → (ℕ → Bool) → ℕ → Bool
less x p y = cond (nat_eq x y) false (p y)

pub count_same : (p q : ℕ → Bool) (k : ℕ) → ((y : ℕ) → y < k → p y ≡ q y) → count p k ≡ count q k
count_same p q zero h = refl
count_same p q (suc k) h = ap₂ (λ (b : Bool) (n : ℕ). cond b (suc n) n) (h k (omega arith)) (count_same p q k (λ y l. h y (omega arith)))

-- without a number, the count decreases by at most one
pub count_less : (x : ℕ) (p : ℕ → Bool) (k : ℕ) → count p k ≤ suc (count (less x p) k)
count_less x p zero = omega arith
count_less x p (suc k) = go (nat_eq x k) refl (p k) (count_less x p k)
  where
    go : (t : Bool) → nat_eq x k ≡ t → (s : Bool) → count p k ≤ suc (count (less x p) k)
        → cond s (suc (count p k)) (count p k) ≤ suc (cond (cond t false s) (suc (count (less x p) k)) (count (less x p) k))
    go true e true h = plain (count p k) (count (less x p) k) (count_same p (less x p) k (λ y l. sym (ap (λ (t : Bool). cond t false (p y)) (is_ne x y (λ f. absurd (no x y k l f e))))))
      where
        no : (x y k : ℕ) → y < k → x ≡ y → nat_eq x k ≡ true → ⊥
        no x y k l f e = grind (arith, nat_tests)

        plain : (a b : ℕ) → a ≡ b → suc a ≤ suc b
        plain a b e = omega arith
    go true e false h = h
    go false e true h = omega arith
    go false e false h = h

-- it decreases by one if the number passes
pub count_more : (x : ℕ) (p : ℕ → Bool) (k : ℕ) → x < k → p x ≡ true → count p k ≡ suc (count (less x p) k)
count_more x p zero l e = absurd (omega arith)
count_more x p (suc k) l e = go (nat_eq x k) refl (p k) refl (λ l. count_more x p k l e)
  where
    go : (t : Bool) → nat_eq x k ≡ t → (s : Bool) → p k ≡ s → (x < k → count p k ≡ suc (count (less x p) k))
        → cond s (suc (count p k)) (count p k) ≡ suc (cond (cond t false s) (suc (count (less x p) k)) (count (less x p) k))
    go true f true g h = ap suc (count_same p (less x p) k (λ y m. sym (ap (λ (t : Bool). cond t false (p y)) (is_ne x y (λ i. absurd (no x y k m i f))))))
      where
        no : (x y k : ℕ) → y < k → x ≡ y → nat_eq x k ≡ true → ⊥
        no x y k l f e = grind (arith, nat_tests)
    go true f false g h = absurd (false≢true (sym g ∙ (ap p (sym (eq_of x k f)) ∙ e)))
    go false f true g h = ap suc (h (small x k l (ne_of x k f)))
      where
        small : (x k : ℕ) → x < suc k → x ≢ k → x < k
        small x k l n = omega arith
    go false f false g h = h (small x k l (ne_of x k f))
      where
        small : (x k : ℕ) → x < suc k → x ≢ k → x < k
        small x k l n = omega arith

-- if the count is positive, there is a number that passes
pub one_of : (p : ℕ → Bool) (k : ℕ) → 0 < count p k → (x : ℕ) × (x < k) × (p x ≡ true)
one_of p zero l = absurd (omega arith)
one_of p (suc k) l = go (p k) refl l (λ h. one_of p k h)
  where
    go : (t : Bool) → p k ≡ t → 0 < cond t (suc (count p k)) (count p k) → (0 < count p k → (x : ℕ) × (x < k) × (p x ≡ true)) → (x : ℕ) × (x < suc k) × (p x ≡ true)
    go true e l rest = (k, omega arith, e)
    go false e l rest = wider (rest l)
      where
        wider : (x : ℕ) × (x < k) × (p x ≡ true) → (x : ℕ) × (x < suc k) × (p x ≡ true)
        wider (x, l, e) = (x, omega arith, e)

-- ---- lines

abbrev pub same : Line → Line → Bool
same (Row r) (Row r') = nat_eq r r'
same (Row r) (Column c) = false
same (Column c) (Row r) = false
same (Column c) (Column c') = nat_eq c c'

abbrev pub without : Line → Lines → Lines
without x S y = cond (same x y) false (S y)

pub inside_less : (m n : ℕ) (x : Line) (S : Lines) → count_inside m n S ≤ suc (count_inside m n (without x S))
inside_less m n (Row r) S = let h = count_less r (λ y. S (Row y)) m in omega arith
inside_less m n (Column c) S = let h = count_less c (λ y. S (Column y)) n in omega arith

pub inside_more : (m n : ℕ) (x : Line) (S : Lines) → IsLine m n x → S x ≡ true → count_inside m n S ≡ suc (count_inside m n (without x S))
inside_more m n (Row r) S l e = let h = count_more r (λ y. S (Row y)) m l e in omega arith
inside_more m n (Column c) S l e = let h = count_more c (λ y. S (Column y)) n l e in omega arith

pub one_line : (m n : ℕ) (S : Lines) → 0 < count_inside m n S → (x : Line) × (IsLine m n x) × (S x ≡ true)
one_line m n S l = go (count (λ r. S (Row r)) m) refl
  where
    go : (k : ℕ) → count (λ r. S (Row r)) m ≡ k → (x : Line) × (IsLine m n x) × (S x ≡ true)
    go zero e = let h = one_of (λ c. S (Column c)) n (omega arith) in (Column h.0, h.1, h.2)
    go (suc k) e = let h = one_of (λ r. S (Row r)) m (omega arith) in (Row h.0, h.1, h.2)

pub same_line : (x y : Line) → x ≡ y → same x y ≡ true
same_line (Row r) y e = subst (λ z. same (Row r) z ≡ true) e (self_eq r)
same_line (Column c) y e = subst (λ z. same (Column c) z ≡ true) e (self_eq c)

pub line_same : (x y : Line) → same x y ≡ true → x ≡ y
line_same (Row r) (Row r') e = ap Row (eq_of r r' e)
line_same (Row r) (Column c) e = absurd (false≢true e)
line_same (Column c) (Row r) e = absurd (false≢true e)
line_same (Column c) (Column c') e = ap Column (eq_of c c' e)

-- a set with more lines than the list has a line that is not in the list
pub one_beside : (m n : ℕ) (xs : List Line) (S : Lines) → length xs < count_inside m n S → (x : Line) × (IsLine m n x) × (S x ≡ true) × AllByRecursion (λ y. x ≢ y) xs
one_beside m n [] S l = let h = one_line m n S l in (h.0, h.1, h.2, tt)
one_beside m n (y ∷ ys) S l =
    let h = one_beside m n ys (without y S) (plain (length ys) (count_inside m n S) (count_inside m n (without y S)) (inside_less m n y S) l) in
    (h.0, h.1, was (same y h.0) (S h.0) h.2, (λ e. not_it h.0 (sym e) h.2, h.3))
  where
    plain : (k a b : ℕ) → a ≤ suc b → suc k < a → k < b
    plain k a b l m = omega arith

    was : (s t : Bool) → cond s false t ≡ true → t ≡ true
    was true t e = absurd (false≢true e)
    was false t e = e

    not_it : (x : Line) → y ≡ x → cond (same y x) false (S x) ≡ true → ⊥
    not_it x e h = false≢true (sym (ap (λ (s : Bool). cond s false (S x)) (same_line y x e)) ∙ h)

-- a set has at least as many lines as a list of distinct lines of the set
pub at_least : (m n : ℕ) (xs : List Line) (S : Lines) → AllByRecursion (λ x. IsLine m n x) xs → AllByRecursion (λ x. S x ≡ true) xs → AreApart xs → length xs ≤ count_inside m n S
at_least m n [] S ls ins far = omega arith
at_least m n (x ∷ xs) S ls ins far =
    plain (length xs) (count_inside m n S) (count_inside m n (without x S)) (inside_more m n x S ls.0 ins.0) (at_least m n xs (without x S) ls.1 (stay xs ins.1 far.0) far.1)
  where
    plain : (k a b : ℕ) → a ≡ suc b → k ≤ b → suc k ≤ a
    plain k a b e l = omega arith

    not_same : (y : Line) (t : Bool) → same x y ≡ t → x ≢ y → S y ≡ true → cond t false (S y) ≡ true
    not_same y true e h i = absurd (h (line_same x y e))
    not_same y false e h i = i

    stay : (ys : List Line) → AllByRecursion (λ y. S y ≡ true) ys → AllByRecursion (λ y. x ≢ y) ys → AllByRecursion (λ y. without x S y ≡ true) ys
    stay [] h k = tt
    stay (y ∷ ys) h k = (not_same y (same x y) refl k.0 h.0, stay ys h.1 k.1)

-- each of the first k numbers passes a test or does not
pub count_both : (p : ℕ → Bool) (k : ℕ) → count p k + count (λ x. not (p x)) k ≡ k
count_both p zero = refl
count_both p (suc k) = go (p k) (count_both p k)
  where
    go : (t : Bool) → count p k + count (λ x. not (p x)) k ≡ k → cond t (suc (count p k)) (count p k) + cond (not t) (suc (count (λ x. not (p x)) k)) (count (λ x. not (p x)) k) ≡ suc k
    go true h = omega (arith, h)
    go false h = omega (arith, h)
