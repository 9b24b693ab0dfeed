-- The orders of the lines of a sum contain each line of the matrix once.
use Rattle.std.proofs.Common.{◌≡◌, ◌≢◌, ◌<◌, ◌≤◌, ◌+◌, ◌∙◌, ◌++◌, ◌⊎◌, inl, inr, ℕ, Bool, true, false, List, [], ◌∷◌, length, refl, sym, subst, arith, length-append}
use Rattle.std.proofs.lemmas.Bool.{cases_lt}
use Rattle.std.proofs.lemmas.List.FromFn.{length-range_with_len}
use Rattle.cmr_base.specs.LineSets.{first_lines}
use Rattle.cmr_base.specs.Members.{IsIn, IsDistinct}
use Rattle.cmr_base.specs.R10.{IsOrder}
use Rattle.cmr_base.proofs.ListsWithout.{increasing_distinct}
use Rattle.cmr_base.proofs.ListedLines.{contains_first_lines, in_from_listed}
use Rattle.cmr_base.proofs.Members.{distinct_few}
use Rattle.cmr_base.proofs.Places.{fewer_distinct}
use Rattle.cmr_base.proofs.RemovedLines.{first_lines_in, first_lines_increase}
use Rattle.compose.specs.Arrangements.{lines_on, others}
use Rattle.compose.proofs.SideLines.{is_listed, both_sides, others_one, others_two, to_one, to_two, to_others}

in_left : (xs ys : List ℕ) (x : ℕ) → IsIn x xs → IsIn x (xs ++ ys)
in_left [] ys x h = absurd h
in_left (z ∷ zs) ys x (inl e) = inl e
in_left (z ∷ zs) ys x (inr h) = inr (in_left zs ys x h)

in_right : (xs ys : List ℕ) (x : ℕ) → IsIn x ys → IsIn x (xs ++ ys)
in_right [] ys x h = h
in_right (z ∷ zs) ys x h = inr (in_right zs ys x h)

first_distinct : (n : ℕ) → IsDistinct (first_lines n)
first_distinct n = increasing_distinct (first_lines n) (first_lines_increase n)

-- a list that contains all n lines has at least n items
all_many : (n : ℕ) (xs : List ℕ) → ((x : ℕ) → x < n → IsIn x xs) → n ≤ length xs
all_many n xs each =
    let many = fewer_distinct (first_lines n) xs (first_distinct n) (λ x h. each x (first_lines_in n x h)) in
    let count = length-range_with_len 0 n in
    omega arith

-- an order of n lines has n items
pub order_count : (n : ℕ) (xs : List ℕ) → IsOrder n xs → length xs ≡ n
order_count n xs order =
    let many = all_many n xs (λ x. (order.all x).1) in
    let few = distinct_few n xs order.distinct (λ x. (order.all x).0) in
    omega arith

-- if a line occurs twice, a list of all n lines has more than n items
no_more : (n : ℕ) (before : List ℕ) (y : ℕ) (ys : List ℕ) → length before + length (y ∷ ys) ≤ n → ((x : ℕ) → x < n → IsIn x before ⊎ IsIn x (y ∷ ys)) → ¬ (IsIn y ys)
no_more n before y ys few each again =
    let many = all_many n (before ++ ys) (λ x l. left x (each x l)) in
    let count = length-append before ys in
    omega arith
  where
    left : (x : ℕ) → IsIn x before ⊎ IsIn x (y ∷ ys) → IsIn x (before ++ ys)
    left x (inl h) = in_left before ys x h
    left x (inr (inl e)) = in_right before ys x (subst (λ z. IsIn z ys) (sym e) again)
    left x (inr (inr h)) = in_right before ys x h

-- the rest has distinct lines if the two lists have at most n items together and contain all n lines
rest_distinct : (n : ℕ) (before rest : List ℕ) → length before + length rest ≤ n → ((x : ℕ) → x < n → IsIn x before ⊎ IsIn x rest) → IsDistinct rest
rest_distinct n before [] few each = tt
rest_distinct n before (y ∷ ys) few each = (no_more n before y ys few each, rest_distinct n (y ∷ before) ys (omega arith) (λ x l. moved x (each x l)))
  where
    moved : (x : ℕ) → IsIn x before ⊎ IsIn x (y ∷ ys) → IsIn x (y ∷ before) ⊎ IsIn x ys
    moved x (inl h) = inl (inr h)
    moved x (inr (inl e)) = inl (inl e)
    moved x (inr (inr h)) = inr h

-- a list of at most n items that contains all n lines is an order
all_lines : (n : ℕ) (xs : List ℕ) → length xs ≤ n → ((x : ℕ) → x < n → IsIn x xs) → IsOrder n xs
all_lines n xs few each = record { distinct = rest_distinct n [] xs (omega arith) (λ x l. inr (each x l)); all = λ x. (below x, each x) }
  where
    below : (x : ℕ) → IsIn x xs → x < n
    below x h = elim (cases_lt x n) [
      | inl l ↦ l
      | inr above ↦ absurd (let many = fewer_distinct (x ∷ first_lines n) xs ((λ i. let l = first_lines_in n x i in omega arith), first_distinct n) all in let count = length-range_with_len 0 n in omega arith)
    ]
      where
        all : (y : ℕ) → IsIn y (x ∷ first_lines n) → IsIn y xs
        all y (inl e) = subst (λ z. IsIn z xs) (sym e) h
        all y (inr i) = each y (first_lines_in n y i)

module _ (list : List ℕ) (n : ℕ) where
  abbrev one : List ℕ
  one = lines_on true list (first_lines n)

  abbrev two : List ℕ
  two = lines_on false list (first_lines n)

  sides_count : length one + length two ≡ n
  sides_count = both_sides list (first_lines n) ∙ length-range_with_len 0 n

  by_side : (P : ℕ → Type 0) (x : ℕ) → x < n → (IsIn x one → P x) → (IsIn x two → P x) → P x
  by_side P x l in_one in_two = go (is_listed list x) refl
    where
      go : (t : Bool) → is_listed list x ≡ t → P x
      go true e = in_one (to_one list (first_lines n) x (contains_first_lines n x l) e)
      go false e = in_two (to_two list (first_lines n) x (contains_first_lines n x l) e)

  pub one_first : IsOrder n (one ++ two)
  one_first = all_lines n (one ++ two) (let c = length-append one two in let s = sides_count in omega arith)
      (λ x l. by_side (λ x. IsIn x (one ++ two)) x l (in_left one two x) (in_right one two x))

  pub two_first : IsOrder n (two ++ one)
  two_first = all_lines n (two ++ one) (let c = length-append two one in let s = sides_count in omega arith)
      (λ x l. by_side (λ x. IsIn x (two ++ one)) x l (in_right two one x) (in_left two one x))

  -- side one without some of its lines, then these lines, then some lines of side two, then its other lines
  module _ (first second : List ℕ) (few_one : length first + length (others first one) ≤ length one) (few_two : length second + length (others second two) ≤ length two) where
    abbrev prefix : List ℕ
    prefix = others first one

    abbrev middle : List ℕ
    middle = first ++ second

    abbrev back : List ℕ
    back = others second two

    abbrev order : List ℕ
    order = prefix ++ (middle ++ back)

    of_one : (x : ℕ) → IsIn x one → IsIn x order
    of_one x h = go (is_listed first x) refl
      where
        go : (t : Bool) → is_listed first x ≡ t → IsIn x order
        go true e = in_right prefix (middle ++ back) x (in_left middle back x (in_left first second x (in_from_listed x first e)))
        go false e = in_left prefix (middle ++ back) x (to_others first one x h e)

    of_two : (x : ℕ) → IsIn x two → IsIn x order
    of_two x h = go (is_listed second x) refl
      where
        go : (t : Bool) → is_listed second x ≡ t → IsIn x order
        go true e = in_right prefix (middle ++ back) x (in_left middle back x (in_right first second x (in_from_listed x second e)))
        go false e = in_right prefix (middle ++ back) x (in_right middle back x (to_others second two x h e))

    without : IsOrder n order
    without = all_lines n order
        (let a = length-append prefix (middle ++ back) in let b = length-append middle back in let c = length-append first second in let s = sides_count in omega arith)
        (λ x l. by_side (λ x. IsIn x order) x l (of_one x) (of_two x))

  pub core_rows : (i k o : ℕ) → IsIn i one → IsIn k two → IsIn o two → k ≢ o → IsOrder n (others (i ∷ []) one ++ (i ∷ k ∷ o ∷ others (k ∷ o ∷ []) two))
  core_rows i k o in_i in_k in_o apart = without (i ∷ []) (k ∷ o ∷ []) (others_one i one in_i) (others_two k o two in_k in_o apart)

  pub core_columns : (p q j : ℕ) → IsIn p one → IsIn q one → p ≢ q → IsIn j two → IsOrder n (others (p ∷ q ∷ []) one ++ (p ∷ q ∷ j ∷ others (j ∷ []) two))
  core_columns p q j in_p in_q apart in_j = without (p ∷ q ∷ []) (j ∷ []) (others_two p q one in_p in_q apart) (others_one j two in_j)
