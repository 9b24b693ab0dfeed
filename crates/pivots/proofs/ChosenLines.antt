-- Sets of lines with a line or without it.
use Rattle.std.proofs.Common.{◌≡◌, ◌≢◌, ◌<◌, ◌≤◌, ◌++◌, ◌↔◌, ◌⊎◌, inl, inr, ℕ, Bool, true, false, cond, filter, nat_lt, List, [], ◌∷◌, length, get_or, take, refl, sym, subst, arith}
use Rattle.std.proofs.lemmas.Bool.Decides.{nat_tests}
use Rattle.std.proofs.lemmas.Bool.{cases_lt}
use Rattle.std.specs.List.Sorted.{IsStrictlyIncreasing}
use Rattle.cmr_base.specs.Indices.{IsAbove}
use Rattle.cmr_base.specs.Members.{IsIn}
use Rattle.cmr_base.proofs.LineSetLemmas.{taken_below}
use Rattle.cmr_base.proofs.ListsWithout.{place_of, place_is}
use Rattle.cmr_base.proofs.Members.{in_at}
use Rattle.cmr_base.proofs.RowLists.{filter_in, in_filter}
use Rattle.pivots.specs.ChosenLines.{with_or_without}

-- ---- members

in_either : (x : ℕ) (xs ys : List ℕ) → IsIn x (xs ++ ys) → IsIn x xs ⊎ IsIn x ys
in_either x [] ys h = inr h
in_either x (y ∷ xs) ys (inl e) = inl (inl e)
in_either x (y ∷ xs) ys (inr h) = elim (in_either x xs ys h) [ inl k ↦ inl (inr k) | inr k ↦ inr k ]

in_prefix : (x : ℕ) (xs ys : List ℕ) → IsIn x xs → IsIn x (xs ++ ys)
in_prefix x [] ys h = absurd h
in_prefix x (y ∷ xs) ys (inl e) = inl e
in_prefix x (y ∷ xs) ys (inr h) = inr (in_prefix x xs ys h)

in_back : (x : ℕ) (xs ys : List ℕ) → IsIn x ys → IsIn x (xs ++ ys)
in_back x [] ys h = h
in_back x (y ∷ xs) ys h = inr (in_back x xs ys h)

pub above_members : (x : ℕ) (xs : List ℕ) → ((y : ℕ) → IsIn y xs → y < x) → IsAbove x xs
above_members x xs h k l = h (get_or xs k 0) (in_at xs k l)

members_above : (x : ℕ) (xs : List ℕ) → IsAbove x xs → (y : ℕ) → IsIn y xs → y < x
members_above x xs above y h = let p = place_is y xs h in subst (λ (z : ℕ). z < x) p.there (above (place_of y xs) p.in_range)

-- ---- the lines below a bound, and those above it

pub low_member : (x bound : ℕ) (xs : List ℕ) → IsIn x (filter (λ y. nat_lt y bound) xs) → IsIn x xs × (x < bound)
low_member x bound xs h = let r = in_filter (λ y. nat_lt y bound) x xs h in (r.0, less x bound r.1)
  where
    less : (x n : ℕ) → nat_lt x n ≡ true → x < n
    less x n e = grind (arith, nat_tests)

pub high_member : (x bound : ℕ) (xs : List ℕ) → IsIn x (filter (λ y. nat_lt bound y) xs) → IsIn x xs × (bound < x)
high_member x bound xs h = let r = in_filter (λ y. nat_lt bound y) x xs h in (r.0, less bound x r.1)
  where
    less : (x n : ℕ) → nat_lt x n ≡ true → x < n
    less x n e = grind (arith, nat_tests)

low_is_member : (x bound : ℕ) (xs : List ℕ) → IsIn x xs → x < bound → IsIn x (filter (λ y. nat_lt y bound) xs)
low_is_member x bound xs h l = filter_in (λ y. nat_lt y bound) x xs h (test x bound l)
  where
    test : (x n : ℕ) → x < n → nat_lt x n ≡ true
    test x n l = grind (arith, nat_tests)

high_is_member : (x bound : ℕ) (xs : List ℕ) → IsIn x xs → bound < x → IsIn x (filter (λ y. nat_lt bound y) xs)
high_is_member x bound xs h l = filter_in (λ y. nat_lt bound y) x xs h (test bound x l)
  where
    test : (x n : ℕ) → x < n → nat_lt x n ≡ true
    test x n l = grind (arith, nat_tests)

-- the next line that is added is above the lines of the set
pub next_above : (made lines : List ℕ) (bound i : ℕ) → IsStrictlyIncreasing lines → i < length lines → bound < get_or lines i 0 → ((x : ℕ) → IsIn x made → x ≤ bound)
    → IsAbove (get_or lines i 0) (made ++ filter (λ y. nat_lt bound y) (take i lines))
next_above made lines bound i increases inside higher low = above_members (get_or lines i 0) (made ++ filter (λ y. nat_lt bound y) (take i lines))
    (λ y h. elim (in_either y made (filter (λ y. nat_lt bound y) (take i lines)) h) [
      | inl k ↦ let l = low y k in omega arith
      | inr k ↦ taken_before y (in_filter (λ y. nat_lt bound y) y (take i lines) k).0
    ])
  where
    taken_before : (y : ℕ) → IsIn y (take i lines) → y < get_or lines i 0
    taken_before y h = members_above (get_or lines i 0) (take i lines) (taken_below lines i increases inside) y h

-- ---- a set with a line or without it

line_is_there : (x line : ℕ) (has : Bool) → IsIn x (cond has (line ∷ []) []) → (x ≡ line) × (has ≡ true)
line_is_there x line true (inl e) = (e, refl)
line_is_there x line true (inr h) = absurd h
line_is_there x line false h = absurd h

pub line_there : (lines : List ℕ) (line : ℕ) (has : Bool) → IsIn line (with_or_without lines line has) ↔ (has ≡ true)
line_there lines line has = (there, (λ e. in_prefix line (low ++ cond has (line ∷ []) []) high (in_back line low (cond has (line ∷ []) []) (put e))))
  where
    low : List ℕ
    low = filter (λ other. nat_lt other line) lines

    high : List ℕ
    high = filter (λ other. nat_lt line other) lines

    put : has ≡ true → IsIn line (cond has (line ∷ []) [])
    put e = subst (λ b. IsIn line (cond b (line ∷ []) [])) (sym e) (inl refl)

    there : IsIn line (with_or_without lines line has) → has ≡ true
    there h = elim (in_either line (low ++ cond has (line ∷ []) []) high h) [
      | inr k ↦ absurd (let r = high_member line line lines k in let l = r.1 in omega arith)
      | inl k ↦ elim (in_either line low (cond has (line ∷ []) []) k) [
        | inl j ↦ absurd (let r = low_member line line lines j in let l = r.1 in omega arith)
        | inr j ↦ (line_is_there line line has j).1
      ]
    ]

pub others_there : (lines : List ℕ) (line : ℕ) (has : Bool) (x : ℕ) → x ≢ line → IsIn x (with_or_without lines line has) ↔ IsIn x lines
others_there lines line has x other = (from, to)
  where
    low : List ℕ
    low = filter (λ other. nat_lt other line) lines

    high : List ℕ
    high = filter (λ other. nat_lt line other) lines

    from : IsIn x (with_or_without lines line has) → IsIn x lines
    from h = elim (in_either x (low ++ cond has (line ∷ []) []) high h) [
      | inr k ↦ (high_member x line lines k).0
      | inl k ↦ elim (in_either x low (cond has (line ∷ []) []) k) [
        | inl j ↦ (low_member x line lines j).0
        | inr j ↦ absurd (other (line_is_there x line has j).0)
      ]
    ]

    to : IsIn x lines → IsIn x (with_or_without lines line has)
    to h = elim (cases_lt x line) [
      | inl l ↦ in_prefix x (low ++ cond has (line ∷ []) []) high (in_prefix x low (cond has (line ∷ []) []) (low_is_member x line lines h l))
      | inr ge ↦ in_back x (low ++ cond has (line ∷ []) []) high (high_is_member x line lines h (omega arith))
    ]

pub below_itself : (line : ℕ) (lines : List ℕ) → IsAbove line (filter (λ other. nat_lt other line) lines)
below_itself line lines = above_members line (filter (λ other. nat_lt other line) lines) (λ y h. (low_member y line lines h).1)

pub up_to_itself : (lines : List ℕ) (line : ℕ) (has : Bool) (x : ℕ) → IsIn x (filter (λ other. nat_lt other line) lines ++ cond has (line ∷ []) []) → x ≤ line
up_to_itself lines line has x h = elim (in_either x (filter (λ other. nat_lt other line) lines) (cond has (line ∷ []) []) h) [
  | inl k ↦ let l = (low_member x line lines k).1 in omega arith
  | inr k ↦ let e = (line_is_there x line has k).0 in omega arith
]
