-- The lines on the sides of a separation.
use Rattle.std.proofs.Common.{◌≡◌, ◌≢◌, ◌≤◌, ◌+◌, ◌⊎◌, inl, inr, ◌∙◌, ◌++◌, not, cond, nat_eq, ℕ, suc, Bool, true, false, List, [], ◌∷◌, length, Contains, sym, refl, arith}
use Rattle.std.specs.List.{list_any}
use Rattle.cmr_base.specs.Members.{IsIn}
use Rattle.cmr_base.proofs.ListsWithout.{in_from_contains, contains_from_in}
use Rattle.cmr_base.proofs.RowLists.{filter_in, in_filter}
use Rattle.cmr_base.proofs.Booleans.{not_is, is_not}
use Rattle.cmr_base.proofs.ListedLines.{listed_from_in}
use Rattle.sum_ops.specs.Children.{on_list}
use Rattle.compose.specs.Arrangements.{lines_on, others}

-- the membership test of a list
abbrev pub is_listed : List ℕ → ℕ → Bool
is_listed list x = list_any (λ y. nat_eq y x) list

pub to_one : (list xs : List ℕ) (x : ℕ) → Contains xs x → is_listed list x ≡ true → IsIn x (lines_on true list xs)
to_one list xs x h e = filter_in (on_list true list) x xs (in_from_contains xs x h) e

pub from_one : (list xs : List ℕ) (x : ℕ) → IsIn x (lines_on true list xs) → Contains xs x × (is_listed list x ≡ true)
from_one list xs x h = let w = in_filter (on_list true list) x xs h in (contains_from_in xs x w.0, w.1)

pub to_two : (list xs : List ℕ) (x : ℕ) → Contains xs x → is_listed list x ≡ false → IsIn x (lines_on false list xs)
to_two list xs x h e = filter_in (on_list false list) x xs (in_from_contains xs x h) (is_not (is_listed list x) e)

pub from_two : (list xs : List ℕ) (x : ℕ) → IsIn x (lines_on false list xs) → Contains xs x × (is_listed list x ≡ false)
from_two list xs x h = let w = in_filter (on_list false list) x xs h in (contains_from_in xs x w.0, not_is (is_listed list x) w.1)

pub in_others : (excluded xs : List ℕ) (x : ℕ) → IsIn x (others excluded xs) → IsIn x xs
in_others excluded xs x h = (in_filter (on_list false excluded) x xs h).0

pub to_others : (excluded xs : List ℕ) (x : ℕ) → IsIn x xs → is_listed excluded x ≡ false → IsIn x (others excluded xs)
to_others excluded xs x h e = filter_in (on_list false excluded) x xs h (is_not (is_listed excluded x) e)

pub in_either : (xs ys : List ℕ) (x : ℕ) → IsIn x (xs ++ ys) → IsIn x xs ⊎ IsIn x ys
in_either [] ys x h = inr h
in_either (z ∷ zs) ys x (inl e) = inl (inl e)
in_either (z ∷ zs) ys x (inr h) = elim (in_either zs ys x h) [ inl u ↦ inl (inr u) | inr u ↦ inr u ]

-- ---- numbers of lines

pub both_sides : (list xs : List ℕ) → length (lines_on true list xs) + length (lines_on false list xs) ≡ length xs
both_sides list [] = refl
both_sides list (x ∷ xs) = go (is_listed list x) (both_sides list xs)
  where
    go : (s : Bool) → length (lines_on true list xs) + length (lines_on false list xs) ≡ length xs
        → length (cond s (x ∷ lines_on true list xs) (lines_on true list xs)) + length (cond (not s) (x ∷ lines_on false list xs) (lines_on false list xs)) ≡ suc (length xs)
    go true h = omega arith
    go false h = omega arith

pub one_there : (x : ℕ) (xs : List ℕ) → IsIn x xs → 1 ≤ length xs
one_there x [] h = absurd h
one_there x (y ∷ ys) h = omega arith

pub two_there : (x y : ℕ) (xs : List ℕ) → IsIn x xs → IsIn y xs → x ≢ y → 2 ≤ length xs
two_there x y [] h k d = absurd h
two_there x y (z ∷ zs) (inl e) (inl f) d = absurd (d (e ∙ sym f))
two_there x y (z ∷ zs) (inl e) (inr k) d = let l = one_there y zs k in omega arith
two_there x y (z ∷ zs) (inr h) k d = let l = one_there x zs h in omega arith

-- lists without lines that they contain
pub others_one : (x : ℕ) (xs : List ℕ) → IsIn x xs → 1 + length (others (x ∷ []) xs) ≤ length xs
others_one x xs h =
    let there = one_there x (lines_on true (x ∷ []) xs) (filter_in (on_list true (x ∷ [])) x xs h (listed_from_in x (x ∷ []) (inl refl))) in
    let all = both_sides (x ∷ []) xs in
    omega arith

pub others_two : (x y : ℕ) (xs : List ℕ) → IsIn x xs → IsIn y xs → x ≢ y → 2 + length (others (x ∷ y ∷ []) xs) ≤ length xs
others_two x y xs h k d =
    let there = two_there x y (lines_on true (x ∷ y ∷ []) xs) (filter_in (on_list true (x ∷ y ∷ [])) x xs h (listed_from_in x (x ∷ y ∷ []) (inl refl)))
    (filter_in (on_list true (x ∷ y ∷ [])) y xs k (listed_from_in y (x ∷ y ∷ []) (inr (inl refl)))) d in
    let all = both_sides (x ∷ y ∷ []) xs in
    omega arith
