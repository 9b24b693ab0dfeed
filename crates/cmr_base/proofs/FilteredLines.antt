-- Lists of the numbers that satisfy a predicate.
use Rattle.std.proofs.Common.{◌≡◌, ◌+◌, ◌∙◌, ◌++◌, cond, filter, ℕ, Bool, true, false, List, [], ◌∷◌, get_or, ap, sym, refl, zero-add}
use Rattle.cmr_base.specs.Indices.{IsAbove}
use Rattle.cmr_base.specs.LineSets.{first_lines}
use Rattle.cmr_base.proofs.LineSetLemmas.{range_more}
use Rattle.cmr_base.proofs.ListsWithout.{in-get_or}
use Rattle.cmr_base.proofs.RowLists.{in_filter}
use Rattle.cmr_base.proofs.RemovedLines.{first_lines_in}

filter_append : (p : ℕ → Bool) (xs : List ℕ) (k : ℕ) → filter p (xs ++ k ∷ []) ≡ cond (p k) (filter p xs ++ k ∷ []) (filter p xs)
filter_append p [] k = go (p k)
  where
    go : (t : Bool) → cond t (k ∷ []) [] ≡ cond t (k ∷ []) []
    go t = refl
filter_append p (x ∷ xs) k = go (p x) (p k) (filter_append p xs k)
  where
    go : (s t : Bool) → filter p (xs ++ k ∷ []) ≡ cond t (filter p xs ++ k ∷ []) (filter p xs)
        → cond s (x ∷ filter p (xs ++ k ∷ [])) (filter p (xs ++ k ∷ [])) ≡ cond t (cond s (x ∷ filter p xs) (filter p xs) ++ k ∷ []) (cond s (x ∷ filter p xs) (filter p xs))
    go true true h = ap (λ ys. x ∷ ys) h
    go true false h = ap (λ ys. x ∷ ys) h
    go false t h = h

pub filter_more : (p : ℕ → Bool) (k : ℕ) → filter p (first_lines (k + 1)) ≡ cond (p k) (filter p (first_lines k) ++ k ∷ []) (filter p (first_lines k))
filter_more p k = ap (filter p) (range_more 0 k k (zero-add k)) ∙ filter_append p (first_lines k) k

pub filter_yes : (p : ℕ → Bool) (k : ℕ) (xs : List ℕ) → xs ≡ filter p (first_lines k) → p k ≡ true → xs ++ k ∷ [] ≡ filter p (first_lines (k + 1))
filter_yes p k xs e h = ap (λ ys. ys ++ k ∷ []) e ∙ sym (filter_more p k ∙ ap (λ (t : Bool). cond t (filter p (first_lines k) ++ k ∷ []) (filter p (first_lines k))) h)

pub filter_no : (p : ℕ → Bool) (k : ℕ) (xs : List ℕ) → xs ≡ filter p (first_lines k) → p k ≡ false → xs ≡ filter p (first_lines (k + 1))
filter_no p k xs e h = e ∙ sym (filter_more p k ∙ ap (λ (t : Bool). cond t (filter p (first_lines k) ++ k ∷ []) (filter p (first_lines k))) h)

pub filter_below : (p : ℕ → Bool) (k : ℕ) → IsAbove k (filter p (first_lines k))
filter_below p k q l = first_lines_in k (get_or (filter p (first_lines k)) q 0) (in_filter p (get_or (filter p (first_lines k)) q 0) (first_lines k) (in-get_or (filter p (first_lines k)) q l)).0
