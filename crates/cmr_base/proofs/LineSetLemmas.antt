-- Increasing lists of lines: their prefixes, with or without a test, stay below the next line.
use Rattle.std.proofs.Common.{◌≡◌, ◌<◌, ◌+◌, ◌++◌, ℕ, zero, suc, Bool, List, [], ◌∷◌, length, take, get_or, refl, ap, sym, subst, ◌∙◌, arith}
use Rattle.std.specs.List.{All, filter, range_with_len}
use Rattle.std.specs.List.Sorted.{IsStrictlyIncreasing}
use Rattle.std.proofs.lemmas.List.{get_or-take, length-take}
use Rattle.std.proofs.lemmas.List.Elements.{All-filter}
use Rattle.std.proofs.lemmas.List.FromFn.{length-range_with_len, get_or-range_with_len}
use Rattle.std.proofs.lemmas.List.Kept.{AllPairs-from_increasing}
use Rattle.cmr_base.specs.Indices.{IsAbove}
use Rattle.cmr_base.specs.LineSets.{first_lines}

all_below : (lines : List ℕ) (i : ℕ) → IsStrictlyIncreasing lines → i < length lines → All (λ line. line < get_or lines i 0) (take i lines)
all_below lines i increasing in_range k d h =
    let before : k < i = omega (arith, length-take i lines) in
    let inside : k < length lines = omega arith in
    subst (λ line. line < get_or lines i 0) (get_or_same lines k d inside ∙ sym (get_or-take i lines k d before)) (AllPairs-from_increasing lines increasing k i 0 before in_range)
  where
    get_or_same : (xs : List ℕ) (k d : ℕ) → k < length xs → get_or xs k 0 ≡ get_or xs k d
    get_or_same [] k d h = absurd (omega arith)
    get_or_same (x ∷ xs) zero d h = refl
    get_or_same (x ∷ xs) (suc k) d h = get_or_same xs k d (omega arith)

pub taken_below : (lines : List ℕ) (i : ℕ) → IsStrictlyIncreasing lines → i < length lines → IsAbove (get_or lines i 0) (take i lines)
taken_below lines i increasing in_range k h = all_below lines i increasing in_range k 0 h

pub kept_below : (test : ℕ → Bool) (lines : List ℕ) (i : ℕ) → IsStrictlyIncreasing lines → i < length lines → IsAbove (get_or lines i 0) (filter test (take i lines))
kept_below test lines i increasing in_range k h = All-filter test (λ line. line < get_or lines i 0) (take i lines) (all_below lines i increasing in_range) k 0 h

pub first_below : (count : ℕ) → IsAbove count (first_lines count)
first_below count k h =
    let inside : k < count = omega (arith, length-range_with_len 0 count) in
    omega (arith, get_or-range_with_len 0 count k 0 inside)

pub range_more : (from count next : ℕ) → from + count ≡ next → range_with_len from (count + 1) ≡ range_with_len from count ++ next ∷ []
range_more from zero next e = let same : from ≡ next = omega arith in ap (λ n. n ∷ []) same
range_more from (suc count) next e =
    let one : suc count + 1 ≡ suc (count + 1) = omega arith in
    rw one (ap (λ rest. from ∷ rest) (range_more (from + 1) count next (omega arith)))
