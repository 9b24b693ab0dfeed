-- Marked positions as lists of numbers.
use Rattle.std.proofs.Common.{◌≡◌, ◌≢◌, ◌<◌, ◌≤◌, ◌+◌, ◌++◌, ◌∙◌, ℕ, zero, suc, Bool, true, false, not, cond, ℤ, pos, ◌+ℤ◌, List, [], ◌∷◌, length, take, get_or, set, replicate, refl, ap, sym, subst, arith}
use Rattle.std.specs.List.{AllByRecursion}
use Rattle.std.proofs.lemmas.Bool.{false≢true}
use Rattle.std.proofs.lemmas.List.{take_more, length-take, append-nil}
use Rattle.cmr_base.specs.Signing.{IsSign}
use Rattle.cmr_base.specs.Sums.{sum_over}
use Rattle.cmr_base.proofs.Integers.{sums}
use Rattle.cmr_base.proofs.SumLaws.{sum_over-append}
use Rattle.cmr_base.proofs.Lists.{HasOneMore, IsJoined, one_more_first, joined_later}
use Rattle.cmr_base.proofs.IncreasingLists.{IncreasesIn, increases_from_lower, increasing_below}
use Rattle.ghouila.specs.Found.{HasParity, marked_from, marked}
use Rattle.ghouila.proofs.PivotSearch.{parity-add_sign, parity-add_zero}

marked_from-append : (first : ℕ) (marks : List Bool) (mark : Bool) (last : ℕ) → last ≡ first + length marks
    → marked_from first (marks ++ mark ∷ []) ≡ marked_from first marks ++ cond mark (last ∷ []) []
marked_from-append first [] true last e = let same : first ≡ last = omega arith in ap (λ n. n ∷ []) same
marked_from-append first [] false last e = refl
marked_from-append first (true ∷ marks) mark last e = ap (λ xs. first ∷ xs) (marked_from-append (first + 1) marks mark last (omega arith))
marked_from-append first (false ∷ marks) mark last e = marked_from-append (first + 1) marks mark last (omega arith)

-- one position more
pub marked_more : (marks : List Bool) (k : ℕ) (d : Bool) → k < length marks → marked (take (k + 1) marks) ≡ marked (take k marks) ++ cond (get_or marks k d) (k ∷ []) []
marked_more marks k d h = ap marked (take_more marks k d h) ∙ marked_from-append 0 (take k marks) (get_or marks k d) k (omega (arith, length-take k marks))

pub marked-replicate : (first n : ℕ) → marked_from first (replicate n false) ≡ []
marked-replicate first zero = refl
marked-replicate first (suc n) = marked-replicate (first + 1) n

pub all_marked : (P : ℕ → Type 0) (first : ℕ) (marks : List Bool) → ((k n : ℕ) → n ≡ first + k → get_or marks k false ≡ true → P n) → AllByRecursion P (marked_from first marks)
all_marked P first [] h = tt
all_marked P first (true ∷ marks) h = (h zero first (omega arith) refl, all_marked P (first + 1) marks (λ k n e is. h (suc k) n (omega arith) is))
all_marked P first (false ∷ marks) h = all_marked P (first + 1) marks (λ k n e is. h (suc k) n (omega arith) is)

pub marked_increases : (first high : ℕ) (marks : List Bool) → high ≡ first + length marks → IncreasesIn first high (marked_from first marks)
marked_increases first high [] e = tt
marked_increases first high (true ∷ marks) e = (omega arith, omega arith, marked_increases (first + 1) high marks (omega arith))
marked_increases first high (false ∷ marks) e = increases_from_lower first (first + 1) high (marked_from (first + 1) marks) (omega arith) (marked_increases (first + 1) high marks (omega arith))

-- a position is marked again
pub joined_from : (mark : Bool) (first : ℕ) (marks : List Bool) (k n : ℕ) → n ≡ first + k → k < length marks
    → IsJoined mark n (marked_from first (set marks k false)) (marked_from first (set marks k mark))
joined_from mark first [] k n e h = absurd (omega arith)
joined_from true first (x ∷ marks) zero n e h = let same : first ≡ n = omega arith in subst (λ m. HasOneMore m (marked_from (first + 1) marks) (first ∷ marked_from (first + 1) marks)) same (one_more_first first (marked_from (first + 1) marks))
joined_from false first (x ∷ marks) zero n e h = refl
joined_from mark first (true ∷ marks) (suc k) n e h = joined_later mark first n (marked_from (first + 1) (set marks k false)) (marked_from (first + 1) (set marks k mark)) (joined_from mark (first + 1) marks k n (omega arith) (omega arith))
joined_from mark first (false ∷ marks) (suc k) n e h = joined_from mark (first + 1) marks k n (omega arith) (omega arith)

pub joined : (mark : Bool) (marks : List Bool) (k : ℕ) → k < length marks → IsJoined mark k (marked (set marks k false)) (marked (set marks k mark))
joined mark marks k h = joined_from mark 0 marks k k (omega arith) h

pub unmarked_apart : (first : ℕ) (marks : List Bool) (k n : ℕ) → n ≡ first + k → AllByRecursion (λ x. x ≢ n) (marked_from first (set marks k false))
unmarked_apart first marks k n e = all_marked (λ x. x ≢ n) first (set marks k false) (λ j m f is same. false≢true (sym (at marks k) ∙ ap (λ i. get_or (set marks k false) i false) (let i : k ≡ j = omega arith in i) ∙ is))
  where
    at : (xs : List Bool) (i : ℕ) → get_or (set xs i false) i false ≡ false
    at [] i = refl
    at (x ∷ xs) zero = refl
    at (x ∷ xs) (suc i) = at xs i

pub set_unmarked : (marks : List Bool) (k : ℕ) → get_or marks k false ≡ false → set marks k false ≡ marks
set_unmarked [] k e = refl
set_unmarked (x ∷ marks) zero e = ap (λ y. y ∷ marks) (sym e)
set_unmarked (x ∷ marks) (suc k) e = ap (λ ys. x ∷ ys) (set_unmarked marks k e)

pub set_same_mark : (marks : List Bool) (k : ℕ) → set marks k (get_or marks k false) ≡ marks
set_same_mark [] k = refl
set_same_mark (x ∷ marks) zero = refl
set_same_mark (x ∷ marks) (suc k) = ap (λ ys. x ∷ ys) (set_same_mark marks k)

pub marked_there : (marks : List Bool) (k : ℕ) → k < length marks → get_or marks k false ≡ true → marked (take (k + 1) marks) ≡ marked (take k marks) ++ k ∷ []
marked_there marks k inside e = marked_more marks k false inside ∙ ap (λ b. marked (take k marks) ++ cond b (k ∷ []) []) e

pub unmarked_there : (marks : List Bool) (k : ℕ) → k < length marks → get_or marks k false ≡ false → marked (take (k + 1) marks) ≡ marked (take k marks)
unmarked_there marks k inside e = marked_more marks k false inside ∙ ap (λ b. marked (take k marks) ++ cond b (k ∷ []) []) e ∙ append-nil (marked (take k marks))

pub marked_below : (marks : List Bool) (k : ℕ) → k ≤ length marks → AllByRecursion (λ n. n < k) (marked (take k marks))
marked_below marks k h = increasing_below 0 k (marked (take k marks)) (marked_increases 0 k (take k marks) (omega (arith, length-take k marks)))

-- ---- the parity of a sum over the marked positions of a prefix

module _ (marks : List Bool) (k : ℕ) (f : ℕ → ℤ) (inside : k < length marks) where
  sum_there : get_or marks k false ≡ true → sum_over (marked (take (k + 1) marks)) f ≡ sum_over (marked (take k marks)) f +ℤ f k
  sum_there e = ap (λ xs. sum_over xs f) (marked_there marks k inside e) ∙ sum_over-append (marked (take k marks)) (k ∷ []) f ∙ last (sum_over (marked (take k marks)) f) (f k)
    where
      last : (a b : ℤ) → a +ℤ (b +ℤ pos 0) ≡ a +ℤ b
      last a b = omega (arith, sums)

  pub parity_marked : (odd : Bool) → get_or marks k false ≡ true → IsSign (f k) → HasParity odd (sum_over (marked (take k marks)) f) → HasParity (not odd) (sum_over (marked (take (k + 1) marks)) f)
  parity_marked odd e u p = subst (HasParity (not odd)) (sym (sum_there e)) (parity-add_sign odd (sum_over (marked (take k marks)) f) (f k) u p)

  pub parity_marked_zero : (odd : Bool) → get_or marks k false ≡ true → f k ≡ pos 0 → HasParity odd (sum_over (marked (take k marks)) f) → HasParity odd (sum_over (marked (take (k + 1) marks)) f)
  parity_marked_zero odd e z p = subst (HasParity odd) (sym (sum_there e)) (parity-add_zero odd (sum_over (marked (take k marks)) f) (f k) z p)

  pub parity_unmarked : (odd : Bool) → get_or marks k false ≡ false → HasParity odd (sum_over (marked (take k marks)) f) → HasParity odd (sum_over (marked (take (k + 1) marks)) f)
  parity_unmarked odd e p = subst (λ xs. HasParity odd (sum_over xs f)) (sym (unmarked_there marks k inside e)) p

pub marked_at : (P : ℕ → Type 0) (first : ℕ) (marks : List Bool) (k n : ℕ) → n ≡ first + k → get_or marks k false ≡ true → AllByRecursion P (marked_from first marks) → P n
marked_at P first [] k n e is all = absurd (false≢true is)
marked_at P first (true ∷ marks) zero n e is all = let same : first ≡ n = omega arith in subst P same all.0
marked_at P first (false ∷ marks) zero n e is all = absurd (false≢true is)
marked_at P first (true ∷ marks) (suc k) n e is all = marked_at P (first + 1) marks k n (omega arith) is all.1
marked_at P first (false ∷ marks) (suc k) n e is all = marked_at P (first + 1) marks k n (omega arith) is all
