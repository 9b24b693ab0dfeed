-- A side with a path becomes fit by at most as many pivots as the path has inner rows.
use Rattle.std.proofs.Common.{◌≡◌, ◌<◌, ◌≤◌, inl, inr, ℕ, zero, suc, Bool, true, false, nat_lt, refl, arith}
use Rattle.cmr_base.specs.Matrix.{Matrix, HasTernaryEntries}
use Rattle.cmr_base.specs.Separations.{Lines}
use Rattle.cmr_base.proofs.Booleans.{at_least_of, lt_of}
use Rattle.ghouila.specs.PivotLaws.{pivot_at}
use Rattle.path_places.specs.PathPlaces.{IsFirstEdge, IsFit}
use Rattle.fit_cuts.specs.ShorterPaths.{HasShorterPath, IsFitWithin, PathsBoundPivots}
use Rattle.fit_cuts.proofs.ShorterPaths.{pivots_shorten_paths}

at_most : (fewer more : ℕ) → ¬ (more < fewer) → fewer ≤ more
at_most fewer more none = go (nat_lt more fewer) refl
  where
    go : (t : Bool) → nat_lt more fewer ≡ t → fewer ≤ more
    go true e = absurd (none (lt_of more fewer e))
    go false e = at_least_of more fewer e

fit_within : (bound : ℕ) (m : Matrix) (T : Lines) → IsFit m T → IsFitWithin bound m T
fit_within zero m T fit = fit
fit_within (suc bound) m T fit = inl fit

-- the side after one more pivot
after_pivot : (bound : ℕ) (m : Matrix) (T : Lines) → ((k i j : ℕ) → suc k ≤ bound → IsFirstEdge m T (suc k) i j → IsFitWithin bound m T) → (k : ℕ) → k ≤ suc bound → HasShorterPath m T k
    → IsFitWithin bound m T
after_pivot bound m T again zero most path = absurd path
after_pivot bound m T again (suc zero) most fit = fit_within bound m T fit
after_pivot bound m T again (suc (suc k)) most (r, c, path) = again k r c (omega arith) path

within : (bound n : ℕ) (m : Matrix) (T : Lines) (i j : ℕ) → n ≤ bound → HasTernaryEntries m → IsFirstEdge m T n i j → IsFitWithin bound m T
within zero zero m T i j l small edge = absurd (edge.inner.1 edge.walk)
within zero (suc n) m T i j l small edge = absurd (omega arith)
within (suc bound) n m T i j l small edge = inr (λ r c place ternary.
    let least = at_most place.n n (place.shortest n i j edge) in
    after_pivot bound (pivot_at m r c) T (λ k x y most path. within bound (suc k) (pivot_at m r c) T x y most ternary path) place.n (omega arith) (pivots_shorten_paths m T r c small place ternary))

pub paths_bound_pivots : PathsBoundPivots
paths_bound_pivots m T n i j small edge = within n n m T i j (omega arith) small edge
