-- A side with a path has a first shortest one. So a cut has a position unless both sides are fit.
use Rattle.std.proofs.Common.{◌<◌, ◌⊎◌, inl, inr, ℕ, zero, suc, [], ◌∷◌, subst, arith}
use Rattle.cmr_base.specs.Matrix.{Matrix}
use Rattle.cmr_base.specs.Separations.{Lines, opposite}
use Rattle.cmr_base.specs.Seeds.{IsBefore}
use Rattle.cuts.proofs.CutLemmas.{other_is_cut}
use Rattle.path_places.specs.PathPlaces.{HasNoPath, IsFirstEdge, IsFit, IsPathPlace}
use Rattle.fit_cuts.specs.UnfitPaths.{CutsHavePlaces}
use Rattle.fit_cuts.proofs.DecidedLines.{either}
use Rattle.fit_cuts.proofs.UnfitPaths.{unfit_sides_have_paths}

-- a property that a number has if each smaller number has it
by_smaller : (P : ℕ → Type 0) → ((k : ℕ) → ((l : ℕ) → l < k → P l) → P k) → (k : ℕ) → P k
by_smaller P step k = below (suc k) k (omega arith)
  where
    below : (k l : ℕ) → l < k → P l
    below zero l h = absurd (omega arith)
    below (suc k) l h = step l (λ x less. below k x (omega arith))

module _ (m : Matrix) (T : Lines) (none : (row column : ℕ) → ¬ (IsPathPlace m T row column)) where
  first_of : (n : ℕ) → ((fewer : ℕ) → fewer < n → (i j : ℕ) → ¬ (IsFirstEdge m T fewer i j)) → (i j : ℕ) → ¬ (IsFirstEdge m T n i j)
  first_of n no_shorter = by_smaller (λ i. (j : ℕ) → ¬ (IsFirstEdge m T n i j)) (λ i no_row. by_smaller (λ j. ¬ (IsFirstEdge m T n i j)) (λ j no_column edge. none i j (record {
    n = n;
    edge = edge;
    shortest = λ fewer a b other less. no_shorter fewer less a b other;
    first = before i j no_row no_column;
  })))
    where
      before : (i j : ℕ) → ((a : ℕ) → a < i → (b : ℕ) → ¬ (IsFirstEdge m T n a b)) → ((b : ℕ) → b < j → ¬ (IsFirstEdge m T n i b))
          → (a b : ℕ) → IsFirstEdge m T n a b → ¬ (IsBefore (a ∷ b ∷ []) (i ∷ j ∷ []))
      before i j no_row no_column a b other (inl less) = no_row a less b other
      before i j no_row no_column a b other (inr (same, inl less)) = no_column b less (subst (λ (x : ℕ). IsFirstEdge m T n x b) same other)
      before i j no_row no_column a b other (inr (same, inr h)) = h.1

  pub no_place_no_path : HasNoPath m T
  no_place_no_path = by_smaller (λ n. (i j : ℕ) → ¬ (IsFirstEdge m T n i j)) first_of

pub cuts_have_places : CutsHavePlaces
cuts_have_places m T small squares no_two cut not_both none = either (IsFit m T) go
  where
    other : IsFit m T → IsFit m (opposite T) ⊎ (¬ (IsFit m (opposite T))) → ⊥
    other fit (inl both) = not_both (record { one = fit; two = both })
    other fit (inr unfit) = unfit_sides_have_paths m (opposite T) small squares no_two (other_is_cut m T cut) unfit (no_place_no_path m (opposite T) (λ r c place. none r c (inr (fit, unfit, place))))

    go : IsFit m T ⊎ (¬ (IsFit m T)) → ⊥
    go (inl fit) = either (IsFit m (opposite T)) (other fit)
    go (inr unfit) = unfit_sides_have_paths m T small squares no_two cut unfit (no_place_no_path m T (λ r c place. none r c (inl (unfit, place))))
