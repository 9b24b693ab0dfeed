-- A side, and a cut, has one position at most.
use Rattle.std.proofs.Common.{◌≡◌, inl, inr, ℕ, sym, subst, Option, Some, None}
use Rattle.std.specs.Option.{MatchOption}
use Rattle.cmr_base.specs.Matrix.{Matrix}
use Rattle.cmr_base.specs.Separations.{Lines, opposite}
use Rattle.cmr_base.proofs.Booleans.{neither}
use Rattle.path_places.specs.PathPlaces.{HasNoCutPlace, HasNoPath, IsCutPlace, IsFirstEdge, IsFit, IsPathPlace}

pub path_place_is_one : (m : Matrix) (side : Lines) (row column i j : ℕ) → IsPathPlace m side row column → IsPathPlace m side i j → (row ≡ i) × (column ≡ j)
path_place_is_one m side row column i j one two = same (neither one.n two.n (two.shortest one.n row column one.edge) (one.shortest two.n i j two.edge))
  where
    same : one.n ≡ two.n → (row ≡ i) × (column ≡ j)
    same e =
        let there = one.first i j (subst (λ (n : ℕ). IsFirstEdge m side n i j) (sym e) two.edge) in
        let here = two.first row column (subst (λ (n : ℕ). IsFirstEdge m side n row column) e one.edge) in
        let rows : row ≡ i = neither row i (λ l. here (inl l)) (λ l. there (inl l)) in
        (rows, neither column j (λ l. here (inr (rows, inl l))) (λ l. there (inr (sym rows, inl l))))

pub cut_place_is_one : (m : Matrix) (side : Lines) (row column i j : ℕ) → IsCutPlace m side row column → IsCutPlace m side i j → (row ≡ i) × (column ≡ j)
cut_place_is_one m side row column i j (inl one) (inl two) = path_place_is_one m side row column i j one.1 two.1
cut_place_is_one m side row column i j (inl one) (inr two) = absurd (one.0 two.0)
cut_place_is_one m side row column i j (inr one) (inl two) = absurd (two.0 one.0)
cut_place_is_one m side row column i j (inr one) (inr two) = path_place_is_one m (opposite side) row column i j one.2 two.2

-- ---- where a cut has no position

module _ (m : Matrix) (side : Lines) where
  pub none_in_one : ¬ (IsFit m side) → HasNoPath m side → HasNoCutPlace m side
  none_in_one unfit none i j (inl h) = none h.1.n i j h.1.edge
  none_in_one unfit none i j (inr h) = unfit h.0

  pub none_in_two : IsFit m side → HasNoPath m (opposite side) → HasNoCutPlace m side
  none_in_two fit none i j (inl h) = h.0 fit
  none_in_two fit none i j (inr h) = none h.2.n i j h.2.edge

  pub none_if_fit : IsFit m side → IsFit m (opposite side) → HasNoCutPlace m side
  none_if_fit fit other i j (inl h) = h.0 fit
  none_if_fit fit other i j (inr h) = h.1 other

-- what a value, or its absence, says in other words
pub option_weaker : {T : Type 0} (found : Option T) (A B : Type 0) (P Q : T → Type 0) → (A → B) → ((x : T) → P x → Q x) → MatchOption found A P → MatchOption found B Q
option_weaker None A B P Q f g h = f h
option_weaker (Some x) A B P Q f g h = g x h
