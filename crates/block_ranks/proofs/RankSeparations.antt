-- A three-separation is a cut, or a cut after a pivot.
use Rattle.std.proofs.Common.{◌≡◌, ◌+◌, ℕ, zero, suc, ℤ, true, false, not, ap, subst, arith}
use Rattle.cmr_base.specs.declared.line.Line.TheVariants.{Row, Column}
use Rattle.cmr_base.specs.LineSets.{first_lines}
use Rattle.cmr_base.specs.Matrix.{Matrix, height, entry, IsMatrix}
use Rattle.cmr_base.specs.Separations.{AreEnough, Lines, opposite}
use Rattle.cmr_base.proofs.Booleans.{not_is, not_false}
use Rattle.cmr_base.proofs.ListedLines.{first_lines_contain}
use Rattle.cmr_base.proofs.Lists.{all_weaker}
use Rattle.cuts.specs.LineCuts.{IsCut}
use Rattle.cuts.proofs.CutLemmas.{other_enough}
use Rattle.three_sep.specs.FirstCuts.{HasNoCut}
use Rattle.block_ranks.specs.BlockRanks.{HasLowerRank, HasNoRankSeparation, HasRank, HasUpperRank, is_row_of, is_column_of}
use Rattle.block_ranks.specs.Laws.{NoPlaceMeansNoSeparation}
use Rattle.block_ranks.specs.PlacesBeforeCuts.{HasNoPlaceBeforeCut}
use Rattle.block_ranks.proofs.KeptCuts.{before_if_cut, no_cut_if_connected}
use Rattle.block_ranks.proofs.RankBlocks.{product_block, two_block, zero_block}
use Rattle.block_ranks.proofs.TurnedSides.{cut_after, turned_side}

-- the same block by other tests
same_rank : (M : ℕ → ℕ → ℤ) (P Q P' Q' : ℕ → Type 0) (rank : ℕ) → ((r : ℕ) → P r → P' r) → ((r : ℕ) → P' r → P r) → ((c : ℕ) → Q c → Q' c)
    → ((c : ℕ) → Q' c → Q c) → HasRank M P Q rank → HasRank M P' Q' rank
same_rank M P Q P' Q' rank up down up' down' h = record {
  rows = h.rows;
  columns = h.columns;
  square = record { height = h.square.height; width = h.square.width; rows_in = all_weaker P P' up h.rows h.square.rows_in; columns_in = all_weaker Q Q' up' h.columns h.square.columns_in };
  regular = h.regular;
  larger = λ R C s. h.larger R C (record { height = s.height; width = s.width; rows_in = all_weaker P' P down R s.rows_in; columns_in = all_weaker Q' Q down' C s.columns_in });
}

module _ (m : Matrix) (T : Lines) (rank : ℕ) where
  -- the blocks with the sides exchanged
  lower_of_opposite : HasUpperRank m T rank → HasLowerRank m (opposite T) rank
  lower_of_opposite = same_rank (entry m) (is_row_of m T true) (is_column_of m T false) (is_row_of m (opposite T) false) (is_column_of m (opposite T) true) rank
      (λ r h. (h.0, ap not h.1)) (λ r h. (h.0, not_false (T (Row r)) h.1)) (λ c h. (h.0, ap not h.1)) (λ c h. (h.0, not_is (T (Column c)) h.1))

  upper_of_opposite : HasLowerRank m T rank → HasUpperRank m (opposite T) rank
  upper_of_opposite = same_rank (entry m) (is_row_of m T false) (is_column_of m T true) (is_row_of m (opposite T) true) (is_column_of m (opposite T) false) rank
      (λ r h. (h.0, ap not h.1)) (λ r h. (h.0, not_is (T (Row r)) h.1)) (λ c h. (h.0, ap not h.1)) (λ c h. (h.0, not_false (T (Column c)) h.1))

module _ (m : Matrix) (is : IsMatrix m) where
  -- both blocks have rank one
  cut_of_ones : (T : Lines) → AreEnough (first_lines (height m)) (first_lines m.width) T 4 → HasUpperRank m T 1 → HasLowerRank m T 1 → IsCut m T
  cut_of_ones T enough upper lower =
      let up = product_block (entry m) (is_row_of m T true) (is_column_of m T false) (λ r c hr hc. is.small r c) upper in
      let down = product_block (entry m) (is_row_of m T false) (is_column_of m T true) (λ r c hr hc. is.small r c) lower in
      record {
        corners = record { one = record { row = up.row; column = down.column }; two = record { row = down.row; column = up.column } };
        are_inside = record { row_one = up.row_in.0; column_one = down.column_in.0; row_two = down.row_in.0; column_two = up.column_in.0 };
        upper = up.nonzero;
        lower = down.nonzero;
        cut = record {
          closed = record {
            upper = λ r c hr hc er ec. up.product r c (first_lines_contain (height m) r hr, er) (first_lines_contain m.width c hc, ec);
            lower = λ r c hr hc er ec. down.product r c (first_lines_contain (height m) r hr, er) (first_lines_contain m.width c hc, ec);
          };
          row_one = up.row_in.1;
          column_one = down.column_in.1;
          row_two = down.row_in.1;
          column_two = up.column_in.1;
          enough = enough;
        };
      }

  -- one block is zero, and the other has rank two
  no_two : HasNoPlaceBeforeCut m → (T : Lines) → AreEnough (first_lines (height m)) (first_lines m.width) T 4 → HasUpperRank m T 0 → HasLowerRank m T 2 → ⊥
  no_two none T enough empty rank =
      let found = two_block (entry m) (is_row_of m T false) (is_column_of m T true) (λ r c hr hc. is.small r c) rank in
      let k = found.0 in
      let p = found.1 in
      let two = found.2 in
      before_if_cut m k p two.row_in.0 two.column_in.0 two.nonzero
      (λ ternary. (turned_side T k p, cut_after m T is.small enough (zero_block (entry m) (is_row_of m T true) (is_column_of m T false) empty) k p two ternary))
      (none (record { row = k; column = p }))

  pub no_separation : HasNoCut m → HasNoPlaceBeforeCut m → HasNoRankSeparation m
  no_separation no_cut none T s = go s.upper_rank s.lower_rank s.sum s.upper s.lower
    where
      go : (upper lower : ℕ) → upper + lower ≡ 2 → HasUpperRank m T upper → HasLowerRank m T lower → ⊥
      go zero lower e up down = no_two none T s.enough up (subst (λ (rank : ℕ). HasLowerRank m T rank) (let f : lower ≡ 2 = omega arith in f) down)
      go (suc zero) lower e up down = no_cut T (cut_of_ones T s.enough up (subst (λ (rank : ℕ). HasLowerRank m T rank) (let f : lower ≡ 1 = omega arith in f) down))
      go (suc (suc zero)) lower e up down =
          no_two none (opposite T) (other_enough m T 4 s.enough)
          (upper_of_opposite m T 0 (subst (λ (rank : ℕ). HasLowerRank m T rank) (let f : lower ≡ 0 = omega arith in f) down)) (lower_of_opposite m T 2 up)
      go (suc (suc (suc upper))) lower e up down = absurd (omega arith)

pub no_place_means_no_separation : NoPlaceMeansNoSeparation
no_place_means_no_separation m is connected none = no_separation m is (no_cut_if_connected m is none connected) none
