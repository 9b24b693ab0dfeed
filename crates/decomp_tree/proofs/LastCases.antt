-- A submatrix that reaches the last case is not zero. If no pivot of it has a 2, a -2 or a cut, it has no three-separation of any kind.
use Rattle.std.proofs.Common.{◌≡◌, ◌≢◌, ◌<◌, ◌∙◌, inl, inr, ℕ, ℤ, pos, false, Option, None, IsSome, Contains, List, get_or, length, map, subst, arith}
use Rattle.std.specs.Prelude.{IfNone}
use Rattle.std.proofs.lemmas.Bool.{cases_lt}
use Rattle.std.proofs.lemmas.List.{length-map}
use Rattle.cmr_base.specs.declared.line.Line.{Line}
use Rattle.cmr_base.specs.declared.line.Line.TheVariants.{Row, Column}
use Rattle.cmr_base.specs.declared.line_set.LineSet.{LineSet}
use Rattle.cmr_base.specs.LineSets.{first_lines}
use Rattle.cmr_base.specs.Matrix.{Matrix, height, entry, IsMatrix}
use Rattle.cmr_base.specs.Reductions.{first_reason}
use Rattle.cmr_base.proofs.ListedLines.{contains_first_lines, first_lines_contain}
use Rattle.cmr_base.proofs.ListsWithout.{contains_from_in, in-get_or}
use Rattle.cmr_base.proofs.Parts.{entry-submatrix}
use Rattle.cmr_base.proofs.ReducibleLines.{reason_from_reducible}
use Rattle.cmr_base.proofs.RemovedLines.{first_lines_increase}
use Rattle.pivots.specs.declared.drawn.DrawnPlace.{DrawnPlace}
use Rattle.pivots.specs.DrawnPlaces.{drawn_place}
use Rattle.pivots.proofs.DrawnPlaces.{none_drawn}
use Rattle.two_sep.proofs.ApartSets.{two_parts}
use Rattle.block_ranks.specs.BlockRanks.{HasNoRankSeparation}
use Rattle.block_ranks.specs.PlacesBeforeCuts.{HasNoPlaceBeforeCut}
use Rattle.block_ranks.proofs.RankSeparations.{no_place_means_no_separation}
use Rattle.tree_type.specs.Invariant.{AreLines}
use Rattle.tree_type.specs.Soundness.{part}
use Rattle.tree_type.proofs.PlacedLines.{part_is}
use Rattle.decomp_tree.specs.Shapes.{HasNoLines, IsReducible, IsApart, IsLeft, IsFirstCase}

-- ---- a zero submatrix

zero_reason : (M : ℕ → ℕ → ℤ) (kind cross : ℕ → Line) (lines : List ℕ) (n i : ℕ) → ((j : ℕ) → j < n → M i j ≡ pos 0) → IsSome (first_reason false M kind cross lines (first_lines n) i)
zero_reason M kind cross lines n i zero =
    reason_from_reducible false M kind cross lines (first_lines n) i (first_lines_increase n) (inl (λ x y x_in y_in x_nonzero y_nonzero. absurd (x_nonzero (zero x (first_lines_contain n x (contains_from_in (first_lines n) x x_in))))))

zero_decided : (limit : ℕ) (n : Matrix) → ((i j : ℕ) → i < height n → j < n.width → entry n i j ≡ pos 0) → ¬ (IsFirstCase limit n IsLeft)
zero_decided limit n zero case = elim (cases_lt 0 (height n)) [
  | inl some ↦ case.first IsReducible (omega arith) (Row 0, contains_first_lines (height n) 0 some, zero_reason (entry n) Row Column (first_lines (height n)) n.width 0 (λ j l. zero 0 j some l))
  | inr no_row ↦ elim (cases_lt 0 n.width) [
    | inl some ↦ case.first IsReducible (omega arith) (Column 0, contains_first_lines n.width 0 some, zero_reason (λ j i. entry n i j) Column Row (first_lines n.width) (height n) 0 (λ i l. zero i 0 l some))
    | inr no_column ↦ case.first HasNoLines (omega arith) (omega (arith, no_row), omega (arith, no_column))
  ]
]

-- a position is drawn for each submatrix that reaches the last case
pub some_drawn : (limit state : ℕ) (m : Matrix) (lines : LineSet) → IsFirstCase limit (part m lines) IsLeft → drawn_place m lines state ≢ None
some_drawn limit state m lines case none = zero_decided limit (part m lines) zero case
  where
    zeros : (i j : ℕ) → Contains lines.rows i → Contains lines.columns j → entry m i j ≡ pos 0
    zeros = subst (λ (drawn : Option DrawnPlace). IfNone drawn ((i j : ℕ) → Contains lines.rows i → Contains lines.columns j → entry m i j ≡ pos 0)) none (none_drawn m lines state)

    zero : (i j : ℕ) → i < height (part m lines) → j < length lines.columns → entry (part m lines) i j ≡ pos 0
    zero i j i_is j_is =
        let inside : i < length lines.rows = let h = length-map lines.rows (λ row. map (entry m row) lines.columns) in omega (arith, h, i_is) in
        entry-submatrix m lines.rows lines.columns i j inside j_is
        ∙ zeros (get_or lines.rows i 0) (get_or lines.columns j 0) (contains_from_in lines.rows (get_or lines.rows i 0) (in-get_or lines.rows i inside)) (contains_from_in lines.columns (get_or lines.columns j 0) (in-get_or lines.columns j j_is))

-- ---- three-separations

-- the submatrix is connected, so it has a nonzero before a cut if it has a three-separation
pub no_separation_left : (limit : ℕ) (m : Matrix) (lines : LineSet) → IsMatrix m → AreLines m lines → IsFirstCase limit (part m lines) IsLeft
    → HasNoPlaceBeforeCut (part m lines) → HasNoRankSeparation (part m lines)
no_separation_left limit m lines is are case no_cut =
    no_place_means_no_separation (part m lines) (part_is m lines is are) (λ S apart x y x_is y_is x_in y_out. case.first IsApart (omega arith) (two_parts (part m lines) S apart x y x_is y_is x_in y_out)) no_cut
