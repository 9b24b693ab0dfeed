-- What a node says in the first case that applies keeps the rules.
use Rattle.std.proofs.Common.{◌≡◌, ◌<◌, ◌≤◌, ◌+◌, ◌∙◌, ◌⊎◌, inl, inr, ℕ, zero, suc, ℤ, false, List, length, map, Option, Some, None, refl, ap, sym, subst, arith}
use Rattle.std.proofs.lemmas.Bool.{cases_lt}
use Rattle.std.proofs.lemmas.List.{length-map}
use Rattle.std.specs.Prelude.{IsSome}
use Rattle.std.specs.List.{AllByRecursion}
use Rattle.cmr_base.specs.declared.line.Line.{Line}
use Rattle.cmr_base.specs.declared.line.Line.TheVariants as line
use Rattle.cmr_base.specs.declared.line.Step.{Step}
use Rattle.cmr_base.specs.declared.line_set.LineSet.{LineSet}
use Rattle.cmr_base.specs.declared.separation.Two.{Two}
use Rattle.cmr_base.specs.declared.separation.Three.{Three}
use Rattle.cmr_base.specs.Matrix.{Matrix, height, entry, IsMatrix}
use Rattle.cmr_base.specs.LineSets.{IsRowSet, IsColumnSet, first_lines}
use Rattle.cmr_base.specs.CyclePlaces.{HasNoCycleFault}
use Rattle.cmr_base.specs.Reductions.{HasLine, line_reason, lines_of, first_step, removal_on, removal}
use Rattle.cmr_base.specs.Separations.{listed, IsTwoSeparation, IsThreeSeparation}
use Rattle.two_sep.specs.FirstSeeds.{IsFirstTwoSeparation}
use Rattle.three_sep.specs.ThreeSeparations.{IsFirstThreeSeparation}
use Rattle.tree_type.specs.Sides.{sides, HaveLines, IsReference, AreTwoBlocks, AreConnectorsOfSides, HasCornerSign, AreThreeBlocks}
use Rattle.cmr_base.specs.Violator.{IsViolator, IsLeastViolator}
use Rattle.cmr_base.proofs.ListsWithout.{in_from_contains}
use Rattle.cmr_base.proofs.RemovedLines.{among_from_has_line, first_lines_increase, first_lines_in}
use Rattle.cmr_base.proofs.IncreasingLists.{row_set_increases, column_set_increases, increasing_below}
use Rattle.camion_sign.proofs.FaultViolator.{cycle_fault_violator}
use Rattle.sp_reduce.proofs.Orders.{search_none, after_step}
use Rattle.tree_type.specs.Invariant.{AreLines}
use Rattle.tree_type.specs.declared.refusal.Rule.{Rule}
use Rattle.tree_type.specs.declared.refusal.Rule.TheVariants as rule
use Rattle.tree_type.specs.DecompositionTrees.{Finding, Empty, Cycle, Reduced, OneSum, Network, Conetwork, R10, TwoSum, ThreeSum, Enumerated, Violator, Undecided}
use Rattle.tree_type.specs.Soundness.{part, AreReductions, AreApart, Demands}
use Rattle.tree_type.proofs.PlacedLines.{part_is}
use Rattle.decomp_tree.specs.Shapes.{Case, HasNoLines, HasFault, IsReducible, IsApart, IsNetwork, IsConetwork, IsR10Matrix, IsTwoSum, IsThreeSum, IsShort, IsLeft, case_number, Applies, IsFirstCase, NodeSays, numbered, numbered_line, set_in, two_in, three_in, finding_in, HasParts}
use Rattle.decomp_tree.proofs.Numbered.{height_in, violator_in, named_all}
use Rattle.decomp_tree.proofs.Separated.{side, named_side, two_short, two_reference, two_blocks, three_short, three_connectors, three_corner, three_blocks}
use Rattle.decomp_tree.proofs.Removed.{removed}
use Rattle.decomp_tree.proofs.Apart.{parts_apart}

-- where a line is reducible something is removed
pub some_removed : (M : ℕ → ℕ → ℤ) (fuel : ℕ) (R C : List ℕ) (l : Line) → 0 < fuel → HasLine R C l → IsSome (line_reason false M R C l) → 0 < length (removal_on false M fuel R C).steps
some_removed M zero R C l low has some = absurd (omega (arith, low))
some_removed M (suc n) R C l low has some = go (first_step false M R C (lines_of R C)) refl
  where
    go : (o : Option Step) → first_step false M R C (lines_of R C) ≡ o → 0 < length (after_step false M n R C o).steps
    go None e = absurd (search_none false M R C (lines_of R C) e l (among_from_has_line l R C has) some)
    go (Some step) e = omega arith

pub some_line : (rows columns : ℕ) (l : Line) → HasLine (first_lines rows) (first_lines columns) l → 0 < rows + columns
some_line rows columns (line.Row r) h = let l = first_lines_in rows r (in_from_contains (first_lines rows) r h) in omega (arith, l)
some_line rows columns (line.Column c) h = let l = first_lines_in columns c (in_from_contains (first_lines columns) c h) in omega (arith, l)

module _ (limit : ℕ) (few : limit ≤ 24) (m : Matrix) (is : IsMatrix m) (lines : LineSet) (are : AreLines m lines) where
  low_rows : (R : List ℕ) → IsRowSet (part m lines) R → AllByRecursion (λ r. r < length lines.rows) R
  low_rows R set = subst (λ k. AllByRecursion (λ r. r < k) R) (height_in m lines) (increasing_below 0 (height (part m lines)) R (row_set_increases (part m lines) R set))

  low_columns : (C : List ℕ) → IsColumnSet (part m lines) C → AllByRecursion (λ c. c < length lines.columns) C
  low_columns C set = increasing_below 0 (length lines.columns) C (column_set_increases (part m lines) C set)

  pub reductions : (steps : List Line) → steps ≡ map (λ step. step.line) (removal false (part m lines)).steps → Applies limit (part m lines) IsReducible
      → (0 < length (map (numbered_line lines) steps)) × AreReductions (entry m) lines.rows lines.columns (map (numbered_line lines) steps)
  reductions steps e (l, has, some) = (
    (let a = some_removed (entry (part m lines)) (height (part m lines) + length lines.columns) (first_lines (height (part m lines))) (first_lines (length lines.columns)) l (some_line (height (part m lines)) (length lines.columns) l has) has some in
        let b = length-map (removal false (part m lines)).steps (λ step. step.line) in
        let c = length-map steps (numbered_line lines) in
        omega (arith, a, b, c, ap length e)),
    subst (λ s. AreReductions (entry m) lines.rows lines.columns (map (numbered_line lines) s)) (sym e)
        (subst (λ rows. AreReductions (entry m) rows lines.columns (map (numbered_line lines) (map (λ step. step.line) (removal false (part m lines)).steps))) (ap (λ k. map (numbered lines.rows) (first_lines k)) (height_in m lines) ∙ named_all lines.rows)
        (subst (λ columns. AreReductions (entry m) (map (numbered lines.rows) (first_lines (height (part m lines)))) columns (map (numbered_line lines) (map (λ step. step.line) (removal false (part m lines)).steps))) (named_all lines.columns)
        (removed m lines are (height (part m lines) + length lines.columns) (first_lines (height (part m lines))) (first_lines (length lines.columns)) (record {
          rows_increase = first_lines_increase (height (part m lines));
          columns_increase = first_lines_increase (length lines.columns);
          rows_low = λ r h. let l = first_lines_in (height (part m lines)) r h in omega (arith, l, height_in m lines);
          columns_low = λ c h. first_lines_in (length lines.columns) c h;
        })))),
  )

  module _ (two : Two) (found : IsFirstTwoSeparation (part m lines) two) where
    side_is : set_in lines two.side ≡ side m lines are (listed two.side.rows two.side.columns)
    side_is = named_side m lines are two.side found.row_set found.column_set

    pub separated_two : IsTwoSeparation (entry (part m lines)) (first_lines (length lines.rows)) (first_lines (length lines.columns)) (listed two.side.rows two.side.columns) two.row two.column
    separated_two = subst (λ k. IsTwoSeparation (entry (part m lines)) (first_lines k) (first_lines (length lines.columns)) (listed two.side.rows two.side.columns) two.row two.column) (height_in m lines) found.separates

    pub short_two : HaveLines 2 (sides lines (two_in lines two).side)
    short_two = subst (λ s. HaveLines 2 (sides lines s)) (sym side_is) (two_short m lines are two.row two.column (listed two.side.rows two.side.columns) separated_two)

    pub reference_two : IsReference (entry m) (sides lines (two_in lines two).side) (two_in lines two).row (two_in lines two).column
    reference_two = subst (λ s. IsReference (entry m) (sides lines s) (numbered lines.rows two.row) (numbered lines.columns two.column)) (sym side_is) (two_reference m lines are two.row two.column (listed two.side.rows two.side.columns) separated_two)

    pub blocks_two : AreTwoBlocks (entry m) (sides lines (two_in lines two).side) (two_in lines two).row (two_in lines two).column
    blocks_two = subst (λ s. AreTwoBlocks (entry m) (sides lines s) (numbered lines.rows two.row) (numbered lines.columns two.column)) (sym side_is) (two_blocks m lines are two.row two.column (listed two.side.rows two.side.columns) separated_two)

  -- the rules of a three-sum
  pub record KeepsThree (t : Three) : Type 0 where
    pub short : HaveLines 4 (sides lines (three_in lines t).side)
    pub joined : AreConnectorsOfSides (entry m) (sides lines (three_in lines t).side) (three_in lines t)
    pub corner : HasCornerSign (entry m) (three_in lines t)
    pub blocks : AreThreeBlocks (entry m) (sides lines (three_in lines t).side) (three_in lines t)

  pub keeps_three : (t : Three) → HasNoCycleFault (entry (part m lines)) → IsFirstThreeSeparation (part m lines) t → KeepsThree t
  keeps_three t no_fault found =
      let S = listed t.side.rows t.side.columns in
      let e = named_side m lines are t.side found.row_set found.column_set in
      let w = subst (λ k. IsThreeSeparation (entry (part m lines)) (first_lines k) (first_lines (length lines.columns)) S t.form t.first t.second) (height_in m lines) found.separates in
      record {
        short = three_short m lines are t S e w;
        joined = three_connectors m lines are t S e w;
        corner = three_corner m lines are t S e w no_fault (part_is m lines is are);
        blocks = three_blocks m lines are t S e w;
      }

  no_fault : (case : Case) → IsFirstCase limit (part m lines) case → case_number HasFault < case_number case → HasNoCycleFault (entry (part m lines))
  no_fault case first l t c d path fault = first.first HasFault l (t, c, d, path, fault)

  pub least_violator : (R C : List ℕ) → IsLeastViolator (part m lines) R C → IsRowSet (part m lines) R × IsColumnSet (part m lines) C × IsViolator (entry (part m lines)) R C
  least_violator R C least = go (cases_lt (length lines.columns) (height (part m lines)))
    where
      go : (length lines.columns < height (part m lines)) ⊎ (height (part m lines) ≤ length lines.columns)
          → IsRowSet (part m lines) R × IsColumnSet (part m lines) C × IsViolator (entry (part m lines)) R C
      go (inl l) = let w = least.few_columns l in (w.rows_least.row_set, w.column_set, w.rows_least.violator)
      go (inr l) = let w = least.few_rows l in (w.row_set, w.columns_least.column_set, w.columns_least.violator)

  violator_named : (R C : List ℕ) → IsRowSet (part m lines) R → IsColumnSet (part m lines) C → IsViolator (entry (part m lines)) R C
      → IsViolator (entry m) (map (numbered lines.rows) R) (map (numbered lines.columns) C)
  violator_named R C rows columns v = violator_in m lines R C (low_rows R rows) (low_columns C columns) v

  pub keeps : (case : Case) (found : Finding) (parts children : List LineSet) → IsFirstCase limit (part m lines) case → NodeSays case (part m lines) found parts
      → HasParts (finding_in lines found) children (map (set_in lines) parts)
      → (broken : Rule) → Demands broken m lines (finding_in lines found) children
  keeps HasNoLines Empty parts children first says has rule.NotEmpty = let a = first.applies.0 in let b = first.applies.1 in omega (arith, a, b, height_in m lines)
  keeps HasNoLines Empty parts children first says has _ = tt
  keeps HasFault (Cycle fault) parts children first says has rule.NotViolator =
      violator_named fault.rows fault.columns says.row_set says.column_set (cycle_fault_violator (part m lines) (part_is m lines is are) fault.rows fault.columns says)
  keeps HasFault (Cycle fault) parts children first says has _ = tt
  keeps IsReducible (Reduced steps) parts children first says has rule.NotReducible = reductions steps says first.applies
  keeps IsReducible (Reduced steps) parts children first says has _ = tt
  keeps IsApart OneSum parts children first says has rule.NotApart = subst (AreApart (entry m) lines) (sym has) (parts_apart m lines are parts says.0 says.1)
  keeps IsApart OneSum parts children first says has _ = tt
  keeps IsNetwork (Network net) parts children first says has rule.NotNetwork = says
  keeps IsNetwork (Network net) parts children first says has _ = tt
  keeps IsConetwork (Conetwork net) parts children first says has rule.NotNetwork = says
  keeps IsConetwork (Conetwork net) parts children first says has _ = tt
  keeps IsR10Matrix R10 parts children first says has rule.NotR10 = first.applies
  keeps IsR10Matrix R10 parts children first says has rule.CycleFault = no_fault IsR10Matrix first (omega arith)
  keeps IsR10Matrix R10 parts children first says has _ = tt
  keeps IsTwoSum (TwoSum two) parts children first says has rule.TooShort = short_two two says
  keeps IsTwoSum (TwoSum two) parts children first says has rule.BadConnector = reference_two two says
  keeps IsTwoSum (TwoSum two) parts children first says has rule.BadBlock = blocks_two two says
  keeps IsTwoSum (TwoSum two) parts children first says has _ = tt
  keeps IsThreeSum (ThreeSum t) parts children first says has rule.TooShort = (keeps_three t (no_fault IsThreeSum first (omega arith)) says).short
  keeps IsThreeSum (ThreeSum t) parts children first says has rule.BadConnector = (keeps_three t (no_fault IsThreeSum first (omega arith)) says).joined
  keeps IsThreeSum (ThreeSum t) parts children first says has rule.CornerSign = (keeps_three t (no_fault IsThreeSum first (omega arith)) says).corner
  keeps IsThreeSum (ThreeSum t) parts children first says has rule.BadBlock = (keeps_three t (no_fault IsThreeSum first (omega arith)) says).blocks
  keeps IsThreeSum (ThreeSum t) parts children first says has _ = tt
  keeps IsShort (Violator fault) parts children first says has rule.NotViolator = let w = least_violator fault.rows fault.columns says in violator_named fault.rows fault.columns w.0 w.1 w.2
  keeps IsShort (Violator fault) parts children first says has _ = tt
  keeps IsShort Enumerated parts children first says has rule.TooMany = let a = first.applies in omega (arith, a, few, height_in m lines)
  keeps IsShort Enumerated parts children first says has rule.NotClean = says
  keeps IsShort Enumerated parts children first says has _ = tt
  keeps IsLeft Undecided parts children first says has rule.Size = tt
  keeps IsLeft Undecided parts children first says has _ = tt
  keeps case found parts children first says has broken = absurd says
