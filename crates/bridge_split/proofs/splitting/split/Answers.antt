use Rattle.std.proofs.Common.{◌≡◌, ◌∙◌, List, ℕ, sym, ap, subst}
use Rattle.std.proofs.lemmas.Option.{MatchOption-at_none, MatchOption-at_some}
use Rattle.cmr_base.specs.LineSets.{AllBelow, first_lines}
use Rattle.cmr_base.specs.Matrix.{height}
use Rattle.cmr_base.specs.Splits.{Splits}
use Rattle.cmr_base.specs.Trees.{support}
use Rattle.cmr_base.proofs.LineSetLemmas.{first_below}
use Rattle.bridge_split.specs.SplitCases.{IsFirstWithThree}
use Rattle.bridge_split.proofs.splitting.split.Goals as goal

all_below : (count bound : ℕ) (rows : List ℕ) → rows ≡ first_lines count → count ≡ bound → AllBelow bound rows
all_below count bound rows e f = subst (AllBelow bound) (sym (e ∙ ap first_lines f)) (first_below bound)

pub first_column_with_three-requires : goal.first_column_with_three-requires
first_column_with_three-requires c = all_below c.rows.result (height c.args.matrix.now) c.in_ok-lines.lines.rows c.in_ok-lines.ensures.rows c.rows.ensures.rows

pub first_splitting_row-requires-clause-rows : goal.first_splitting_row-requires-clause-rows
first_splitting_row-requires-clause-rows c =
    all_below c.rows.result (height c.args.matrix.now) c.as_slice.result.now (c.as_slice.ensures.items ∙ c.in_ok-lines.ensures.rows) c.rows.ensures.rows

pub with_sides-requires-clause-rows : goal.with_sides-requires-clause-rows
with_sides-requires-clause-rows c = all_below c.rows.result (height c.args.matrix.now) c.in_ok-lines.lines.rows c.in_ok-lines.ensures.rows c.rows.ensures.rows

pub returns-in-None-2 : goal.returns-in-None-2
returns-in-None-2 c =
    let M = support c.args.matrix.now in
    let all = c.in_ok-lines.ensures.rows ∙ ap first_lines c.rows.ensures.rows in (
      subst (λ (rows : List ℕ). IsFirstWithThree M rows c.in-Some.column) all (MatchOption-at_some _ _ c.in-Some.column c.in-Some.is c.in_ok-first_column_with_three.ensures),
      subst (λ (rows : List ℕ). (row : ℕ) → ¬ (Splits M rows row)) (c.as_slice.ensures.items ∙ all) (MatchOption-at_none _ _ c.in-None-2.is c.in_ok-first_splitting_row-in-Some.ensures),
    )
