use Rattle.std.proofs.Common.{◌+◌, ◌∙◌, ◌∷◌, [], ap, sym, subst, ℕ, arith}
use Rattle.cmr_base.specs.declared.line.Line.TheVariants.{Column, Row}
use Rattle.cmr_base.specs.Matrix.{entry}
use Rattle.cmr_base.specs.Separations.{product_at, zeros}
use Rattle.cmr_base.proofs.Booleans.{not_both}
use Rattle.line_growth.specs.declared.growing_set.GrowingSet.{GrowingSet}
use Rattle.line_growth.specs.declared.rule.GrowthRule.{GrowthRule}
use Rattle.line_growth.specs.GrowingSets.{DecidesLeaving, HasNoLeaving, IsGrowing, IsSizedFor, set_of}
use Rattle.line_growth.specs.Rules.{IsRuleOf, exchanged, lower_of, upper_of}
use Rattle.line_growth.proofs.SetSteps.{decided_no, decided_yes, still_sized}
use Rattle.two_sep.specs.FirstSeeds.{seed_rule}
use Rattle.two_sep.proofs.SeedSteps.{bad_backwards, column_not_good, first_found, none_good, not_good, row_not_good, seeds_more}
use Rattle.two_sep.proofs.seeds.first_good_side.Goals as goal
use Rattle.two_sep.proofs.seeds.first_good_side.Goals.{then-place-row+then-place-rows+then-not-has+in_ok-start+in_ok-close+else-branch+in_ok-start-2+in_ok-close-2, else-place-row, else-place-row-via-then-place-row+then-place-rows+else-not-has, else-place-row-via-then-place-row+else-place-rows, else-place-row-via-else-place-row}

pub loop-place-init : goal.loop-place-init
loop-place-init c =
    let bad = c.in_ok-bad.bad in
    let new = c.in_ok-bad.ensures in record {
      side_size = c.in_ok-side.ensures.size;
      bad_size = new.size;
      before = λ y l low. absurd (omega (arith, low));
      pulled = λ y l e. absurd (not_both (set_of bad y) e (new.none y));
    }

pub close-requires-clause-rule : goal.close-requires-clause-rule
close-requires-clause-rule c = subst (λ (r : GrowthRule). IsRuleOf c.args.matrix.now r) (sym c.rule_at-rule.ensures) (record { upper = tt; lower = (c.requires.row, c.requires.column) })

pub close-requires-then-not-has-clause-rule : goal.close-requires-then-not-has-clause-rule
close-requires-then-not-has-clause-rule c = subst (λ (r : GrowthRule). IsRuleOf c.args.matrix.now r) (sym (c.exchanged.ensures ∙ ap exchanged c.rule_at-rule.ensures)) (record { upper = (c.requires.row, c.requires.column); lower = tt })

pub returns-then-branch : goal.returns-then-branch
returns-then-branch c =
    let m = c.args.matrix.now in
    let i = c.args.row in
    let j = c.args.column in
    let seed = c.line_at-seed in
    let start = seed.result ∷ Column j ∷ [] in
    let decided = subst (λ (r : GrowthRule). DecidesLeaving m r start (Row i ∷ []) 2 c.in_ok-close.field-0 (set_of c.close.new.self)) c.rule_at-rule.ensures
    (c.in_ok-close.ensures.closed start (c.in_ok-start.ensures.growing _ _ _)) in (
      still_sized m c.start.new.self c.close.new.self (still_sized m c.loop-place.side c.start.new.self c.loop-place.invariant.side_size c.start.ensures.size) c.close.ensures.size,
      first_found m i j c.requires.row c.requires.column c.requires.nonzero c.loop-place.place seed.result seed.ensures.line seed.ensures.number c.loop-place.invariant.before c.if-place-row.true
          (λ e. c.if-place-rows.true (e ∙ ap (λ (k : ℕ). k + j) (sym c.rows-rows.ensures.rows))) (set_of c.close.new.self) (decided_yes m (seed_rule i j) start (Row i ∷ []) 2 c.in_ok-close.field-0 (set_of c.close.new.self) decided c.if-branch.true),
    )

pub loop-place-preserved : goal.loop-place-preserved
loop-place-preserved c =
    let m = c.args.matrix.now in
    let i = c.args.row in
    let j = c.args.column in
    let place = c.loop-place.place in
    let so = c.loop-place.invariant in
    let seed = c.line_at-seed in
    let rows = c.rows-rows.ensures.rows in
    let start = seed.result ∷ Column j ∷ [] in
    elim c.if-place-row.branch [
      | then-place-row+then-place-rows+then-not-has+in_ok-start+in_ok-close+else-branch+in_ok-start-2+in_ok-close-2 w ↦
          let decided = subst (λ (r : GrowthRule). DecidesLeaving m r start (Row i ∷ []) 2 w.in_ok-close.field-0 (set_of w.close.new.self)) c.rule_at-rule.ensures
          (w.in_ok-close.ensures.closed start (w.in_ok-start.ensures.growing _ _ _)) in
          let none : HasNoLeaving m (seed_rule i j) start (Row i ∷ []) 2 = decided_no m (seed_rule i j) start (Row i ∷ []) 2 w.in_ok-close.field-0 (set_of w.close.new.self) decided w.if-branch.false in
          let bad = w.close-then-not-has.new.self in
          let pulled : IsGrowing m (product_at (entry m) i j) zeros (seed.result ∷ []) bad =
          subst (λ (r : GrowthRule). IsGrowing m (upper_of m r) (lower_of m r) (seed.result ∷ []) bad) (w.exchanged.ensures ∙ ap exchanged c.rule_at-rule.ensures) (w.in_ok-close-2.ensures.growing (seed.result ∷ []) (w.in_ok-start-2.ensures.growing _ _ _)) in
          record {
            side_size = subst (λ (z : GrowingSet). IsSizedFor m z) (sym w.side-is) (still_sized m w.start.new.self w.close.new.self (still_sized m c.loop-place.side w.start.new.self so.side_size w.start.ensures.size) w.close.ensures.size);
            bad_size = subst (λ (z : GrowingSet). IsSizedFor m z) (sym w.bad-is) (still_sized m w.start-then-not-has.new.self bad (still_sized m c.loop-place.bad w.start-then-not-has.new.self so.bad_size w.start-then-not-has.ensures.size) w.close-then-not-has.ensures.size);
            before = seeds_more m i j c.requires.row c.requires.column c.requires.nonzero place seed.result seed.ensures.line seed.ensures.number so.before
                (not_good m i j c.requires.row c.requires.column c.requires.nonzero place seed.result seed.ensures.line seed.ensures.number none);
            pulled = λ y l e. bad_backwards m i j c.requires.row c.requires.column c.requires.nonzero place seed.result seed.ensures.line seed.ensures.number none bad pulled y l (ap (λ (z : GrowingSet). set_of z y) (sym w.bad-is) ∙ e);
          }
      | else-place-row w ↦ record {
        side_size = subst (λ (z : GrowingSet). IsSizedFor m z) (sym w.side-is) so.side_size;
        bad_size = subst (λ (z : GrowingSet). IsSizedFor m z) (sym w.bad-is) so.bad_size;
        before = seeds_more m i j c.requires.row c.requires.column c.requires.nonzero place seed.result seed.ensures.line seed.ensures.number so.before
            (elim w.else-place-row.branch [
              | else-place-row-via-then-place-row+then-place-rows+else-not-has w' ↦ so.pulled seed.result seed.ensures.line (sym w'.has.ensures ∙ w'.if-not-has.false)
              | else-place-row-via-then-place-row+else-place-rows w' ↦
                  column_not_good m i j c.requires.row c.requires.column c.requires.nonzero place seed.result seed.ensures.line seed.ensures.number (w'.if-place-rows.false ∙ ap (λ (k : ℕ). k + j) rows)
              | else-place-row-via-else-place-row w' ↦ row_not_good m i j c.requires.row c.requires.column c.requires.nonzero place seed.result seed.ensures.line seed.ensures.number w'.if-place-row.false
            ]);
        pulled = λ y l e. so.pulled y l (ap (λ (z : GrowingSet). set_of z y) (sym w.bad-is) ∙ e);
      }
    ]

pub returns : goal.returns
returns c =
    let m = c.args.matrix.now in
    let rows = c.rows-rows.ensures.rows in
    let columns = c.columns.ensures.columns in
    none_good m c.args.row c.args.column c.requires.row c.requires.column c.requires.nonzero c.loop-place.place (let a = c.loop-place-test.false in omega arith) c.loop-place.invariant.before
