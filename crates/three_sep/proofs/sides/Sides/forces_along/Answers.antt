use Rattle.std.proofs.Common.{◌∙◌, subst, arith}
use Rattle.cmr_base.proofs.SmallEntries.{entry_as_byte}
use Rattle.three_sep.specs.TiedLines.{Forces}
use Rattle.three_sep.proofs.KeptSideLemmas.{kept_twice}
use Rattle.three_sep.proofs.TiedLemmas.{along_more}
use Rattle.three_sep.proofs.sides.Sides.forces_along.Goals as goal

pub returns-then-not-branch-clause-growing : goal.returns-then-not-branch-clause-growing
returns-then-not-branch-clause-growing c = λ start g. (rw c.tied.invariant.kept.matrix at c.in_ok-forces_if_zero.ensures.growing) start (c.tied.invariant.growing start g)

pub tied-preserved : goal.tied-preserved
tied-preserved c =
    let matrix = c.args.self.now.matrix.now in
    let growing = rw c.tied.invariant.kept.matrix at c.in_ok-forces_if_zero.ensures.growing in
    let forced = rw c.tied.invariant.kept.matrix at c.in_ok-forces_if_zero.ensures.forced in
    record {
      from_in = let small = c.in-Some.ensures.small in omega arith;
      kept = kept_twice c.args.self.now c.tied.self c.forces_if_zero.new.self c.tied.invariant.kept c.in_ok-forces_if_zero.ensures.kept;
      growing = λ start g. growing start (c.tied.invariant.growing start g);
      forced = λ start g.
          along_more matrix c.args.rule start c.args.lines.now c.args.own c.args.across c.args.flat c.tied.from (c.tied.invariant.forced start g) c.in-Some.other c.in-Some.ensures.first.3
          (λ zero. subst (Forces matrix c.args.rule start) c.line_of.ensures
          (forced c.if-not-branch.false (entry_as_byte c.entry.result c.entry.ensures.small ∙ c.entry.ensures.value ∙ zero) start (c.tied.invariant.growing start g)));
    }
