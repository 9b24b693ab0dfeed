use Rattle.std.proofs.Common.{subst, ℕ}
use Rattle.chains.specs.ChainStates.{AllSignedBut}
use Rattle.chains.proofs.ChainChecks.{signed_violator}
use Rattle.chains.proofs.check.is_signed_violator.Goals as goal

pub returns : goal.returns
returns c =
    let a = c.args.matrix.now in
    let s = c.args.signs.now in
    let lines = c.args.lines.now in
    let inside = c.are_lines_of.ensures.inside.0 c.if-not-are_lines_of.false in
    let all = subst (λ (n : ℕ). AllSignedBut a s lines.rows lines.columns n 0) c.rows.ensures.rows (c.all_signed_but.ensures.0 c.if-not-all_signed_but.false) in (
      (λ t. signed_violator a s lines 0 c.requires.signs c.are_lines_of.ensures.rows_increase c.are_lines_of.ensures.columns_increase inside.0 inside.1 all (c.is_violator.ensures.0 t)),
      (λ v. c.is_violator.ensures.1 v.violator),
    )
