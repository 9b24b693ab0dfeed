use Rattle.std.proofs.Common.{◌+◌, ◌∙◌, sym, length, arith}
use Rattle.std.proofs.lemmas.List.{nil_from_length}
use Rattle.cmr_base.specs.Matrix.{entry}
use Rattle.sp_reduce.proofs.NeededLines.{no_steps, none_more}
use Rattle.sp_reduce.proofs.needed.has_reducible.Goals as goal

pub returns : goal.returns
returns c = λ e some.
    let lines = c.args.lines.now in
    let steps = c.in_ok-reduction.ensures.steps in
    no_steps c.args.binary (entry c.args.matrix.now) (length lines.rows + length lines.columns) lines.rows lines.columns (omega (arith, some)) (sym steps ∙ nil_from_length c.in_ok-reduction.reduction.steps (sym c.len.ensures ∙ none_more c.len.result e))
