use Rattle.std.proofs.Common.{◌∙◌, sym, arith}
use Rattle.std.proofs.lemmas.Bool.{false≢true}
use Rattle.balance.proofs.KeptSteps.{above, one_kept, one_omitted, all_kept}
use Rattle.balance.proofs.kept.kept_columns.Goals as goal
use Rattle.balance.proofs.kept.kept_columns.Goals.{then-is_kept+in_ok-push, else-is_kept}

pub push-requires : goal.push-requires
push-requires c = above c.args.matrix.now c.args.rows.now c.loop-column.column c.loop-column.kept c.loop-column.invariant

pub loop-column-preserved : goal.loop-column-preserved
loop-column-preserved c =
    let m = c.args.matrix.now in
    let rows = c.args.rows.now in
    elim c.if-is_kept.branch [
      | then-is_kept+in_ok-push w ↦ one_kept m rows c.loop-column.column c.loop-column.kept c.if-is_kept.kept c.loop-column.invariant (c.is_kept.ensures.0 w.if-is_kept.true) (w.kept-is ∙ w.in_ok-push.ensures.ok)
      | else-is_kept w ↦ one_omitted m rows c.loop-column.column c.loop-column.kept c.if-is_kept.kept c.loop-column.invariant (λ least. false≢true (sym w.if-is_kept.false ∙ c.is_kept.ensures.1 least)) w.kept-is
    ]

pub returns-clause-kept : goal.returns-clause-kept
returns-clause-kept c = all_kept c.args.matrix.now c.args.rows.now c.loop-column.column c.loop-column.kept (omega (arith, c.columns-column-end.ensures.columns, c.loop-column-test.false)) c.loop-column.invariant
