use Rattle.std.proofs.Common.{◌*◌, length, subst, sym}
use Rattle.cmr_base.specs.Runs.{IsRowChosen, run_at}
use Rattle.cmr_base.proofs.RunRows.{end_after, run_chosen, run_inside}
use Rattle.cmr_base.proofs.runs.add_row.Goals as goal

pub add_run-requires-clause-inside : goal.add_run-requires-clause-inside
add_run-requires-clause-inside c =
    let run = run_at c.args.runs.now c.loop-number.number in
    run_inside c.args._columns.now run.column run.place run.size (64 * length c.args.words.now) (c.requires.runs.each c.loop-number.number c.loop-number-test.true) c.requires.columns

pub loop-number-preserved : goal.loop-number-preserved
loop-number-preserved c =
    let number = c.loop-number.number in
    let run = run_at c.args.runs.now number in
    let inside = c.loop-number-test.true in
    subst (λ n. IsRowChosen c.args.words.now c.args._columns.now (64 * c.args.at) n c.args.made.now.items c.add_run.new.made.items) (sym (end_after c.args.runs.now number))
    (run_chosen c.args.words.now c.args._columns.now (64 * c.args.at) c.args.made.now.items run.column run.place run.size c.loop-number.made.items c.add_run.new.made.items
    (subst (λ n. IsRowChosen c.args.words.now c.args._columns.now (64 * c.args.at) n c.args.made.now.items c.loop-number.made.items) (sym (c.requires.runs.joined number inside)) c.loop-number.invariant)
    c.add_run.ensures (c.requires.runs.each number inside) c.requires.empty)
