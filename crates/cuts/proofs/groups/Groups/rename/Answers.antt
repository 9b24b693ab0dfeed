use Rattle.std.proofs.Common.{◌∙◌, sym}
use Rattle.cuts.proofs.GroupLemmas.{lines_renamed}
use Rattle.cuts.proofs.groups.Groups.rename.Goals as goal

pub returns-clause-get : goal.returns-clause-get
returns-clause-get c = λ m is.
    let after = c.rename_others-2.new.names in
    lines_renamed m c.args.self.now (record { names = after }) c.rename_others.new.names.items c.args.separated.now c.size-rows.result c.name-name.result c.args.line is c.size-rows.ensures.size
    (c.name-name.ensures m (sym (c.size-rows.ensures.size ∙ is.rows)))
    c.rename_others.ensures.lines c.rename_others.ensures.after c.rename_others-2.ensures.lines c.rename_others-2.ensures.before
