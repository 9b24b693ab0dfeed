use Rattle.cuts.proofs.GroupLemmas.{named_lines}
use Rattle.cuts.proofs.groups.Groups.lines.Goals as goal

pub returns-clause-named : goal.returns-clause-named
returns-clause-named c = λ m tall x e.
    named_lines m c.args.self.now c.args.name c.args.rows c.deref.result.now c.deref-2.result.now (record { rows = c.in_ok-lines_named.field-0; columns = c.in_ok-lines_named-2.field-0 }) c.deref.ensures.value c.deref-2.ensures.value tall c.in_ok-lines_named.ensures.named c.in_ok-lines_named-2.ensures.named x e
