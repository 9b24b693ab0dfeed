use Rattle.std.proofs.Common.{◌≡◌, subst}
use Rattle.std.specs.Prelude.{OnOk}
use Rattle.text_fields.specs.Written.{Draft}
use Rattle.tree_text.specs.CanonicalTrees.{set_words}
use Rattle.tree_text.proofs.WrittenLines.{ended_as}
use Rattle.tree_text.proofs.write.write_fault.Goals as goal

pub returns : goal.returns
returns c = subst (λ (d : Draft). OnOk c.end_line.result (c.end_line.new.self ≡ d)) (ended_as c.write_set.new.text c.args.text.now (set_words c.args.fault.now) c.in_ok-write_set.ensures c.requires) c.end_line.ensures
