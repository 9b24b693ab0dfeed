use Rattle.std.proofs.Common.{◌≡◌}
use Rattle.std.specs.Prelude.{count_by}
use Rattle.tree_type.specs.Sides.{is_among}
use Rattle.cmr_base.proofs.Lists.{all_at}
use Rattle.cert_check.specs.NodeLines.{line_sets}
use Rattle.cert_check.proofs.apart_rule.have_nonzeros.Goals as goal

pub has_nonzeros-requires-clause-one : goal.has_nonzeros-requires-clause-one
has_nonzeros-requires-clause-one c = all_at (λ row. count_by (λ child. is_among child.rows row) (line_sets c.args.children.now) ≡ 1) c.args.rows.now c.loop-row.row-index 0 c.requires.one c.loop-row-test.true
