use Rattle.std.proofs.Common.{◌∙◌, ap, subst}
use Rattle.std.proofs.lemmas.Result.{IfOk-weaker}
use Rattle.tree_text.specs.TreeReading.{plain_of}
use Rattle.cmr_reach.specs.Parts.{IsArranged, parted, parts_report, root_of, parts_order_of}
use Rattle.cmr_reach.proofs.RootSums.{with_both}
use Rattle.cmr_reach.proofs.tools.parts.part_root.Goals as goal

pub returns-in-Some : goal.returns-in-Some
returns-in-Some c =
    let is = subst (IsArranged c.args.matrix.now (root_of (plain_of c.args.tree.now))) c.in-Some.is c.in_ok-arranged.ensures in
    IfOk-weaker c.parted.result _ _
    (λ outcome h. parted c.requires is.1 c.in-Some.both (record { of_root = is.2; round_trip = is.3; whole = is.0; first = h.1; second = h.2 })
    (h.0 ∙ ap (λ word. parts_report (parts_order_of c.args.options.now) word c.in-Some.both) c.root_word-word.ensures))
    (with_both c.parted.result _ _ _ c.parted.ensures.report c.parted.ensures.first c.parted.ensures.second)
