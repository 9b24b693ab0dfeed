use Rattle.std.proofs.Common.{◌≡◌, ◌∙◌, None, Some, ap, refl, sym, subst}
use Rattle.tree_type.specs.DecompositionTrees.{tree_of}
use Rattle.tree_type.specs.Verdicts.{No, Yes, verdict_of, verdict_shown}
use Rattle.tree_type.specs.declared.finding.Finding.TheVariants as held
use Rattle.decomp_tree.specs.PivotedShapes.{SaysBeforePivot}
use Rattle.decomp_tree.proofs.pulling_back.finding_before.Goals as goal

pub returns-in-Yes : goal.returns-in-Yes
returns-in-Yes c =
    let says : Yes ≡ verdict_of (tree_of c.args.after.now) = sym (ap verdict_shown c.in-Yes.is) ∙ c.verdict_at.ensures in
    subst (λ v. SaysBeforePivot c.args.matrix.now c.args.place v None) says refl

pub returns-in_ok-before-in-No : goal.returns-in_ok-before-in-No
returns-in_ok-before-in-No c =
    let says : No c.in-No.fault.now ≡ verdict_of (tree_of c.args.after.now) = sym (ap verdict_shown c.in-No.is) ∙ c.verdict_at.ensures in
    let before = c.in_ok-before-in-No.before in
    let back = c.in_ok-before-in-No.ensures in
    subst (λ v. SaysBeforePivot c.args.matrix.now c.args.place v (Some (held.Violator before))) says (before, record { row_set = back.row_set; column_set = back.column_set; lines = back.lines }, refl)
