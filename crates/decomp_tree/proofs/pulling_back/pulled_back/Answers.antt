use Rattle.std.proofs.Common.{◌≡◌, ◌∙◌, None, Some, ap, refl, sym, subst}
use Rattle.std.proofs.lemmas.Result.{IfOk-weaker}
use Rattle.cmr_base.specs.declared.line_set.LineSet.{LineSet}
use Rattle.cmr_base.specs.Matrix.{Matrix}
use Rattle.cmr_base.proofs.Options.{some_same}
use Rattle.cmr_base.specs.declared.position.Position.{Position}
use Rattle.tree_type.specs.declared.finding.Finding.{Finding as Held}
use Rattle.tree_type.specs.declared.finding.Finding.TheVariants as held
use Rattle.tree_type.specs.DecompositionTrees.{Tree, Branch, NoTrees, Pivoted, one_tree, tree_of}
use Rattle.tree_type.specs.Findings.{finding_shown}
use Rattle.tree_type.specs.Invariant.{HasChildren}
use Rattle.tree_type.specs.Verdicts.{Verdict, No, Open, Yes, verdict_of}
use Rattle.decomp_tree.specs.PivotedShapes.{IsMappedBack, SaysBeforePivot}
use Rattle.decomp_tree.proofs.pulling_back.pulled_back.Goals as goal

none_said : {finding : Held} → None ≡ Some finding → ⊥
none_said e = cc

some_said : {finding : Held} → Some finding ≡ None → ⊥
some_said e = cc

-- a node above the tree, where nothing else is said
mapped_above : (m : Matrix) (lines : LineSet) (place : Position) (after tree : Tree) (verdict : Verdict) → SaysBeforePivot m place verdict None
    → tree ≡ Branch lines (Pivoted place) (one_tree after) → IsMappedBack m lines place after verdict tree
mapped_above m lines place after tree Yes says e = e
mapped_above m lines place after tree (No fault) says e = absurd (none_said says.2)
mapped_above m lines place after tree (Open left) says e = absurd (none_said says)

-- a leaf that says what is said
told_by_leaf : (m : Matrix) (lines : LineSet) (place : Position) (after tree : Tree) (verdict : Verdict) (finding : Held)
    → SaysBeforePivot m place verdict (Some finding) → tree ≡ Branch lines (finding_shown finding) NoTrees
    → IsMappedBack m lines place after verdict tree
told_by_leaf m lines place after tree Yes finding says e = absurd (some_said says)
told_by_leaf m lines place after tree (No fault) finding says e =
    (says.0, says.1, e ∙ ap (λ (f : Held). Branch lines (finding_shown f) NoTrees) (some_same finding (held.Violator says.0) says.2))
told_by_leaf m lines place after tree (Open left) finding says e = e ∙ ap (λ (f : Held). Branch lines (finding_shown f) NoTrees) (some_same finding held.Undecided says)

-- what is said is a leaf's
said_by_leaf : (m : Matrix) (place : Position) (verdict : Verdict) (finding : Held) → SaysBeforePivot m place verdict (Some finding) → HasChildren (finding_shown finding) 0
said_by_leaf m place Yes finding says = absurd (some_said says)
said_by_leaf m place (No fault) finding says = subst (λ (f : Held). HasChildren (finding_shown f) 0) (sym (some_same finding (held.Violator says.0) says.2)) refl
said_by_leaf m place (Open left) finding says = subst (λ (f : Held). HasChildren (finding_shown f) 0) (sym (some_same finding held.Undecided says)) refl

pub leaf-requires : goal.leaf-requires
leaf-requires c =
    said_by_leaf c.args.matrix.now c.args.place (verdict_of (tree_of c.args.after)) c.in-Some.finding
    (subst (SaysBeforePivot c.args.matrix.now c.args.place (verdict_of (tree_of c.args.after))) c.in-Some.is c.in_ok-finding.ensures)

pub returns-in-Some : goal.returns-in-Some
returns-in-Some c =
    let m = c.args.matrix.now in
    let lines = c.args.lines.now in
    let after = tree_of c.args.after in
    let said = subst (SaysBeforePivot m c.args.place (verdict_of after)) c.in-Some.is c.in_ok-finding.ensures in
    IfOk-weaker c.leaf.result (λ node. tree_of node ≡ Branch lines (finding_shown c.in-Some.finding) NoTrees) _ (λ node e. told_by_leaf m lines c.args.place after (tree_of node) (verdict_of after) c.in-Some.finding said e) c.leaf.ensures

pub returns-in-None : goal.returns-in-None
returns-in-None c =
    let m = c.args.matrix.now in
    let lines = c.args.lines.now in
    let after = tree_of c.args.after in
    let said = subst (SaysBeforePivot m c.args.place (verdict_of after)) c.in-None.is c.in_ok-finding.ensures in
    IfOk-weaker c.above.result (λ node. tree_of node ≡ Branch lines (Pivoted c.args.place) (one_tree after)) _ (λ node e. mapped_above m lines c.args.place after (tree_of node) (verdict_of after) said e) c.above.ensures
