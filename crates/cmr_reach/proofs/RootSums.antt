-- The separation that the root of a sound tree names.
use Rattle.std.proofs.Common.{◌≡◌, ◌≢◌, ◌∙◌, ℕ, List, Some, None, Result, Ok, Err, IfOk, refl, ap, sym, subst}
use Rattle.std.specs.declared.alloc.Global.{Global}
use Rattle.std.specs.declared.boxed.Box.{Box}
use Rattle.cmr_base.specs.Matrix.{Matrix, IsMatrix, entry, height}
use Rattle.cmr_base.specs.LineSets.{first_lines}
use Rattle.cmr_base.specs.Separations.{IsThreeSeparation, IsTwoSeparation, listed}
use Rattle.cmr_base.specs.declared.line_set.LineSet.{LineSet}
use Rattle.cmr_base.specs.declared.separation.Three.{Three}
use Rattle.cmr_base.specs.declared.separation.Two.{Two}
use Rattle.compose.specs.Arrangements.{arranged, three_arrangement, two_arrangement}
use Rattle.compose.specs.SumKinds.{kind_of_form}
use Rattle.compose.specs.RoundTrips.{IsRoundTrip, IsThreeOf, IsTwoOf}
use Rattle.compose.specs.declared.arrangement.Arranged.{Arranged}
use Rattle.compose.specs.declared.sum_kind.SumKind.TheVariants as sums
use Rattle.tree_type.specs.Soundness.{IsSound, IsSoundTree}
use Rattle.tree_type.specs.DecompositionTrees.{Branch, Finding, SizedTree, Trees, ThreeSum, TwoSum, tree_of, finding_of}
use Rattle.tree_type.specs.declared.refusal.Rule.TheVariants as rule
use Rattle.tree_type.specs.declared.tree.Kind.{Kind}
use Rattle.tree_type.specs.declared.tree.Kind.TheOpen as open'
use Rattle.tree_type.specs.declared.tree.Kind.TheVariants as kind
use Rattle.tree_type.specs.declared.tree.Kind.TheViews.{roll-Kind}
use Rattle.tree_type.specs.declared.tree.Node.{Node}
use Rattle.tree_type.proofs.NodeTrees.{said, tree_is}
use Rattle.tree_type.proofs.OtherKinds.{KindCase, by_kind, finding_in}
use Rattle.tree_type.proofs.SideLemmas.{three_sums_separate, two_sums_separate}
use Rattle.cmr_reach.specs.Parts.{HasNoParts, IsArranged}

-- two more facts about a result
pub with_both : {X E : Type 0} (r : Result X E) (P : X → Type 0) (A B : Type 0) → IfOk r P → IfOk r (λ _. A) → IfOk r (λ _. B) → IfOk r (λ x. P x × A × B)
with_both (Ok x) P A B p a b = (p, a, b)
with_both (Err e) P A B p a b = tt

pub tree_by_kind : (root : Node) (k : Kind) (finding : Finding) (trees : Trees) → root.kind ≡ k → said k ≡ (finding, trees) → tree_of root ≡ Branch root.lines finding trees
tree_by_kind root k finding trees e f = tree_is root ∙ ap (λ (p : Finding × Trees). Branch root.lines p.0 p.1) (ap said e ∙ f)

-- in terms of the lines of the matrix
on_all_lines : (m : Matrix) (rows columns : ℕ) (lines : LineSet) (P : List ℕ → List ℕ → Type 0) → rows ≡ height m → columns ≡ m.width
    → lines.rows ≡ first_lines rows → lines.columns ≡ first_lines columns → P lines.rows lines.columns → P (first_lines (height m)) (first_lines m.width)
on_all_lines m rows columns lines P e f g h p =
    subst (P (first_lines (height m))) (h ∙ ap first_lines f) (subst (λ (rs : List ℕ). P rs lines.columns) (g ∙ ap first_lines e) p)

pub two_of_root : (m : Matrix) (rows columns : ℕ) (lines : LineSet) (two : Two) (trees : Trees) → IsSoundTree m rows columns (Branch lines (TwoSum two) trees) → IsTwoOf m two
two_of_root m rows columns lines two trees sound =
    let root = sound.0 in
    let sizes = root rule.Size in
    let all = root rule.Lines in
    on_all_lines m rows columns lines (λ rs cs. IsTwoSeparation (entry m) rs cs (listed two.side.rows two.side.columns) two.row two.column) sizes.0 sizes.1 all.0 all.1
    ((two_sums_separate (entry m) lines two).0 (root rule.TooShort, root rule.BadConnector, root rule.BadBlock))

pub three_of_root : (m : Matrix) (rows columns : ℕ) (lines : LineSet) (three : Three) (trees : Trees) → IsSoundTree m rows columns (Branch lines (ThreeSum three) trees) → IsThreeOf m three
three_of_root m rows columns lines three trees sound =
    let root = sound.0 in
    let sizes = root rule.Size in
    let all = root rule.Lines in
    record {
      separation = on_all_lines m rows columns lines (λ rs cs. IsThreeSeparation (entry m) rs cs (listed three.side.rows three.side.columns) three.form three.first three.second) sizes.0 sizes.1 all.0 all.1
          ((three_sums_separate (entry m) lines three).0 (root rule.TooShort, root rule.BadConnector, root rule.BadBlock));
      corners = root rule.CornerSign;
    }

module _ (m : Matrix) (t : SizedTree) (root : Node) (here : root ≡ t.root) where
  tree_here : (k : Kind) (finding : Finding) (trees : Trees) → root.kind ≡ k → said k ≡ (finding, trees) → tree_of t.root ≡ Branch root.lines finding trees
  tree_here k finding trees e f = ap tree_of (sym here) ∙ tree_by_kind root k finding trees e f

  pub sound_by_kind : (k : Kind) (finding : Finding) (trees : Trees) → root.kind ≡ k → said k ≡ (finding, trees) → IsSound m t → IsSoundTree m t.rows t.columns (Branch root.lines finding trees)
  sound_by_kind k finding trees e f sound = subst (IsSoundTree m t.rows t.columns) (tree_here k finding trees e f) sound

  -- a root of another kind has no parts
  pub other_root : ((two : Two) (one_child two_child : Box Node Global) → root.kind ≢ kind.TwoSum two one_child two_child)
      → ((three : Three) (one_child two_child : Box Node Global) → root.kind ≢ kind.ThreeSum three one_child two_child) → IsArranged m (finding_of (tree_of t.root)) None
  other_root no_two no_three = subst (λ (node : Node). HasNoParts m (finding_of (tree_of node))) here (by_kind root (HasNoParts m) each)
    where
      each : (case : KindCase) → roll-Kind case ≡ root.kind → HasNoParts m (finding_in case)
      each (open'.TwoSum two one_child two_child) rolls = absurd (no_two two one_child two_child (sym rolls ∙ kind.rolls-TwoSum two one_child two_child))
      each (open'.ThreeSum three one_child two_child) rolls = absurd (no_three three one_child two_child (sym rolls ∙ kind.rolls-ThreeSum three one_child two_child))
      each case rolls = λ sum both is. is

  pub two_by_kind : (k : Kind) (two : Two) (trees : Trees) (both : Arranged) → root.kind ≡ k → said k ≡ (TwoSum two, trees) → IsMatrix m → both ≡ arranged m (two_arrangement m two)
      → IsRoundTrip sums.Two m both → IsArranged m (finding_of (tree_of t.root)) (Some both)
  two_by_kind k two trees both e f is arranged_is round =
      subst (λ finding. IsArranged m finding (Some both)) (sym (ap finding_of (tree_here k (TwoSum two) trees e f))) (is, sums.Two, (refl, arranged_is), round)

  pub three_by_kind : (k : Kind) (three : Three) (trees : Trees) (both : Arranged) → root.kind ≡ k → said k ≡ (ThreeSum three, trees) → IsMatrix m → both ≡ arranged m (three_arrangement m three)
      → IsRoundTrip (kind_of_form three.form) m both → IsArranged m (finding_of (tree_of t.root)) (Some both)
  three_by_kind k three trees both e f is arranged_is round =
      subst (λ finding. IsArranged m finding (Some both)) (sym (ap finding_of (tree_here k (ThreeSum three) trees e f))) (is, kind_of_form three.form, (refl, arranged_is), round)
