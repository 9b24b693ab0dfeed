-- The lines of children, how many trees are drawn of them, and the only one that is drawn.
use Rattle.std.proofs.Common.{◌≡◌, ◌∙◌, ◌++◌, ℕ, suc, List, [], ◌∷◌, length, map, refl, ap, sym, subst, arith}
use Rattle.std.proofs.lemmas.List.{length-map}
use Rattle.cmr_base.specs.declared.line_set.LineSet.{LineSet}
use Rattle.cmr_base.specs.Matrix.{Matrix}
use Rattle.tree_type.specs.Invariant.{AreLines, HasChildren}
use Rattle.tree_type.proofs.PlacedLines.{lines_within}
use Rattle.tree_type.specs.DecompositionTrees.{Finding, Tree}
use Rattle.decomp_tree.specs.declared.drafts.Draft.{Draft}
use Rattle.decomp_tree.specs.Seen.{AreFewer}
use Rattle.decomp_tree.specs.Sketches.{sketch_of, lines_of_sketch, IsDrafted, HasOneMoreDraft}
use Rattle.decomp_tree.proofs.Drawn.{AreDrawn}

pub child_lines : (m : Matrix) (lines child : LineSet) → AreLines m lines → AreFewer lines child → AreLines m child
child_lines m lines child are fewer = lines_within m child lines fewer.among are

-- what one thing is made of is the only one that was made
only_made : {A B : Type 0} (f : A → B) (others : List A) (root : A) (made : B) → map f (others ++ root ∷ []) ≡ made ∷ [] → f root ≡ made
only_made f [] root made e = cc
only_made f (x ∷ []) root made e = absurd (cc)
only_made f (x ∷ y ∷ others) root made e = absurd (cc)

module _ (limit : ℕ) (m : Matrix) where
  as_many : (children : List LineSet) (trees : List Tree) → AreDrawn limit m children trees → length trees ≡ length children
  as_many [] [] d = refl
  as_many [] (tree ∷ trees) d = absurd d
  as_many (child ∷ children) [] d = absurd d
  as_many (child ∷ children) (tree ∷ trees) d = ap suc (as_many children trees d.1)

  pub has_children : (finding : Finding) (children : List LineSet) (trees : List Tree) → HasChildren finding (length children) → AreDrawn limit m children trees → HasChildren finding (length trees)
  has_children finding children trees count drawn = subst (HasChildren finding) (sym (as_many children trees drawn)) count

  -- a draft with none before it is the only one
  pub only_drafted : (lines : LineSet) (others : List Draft) (root : Draft) → HasOneMoreDraft limit m lines [] (map sketch_of (others ++ root ∷ []))
      → (lines_of_sketch (sketch_of root) ≡ lines) × IsDrafted limit m (sketch_of root)
  only_drafted lines others root d =
      let same = only_made sketch_of others root d.sketch d.order in
      (ap lines_of_sketch same ∙ d.lines_are, subst (IsDrafted limit m) (sym same) d.drafted)

  pub some_drafted : (lines : LineSet) (drafts : List Draft) → HasOneMoreDraft limit m lines [] (map sketch_of drafts) → length drafts ≡ 0 → ⊥
  some_drafted lines drafts d none = let one = sym (length-map drafts sketch_of) ∙ ap length d.order in omega (arith, one, none)
