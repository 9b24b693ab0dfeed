-- The tree of some lines, from what its root says and from the trees of its children.
use Rattle.std.proofs.Common.{◌≡◌, ◌<◌, ◌∙◌, ◌++◌, ℕ, suc, List, [], ◌∷◌, length, map, refl, ap, ap₂, sym, subst}
use Rattle.std.specs.List.{AllByRecursion}
use Rattle.cmr_base.specs.declared.line_set.LineSet.{LineSet}
use Rattle.cmr_base.specs.CyclePlaces.{HasNoCycleFault}
use Rattle.cmr_base.specs.Matrix.{Matrix, entry}
use Rattle.cmr_base.proofs.Lists.{all-append}
use Rattle.tree_type.specs.DecompositionTrees.{Finding, Tree, Branch, trees_from, count_trees}
use Rattle.tree_type.specs.Invariant.{HasChildren}
use Rattle.tree_type.specs.Places.{places_from, places_below, due_child, lines_of_each}
use Rattle.tree_type.specs.Soundness.{part}
use Rattle.decomp_tree.specs.Shapes.{case_number, IsShapedAt, IsShapeOn, HasParts, set_in}
use Rattle.decomp_tree.specs.Seen.{AreDue, IsSaid}
use Rattle.decomp_tree.proofs.OneTree.{count_is}
use Rattle.decomp_tree.proofs.Said.{first_case}
use Rattle.decomp_tree.proofs.ShapeSound.{no_pivot}
use Rattle.decomp_tree.proofs.ShapeTrees.{shape_lines, shape_moved}

-- the decompositions of some sets of lines
abbrev pub AreDrawn : ℕ → Matrix → List LineSet → List Tree → Type 0
AreDrawn limit m [] [] = Unit {0}
AreDrawn limit m (lines ∷ children) (tree ∷ trees) = IsShapeOn limit m lines tree × AreDrawn limit m children trees
AreDrawn limit m children trees = ⊥

module _ (limit : ℕ) (m : Matrix) where
  lines_drawn : (children : List LineSet) (trees : List Tree) → AreDrawn limit m children trees → lines_of_each (trees_from trees) ≡ children
  lines_drawn [] [] d = refl
  lines_drawn [] (tree ∷ trees) d = absurd d
  lines_drawn (child ∷ children) [] d = absurd d
  lines_drawn (child ∷ children) (tree ∷ trees) d = ap₂ (λ a b. a ∷ b) (shape_lines limit m child tree d.0) (lines_drawn children trees d.1)

  pub count_drawn : (children : List LineSet) (trees : List Tree) → AreDrawn limit m children trees → count_trees (trees_from trees) ≡ length children
  count_drawn [] [] d = refl
  count_drawn [] (tree ∷ trees) d = absurd d
  count_drawn (child ∷ children) [] d = absurd d
  count_drawn (child ∷ children) (tree ∷ trees) d = ap suc (count_drawn children trees d.1)

  shaped_below : (path : List ℕ) (lines : LineSet) (finding : Finding) (k : ℕ) (children : List LineSet) (trees : List Tree) → AreDrawn limit m children trees → AreDue lines finding k children
      → AllByRecursion (IsShapedAt limit m) (places_below path [] lines finding k (trees_from trees))
  shaped_below path lines finding k [] [] d due = tt
  shaped_below path lines finding k [] (tree ∷ trees) d due = absurd d
  shaped_below path lines finding k (child ∷ children) [] d due = absurd d
  shaped_below path lines finding k (child ∷ children) (tree ∷ trees) d due =
      all-append (IsShapedAt limit m) (places_from (path ++ k ∷ []) [] (due_child lines finding k) tree) (places_below path [] lines finding (suc k) (trees_from trees))
      (shape_moved limit m (path ++ k ∷ []) (due_child lines finding k) child tree due.0 d.0)
      (shaped_below path lines finding (suc k) children trees d.1 due.1)

  pub drawn : (lines : LineSet) (finding : Finding) (children : List LineSet) (trees : List Tree) (said : IsSaid limit m lines finding children)
      → (2 < case_number said.case → HasNoCycleFault (entry (part m lines)))
      → AreDrawn limit m children trees → IsShapeOn limit m lines (Branch lines finding (trees_from trees))
  drawn lines finding children trees said no_fault d = (
    record {
      lines = (refl, refl);
      unpivoted = refl;
      case = said.case;
      first = first_case limit (part m lines) said.case said.applies said.others no_fault;
      found = said.found;
      parts = said.parts;
      says = said.says;
      finding = said.finding_is;
      children = subst (λ c. HasParts finding c (map (set_in lines) said.parts)) (sym (lines_drawn children trees d)) said.parts_are;
      count = subst (HasChildren finding) (sym (count_is (trees_from trees) ∙ count_drawn children trees d)) said.count;
    },
    subst (λ pivots. AllByRecursion (IsShapedAt limit m) (places_below [] pivots lines finding 0 (trees_from trees))) (sym (no_pivot [] limit (part m lines) said.case said.found said.parts lines finding said.says said.finding_is))
        (shaped_below [] lines finding 0 children trees d said.due),
  )

  -- one more tree
  pub drawn_more : (children : List LineSet) (trees : List Tree) (child : LineSet) (tree : Tree) → AreDrawn limit m children trees
      → IsShapeOn limit m child tree → AreDrawn limit m (children ++ child ∷ []) (trees ++ tree ∷ [])
  drawn_more [] [] child tree d one = (one, tt)
  drawn_more [] (t ∷ trees) child tree d one = absurd d
  drawn_more (c ∷ children) [] child tree d one = absurd d
  drawn_more (c ∷ children) (t ∷ trees) child tree d one = (d.0, drawn_more children trees child tree d.1 one)
