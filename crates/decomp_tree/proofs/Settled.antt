-- Drafts that are settled: their cycle faults, and the trees of their children one after another.
use Rattle.std.proofs.Common.{◌≡◌, ◌<◌, ◌∙◌, ◌++◌, ℕ, Bool, true, false, List, [], ◌∷◌, length, map, refl, ap, ap₂, sym, subst}
use Rattle.std.specs.List.{AllByRecursion}
use Rattle.cmr_base.specs.declared.line_set.LineSet.{LineSet}
use Rattle.cmr_base.specs.Matrix.{Matrix, entry, IsMatrix}
use Rattle.cmr_base.specs.CyclePlaces.{HasNoCycleFault}
use Rattle.tree_type.specs.declared.tree.Node.{Node}
use Rattle.tree_type.specs.Findings.{finding_shown}
use Rattle.tree_type.specs.Invariant.{AreLines, HasChildren}
use Rattle.tree_type.specs.Soundness.{part}
use Rattle.tree_type.specs.DecompositionTrees.{Finding, Empty, Cycle, Reduced, OneSum, Network, Conetwork, R10, TwoSum, ThreeSum, Enumerated, Violator, Undecided, Pivoted, Tree, NoTrees, Branch, tree_of, trees_from}
use Rattle.tree_type.proofs.Forests.{count_list, count_of}
use Rattle.decomp_tree.specs.declared.drafts.Draft.{Draft}
use Rattle.decomp_tree.specs.declared.drafts.Opening.{Opening}
use Rattle.decomp_tree.specs.Shapes.{HasFault, case_number, IsShapeOn}
use Rattle.decomp_tree.specs.Seen.{HasNoneAmong, AreFewer, IsNamedFault, IsSaid, is_unsearched}
use Rattle.decomp_tree.specs.Refined.{is_undecided, AllRefine}
use Rattle.decomp_tree.specs.PivotedShapes.{HasOneMoreTree, IsFound, IsDrawnWith}
use Rattle.decomp_tree.specs.Openings.{IsOpeningOf}
use Rattle.decomp_tree.specs.Sketches.{sketches_from, sketch_of, opening_in, is_free_in, drafts_in, lines_of_sketch, IsDrafted, AreDrafted, HasNoLateFault}
use Rattle.decomp_tree.proofs.Children.{has_children}
use Rattle.decomp_tree.proofs.DraftLemmas.{lines_are, parts_of}
use Rattle.decomp_tree.proofs.Drawn.{AreDrawn, drawn as drawn_node, drawn_more}
use Rattle.decomp_tree.proofs.RefinedTrees.{count_refined, refined_kept, refined_more}
use Rattle.decomp_tree.proofs.Said.{seen_fault}

-- the trees of some sets of lines, with what replaces undecided nodes
abbrev pub AreSettled : ℕ → ℕ → ℕ → Matrix → List LineSet → List Tree → Type 0
AreSettled limit pivots state m children trees = (shapes : List Tree) × AreDrawn limit m children shapes × AllRefine (IsFound limit pivots state m) (trees_from shapes) (trees_from trees)

pub only_undecided_is : (finding : Finding) → is_undecided finding ≡ true → finding ≡ Undecided
only_undecided_is Undecided e = refl
only_undecided_is Empty e = cc
only_undecided_is (Cycle fault) e = cc
only_undecided_is (Reduced steps) e = cc
only_undecided_is OneSum e = cc
only_undecided_is (Network net) e = cc
only_undecided_is (Conetwork net) e = cc
only_undecided_is R10 e = cc
only_undecided_is (TwoSum two) e = cc
only_undecided_is (ThreeSum three) e = cc
only_undecided_is Enumerated e = cc
only_undecided_is (Violator fault) e = cc
only_undecided_is (Pivoted place) e = cc

module _ (limit : ℕ) (m : Matrix) where
  -- one of the children
  each_drafted : (P : LineSet → Type 0) (children : List LineSet) (before : List Draft) (draft : Draft) (after : List Draft)
      → AreDrafted limit m children (sketches_from (map sketch_of (before ++ draft ∷ after))) → AllByRecursion P children
      → IsDrafted limit m (sketch_of draft) × P (lines_of_sketch (sketch_of draft))
  each_drafted P [] [] draft after d all = absurd d
  each_drafted P [] (b ∷ before) draft after d all = absurd d
  each_drafted P (child ∷ children) [] draft after d all = (d.1, subst P (sym d.0) all.0)
  each_drafted P (child ∷ children) (b ∷ before) draft after d all = each_drafted P children before draft after d.2 all.1

  -- the lines of all children
  lines_each : (children : List LineSet) (drafts : List Draft) → AreDrafted limit m children (sketches_from (map sketch_of drafts)) → map (λ draft. lines_of_sketch (sketch_of draft)) drafts ≡ children
  lines_each [] [] d = refl
  lines_each [] (draft ∷ drafts) d = absurd d
  lines_each (child ∷ children) [] d = absurd d
  lines_each (child ∷ children) (draft ∷ drafts) d = ap₂ (λ x xs. x ∷ xs) d.0 (lines_each children drafts d.2)

  one_more : (drafts : List Draft) (draft : Draft)
      → map (λ draft. lines_of_sketch (sketch_of draft)) (drafts ++ draft ∷ []) ≡ map (λ draft. lines_of_sketch (sketch_of draft)) drafts ++ lines_of_sketch (sketch_of draft) ∷ []
  one_more [] draft = refl
  one_more (other ∷ drafts) draft = ap (λ xs. lines_of_sketch (sketch_of other) ∷ xs) (one_more drafts draft)

  -- the next child is settled after the others
  pub settled_next : (pivots state : ℕ) (drafts : List Draft) (draft : Draft) (before after : List Tree)
      → AreSettled limit pivots state m (map (λ draft. lines_of_sketch (sketch_of draft)) drafts) before
      → HasOneMoreTree (IsDrawnWith limit pivots state m (lines_of_sketch (sketch_of draft))) before after
      → AreSettled limit pivots state m (map (λ draft. lines_of_sketch (sketch_of draft)) (drafts ++ draft ∷ [])) after
  settled_next pivots state drafts draft before after (shapes, drawn, refined) one =
      subst (AreSettled limit pivots state m (map (λ draft. lines_of_sketch (sketch_of draft)) (drafts ++ draft ∷ []))) (sym one.order)
      (subst (λ some. AreSettled limit pivots state m some (before ++ one.tree ∷ [])) (sym (one_more drafts draft)) (
        shapes ++ one.is_tree.shape ∷ [],
        drawn_more limit m (map (λ draft. lines_of_sketch (sketch_of draft)) drafts) shapes (lines_of_sketch (sketch_of draft)) one.is_tree.shape drawn one.is_tree.drawn,
        refined_more (IsFound limit pivots state m) shapes before one.is_tree.shape one.tree refined one.is_tree.refines,
      ))

  -- all children are settled
  settled_all : (children : List LineSet) (drafts : List Draft) (trees : List Tree) → AreDrafted limit m children (sketches_from (map sketch_of drafts))
      → AreDrawn limit m (map (λ draft. lines_of_sketch (sketch_of draft)) drafts) trees
      → AreDrawn limit m children trees
  settled_all children drafts trees d all = subst (λ some. AreDrawn limit m some trees) (lines_each children drafts d) all

  -- a node without late cycle fault
  node_drawn : (opening : Opening) → IsOpeningOf limit m opening.lines opening → HasNoLateFault m opening.lines (finding_shown opening.finding)
      → (trees : List Tree) → AreDrawn limit m opening.children trees
      → IsShapeOn limit m opening.lines (Branch opening.lines (finding_shown opening.finding) (trees_from trees))
  node_drawn opening is late trees children = drawn_node limit m opening.lines (finding_shown opening.finding) opening.children trees is.said (λ l. go (is_unsearched (finding_shown opening.finding)) refl l) children
    where
      go : (b : Bool) → is_unsearched (finding_shown opening.finding) ≡ b → case_number HasFault < case_number is.said.case → HasNoCycleFault (entry (part m opening.lines))
      go true e l = late e
      go false e l = is.said.searched e l

  -- a node with a late cycle fault
  fault_drawn : (lines fault : LineSet) → IsMatrix m → AreLines m lines → IsNamedFault m lines fault → IsShapeOn limit m lines (Branch lines (Cycle fault) NoTrees)
  fault_drawn lines fault is are found =
      let said = seen_fault limit m is lines are fault found in
      drawn_node limit m lines (Cycle fault) [] [] said (said.searched refl) tt

  module _ (draft : Draft) (drafted : IsDrafted limit m (sketch_of draft)) where
    pub lines_in : AreLines m (lines_of_sketch (sketch_of draft)) → AreLines m (opening_in draft).lines
    lines_in are = subst (AreLines m) (lines_are draft) are

    pub none_if_free : (is_free_in draft) ≡ true → HasNoneAmong m (opening_in draft).lines
    none_if_free e = (parts_of limit m draft drafted).1 e

    -- a child has fewer lines
    pub child_at : (before : List Draft) (child : Draft) (after : List Draft) → before ++ child ∷ after ≡ (drafts_in draft)
        → IsDrafted limit m (sketch_of child) × AreFewer (lines_of_sketch (sketch_of draft)) (lines_of_sketch (sketch_of child))
    child_at before child after e =
        let parts = parts_of limit m draft drafted in
        let opening = opening_in draft in
        let each = each_drafted (AreFewer opening.lines) opening.children before child after (subst (λ (drafts : List Draft). AreDrafted limit m opening.children (sketches_from (map sketch_of drafts))) (sym e) parts.2) parts.0.said.fewer in
        (each.0, subst (λ (lines : LineSet). AreFewer lines (lines_of_sketch (sketch_of child))) (sym (lines_are draft)) each.1)

    module _ (pivots state : ℕ) where
      abbrev Settles : Tree → Type 0
      Settles = IsDrawnWith limit pivots state m (lines_of_sketch (sketch_of draft))

      settles : (tree : Tree) → IsDrawnWith limit pivots state m (opening_in draft).lines tree → Settles tree
      settles tree d = subst (λ (lines : LineSet). IsDrawnWith limit pivots state m lines tree) (sym (lines_are draft)) d

      module _ (nodes : List Node) (settled : AreSettled limit pivots state m (map (λ child. lines_of_sketch (sketch_of child)) (drafts_in draft)) (map tree_of nodes)) where
        all_settled : AreDrawn limit m (opening_in draft).children settled.0
        all_settled = settled_all (opening_in draft).children (drafts_in draft) settled.0 (parts_of limit m draft drafted).2 settled.1

        as_many_nodes : length nodes ≡ length settled.0
        as_many_nodes =
            sym (count_of nodes) ∙ count_refined (IsFound limit pivots state m) (trees_from settled.0) (trees_from (map tree_of nodes)) settled.2 ∙ count_list settled.0

        pub count_settled : HasChildren (finding_shown (opening_in draft).finding) (length nodes)
        count_settled = subst (HasChildren (finding_shown (opening_in draft).finding)) (sym as_many_nodes) (has_children limit m (finding_shown (opening_in draft).finding) (opening_in draft).children settled.0 (parts_of limit m draft drafted).0.said.count all_settled)

        pub whole_settled : is_undecided (finding_shown (opening_in draft).finding) ≡ false
            → HasNoLateFault m (opening_in draft).lines (finding_shown (opening_in draft).finding) → (before after : List Tree)
            → after ≡ before ++ Branch (opening_in draft).lines (finding_shown (opening_in draft).finding) (trees_from (map tree_of nodes)) ∷ [] → HasOneMoreTree Settles before after
        whole_settled decided late before after e =
            let opening = opening_in draft in
            let tree = Branch opening.lines (finding_shown opening.finding) (trees_from (map tree_of nodes)) in
            record {
              tree = tree;
              order = e;
              is_tree = settles tree (record {
                shape = Branch opening.lines (finding_shown opening.finding) (trees_from settled.0);
                drawn = node_drawn opening (parts_of limit m draft drafted).0 late settled.0 all_settled;
                refines = refined_kept (IsFound limit pivots state m) opening.lines (finding_shown opening.finding) (trees_from settled.0) (trees_from (map tree_of nodes)) decided settled.2;
              });
            }

      pub fault_settled : IsMatrix m → AreLines m (opening_in draft).lines → (fault : LineSet) → IsNamedFault m (opening_in draft).lines fault
          → (before after : List Tree) → after ≡ before ++ Branch (opening_in draft).lines (Cycle fault) NoTrees ∷ []
          → HasOneMoreTree Settles before after
      fault_settled is are fault found before after e =
          let lines = (opening_in draft).lines in
          let tree = Branch lines (Cycle fault) NoTrees in
          record {
            tree = tree;
            order = e;
            is_tree = settles tree (record {
              shape = tree;
              drawn = fault_drawn lines fault is are found;
              refines = refined_kept (IsFound limit pivots state m) lines (Cycle fault) NoTrees NoTrees refl refl;
            });
          }

      -- an undecided node, of which something is found
      pub found_settled : is_undecided (finding_shown (opening_in draft).finding) ≡ true → (found : Tree)
          → IsFound limit pivots state m (opening_in draft).lines found → (before after : List Tree) → after ≡ before ++ found ∷ []
          → HasOneMoreTree Settles before after
      found_settled open_node found is before after e =
          let opening = opening_in draft in
          let known = (parts_of limit m draft drafted).0 in
          let undecided_is = only_undecided_is (finding_shown opening.finding) open_node in
          let said = subst (λ f. IsSaid limit m opening.lines f opening.children) undecided_is known.said in
          record {
            tree = found;
            order = e;
            is_tree = settles found (record {
              shape = Branch opening.lines Undecided NoTrees;
              drawn = drawn_node limit m opening.lines Undecided opening.children [] said (said.searched refl) (none_drawn opening.children said.count);
              refines = is;
            });
          }
        where
          none_drawn : (children : List LineSet) → length children ≡ 0 → AreDrawn limit m children []
          none_drawn [] e = tt
          none_drawn (child ∷ children) e = absurd (cc)
