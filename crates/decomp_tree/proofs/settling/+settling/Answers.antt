use Rattle.std.proofs.Common.{rules, ◌≡◌, ◌<◌, ◌+◌, ◌-◌, ◌*◌, ◌^◌, ◌∙◌, ◌++◌, ℕ, true, false, Option, Some, None, MatchOption, IfSome, List, [], ◌∷◌, length, map, append_assoc, append-nil, refl, ap, sym, subst, arith}
use Rattle.std.proofs.lemmas.List.{length-map, map-append}
use Rattle.std.proofs.lemmas.Result.{IfOk-weaker}
use Rattle.std.specs.Vec.Iter.{into_iter_items}
use Rattle.cmr_base.specs.declared.line_set.LineSet.{LineSet}
use Rattle.cmr_base.specs.Matrix.{Matrix, IsMatrix}
use Rattle.cmr_base.proofs.Lists.{no_items}
use Rattle.cmr_base.specs.PlacedPivots.{IsPlaceIn}
use Rattle.pivots.specs.declared.drawn.DrawnPlace.{DrawnPlace}
use Rattle.pivots.specs.PivotedParts.{IsPivotedPart}
use Rattle.separating_places.specs.SeparatingPlaces.{IsNextPlace}
use Rattle.tree_type.specs.Findings.{finding_shown}
use Rattle.tree_type.specs.Invariant.{AreLines, size_of}
use Rattle.tree_type.specs.DecompositionTrees.{Tree, Branch, Cycle, NoTrees, Violator, tree_of}
use Rattle.tree_type.specs.Verdicts.{verdict_of}
use Rattle.tree_type.specs.declared.tree.Node.{Node}
use Rattle.decomp_tree.specs.declared.drafts.Draft.{Draft}
use Rattle.decomp_tree.specs.declared.drafts.Draft.TheViews.{out-roll-Draft}
use Rattle.decomp_tree.specs.declared.drafts.Opening.{Opening}
use Rattle.decomp_tree.specs.PivotedShapes.{HasOneMoreTree, IsDrawnWith, IsFound, IsMappedBack, undecided}
use Rattle.decomp_tree.specs.Refined.{is_undecided}
use Rattle.decomp_tree.specs.Seen.{HasNoneAmong, IsNamedFault, is_unsearched}
use Rattle.decomp_tree.specs.Sketches.{sketch_of, lines_of_sketch, opening_in, drafts_in, HasNoLateFault}
use Rattle.decomp_tree.proofs.Children.{child_lines}
use Rattle.decomp_tree.proofs.DraftLemmas.{lines_are}
use Rattle.decomp_tree.proofs.FoundCases.{fault_drawn, found_after, found_none, found_no_place, found_two, lines_made}
use Rattle.decomp_tree.proofs.Settled.{AreSettled, lines_in, none_if_free, child_at, settled_next, count_settled, whole_settled, fault_settled, found_settled}
use Rattle.decomp_tree.proofs.settling.+settling.Goals as goal

-- ---- the root

-- what is made of the last node is the only tree
only_root : (others : List Node) (root : Node) (tree : Tree) → map tree_of (others ++ root ∷ []) ≡ tree ∷ [] → tree_of root ≡ tree
only_root [] root tree e = cc
only_root (x ∷ []) root tree e = absurd (cc)
only_root (x ∷ y ∷ others) root tree e = absurd (cc)

-- if there were no trees before, the tree is that of the last node
only_one_more : (IsTree : Tree → Type 0) (others : List Node) (root : Node) → HasOneMoreTree IsTree [] (map tree_of (others ++ root ∷ [])) → IsTree (tree_of root)
only_one_more IsTree others root b = subst IsTree (sym (only_root others root b.tree b.order)) b.is_tree

some_one_more : (IsTree : Tree → Type 0) (nodes : List Node) → HasOneMoreTree IsTree [] (map tree_of nodes) → length nodes ≡ 0 → ⊥
some_one_more IsTree nodes b none = let one = sym (length-map nodes tree_of) ∙ ap length b.order in omega (arith, one, none)

pub draw_root-settle-requires : goal.draw_root-settle-requires
draw_root-settle-requires g t c =
    let drawn = c.in_ok-drawn.drawn in
    let same : lines_of_sketch (sketch_of drawn) ≡ c.args.lines.now = c.in_ok-drawn.ensures.lines in
    let size : size_of (lines_of_sketch (sketch_of drawn)) ≡ size_of c.args.lines.now = ap size_of same in
    let falls : 4 * (c.args.pivots + size_of (lines_of_sketch (sketch_of drawn))) + 2 < t = omega (arith, c.decreases, size) in
    λ κs lives. (
      falls,
      (
        search rules,
        (
          search rules,
          (
            c.requires.state,
            (
              subst IsMatrix (sym c.of-both.ensures) c.requires.shape,
              (
                subst (λ (m : Matrix). AreLines m (lines_of_sketch (sketch_of drawn))) (sym c.of-both.ensures) (subst (AreLines c.args.matrix.now) (sym same) c.requires.lines),
                c.in_ok-drawn.ensures.drafted,
              ),
            ),
          ),
        ),
      ),
    )

pub draw_root-unreachable-requires : goal.draw_root-unreachable-requires
draw_root-unreachable-requires g t c =
    let IsTree = IsDrawnWith c.args.limits.lines c.args.pivots c.args.state c.of-both.result (lines_of_sketch (sketch_of c.in_ok-drawn.drawn)) in
    let more = subst (λ (nodes : List Node). HasOneMoreTree IsTree (map tree_of nodes) (map tree_of c.settle.new.nodes.items)) c.new-roots.ensures.items c.in_ok-settle.ensures in
    some_one_more IsTree c.settle.new.nodes.items more (let z = c.in_default.ensures.cases.0 in let k = c.settle.new.nodes.ok in omega (arith, k, z))

pub draw_root-returns : goal.draw_root-returns
draw_root-returns g t c =
    let IsTree = IsDrawnWith c.args.limits.lines c.args.pivots c.args.state c.of-both.result (lines_of_sketch (sketch_of c.in_ok-drawn.drawn)) in
    let more = subst (λ (nodes : List Node). HasOneMoreTree IsTree (map tree_of nodes) (map tree_of c.settle.new.nodes.items)) c.new-roots.ensures.items c.in_ok-settle.ensures in
    let only = only_one_more IsTree c.pop.new.self.items c.in-Some.root (subst (λ (nodes : List Node). HasOneMoreTree IsTree [] (map tree_of nodes)) c.in-Some.ensures.items more) in
    subst (λ (m : Matrix). IsDrawnWith c.args.limits.lines c.args.pivots c.args.state m c.args.lines.now (tree_of c.in-Some.root)) c.of-both.ensures
    (subst (λ (lines : LineSet). IsDrawnWith c.args.limits.lines c.args.pivots c.args.state c.of-both.result lines (tree_of c.in-Some.root)) c.in_ok-drawn.ensures.lines only)

-- ---- what pivots find

-- the answer for a submatrix
choice_is : (m : Matrix) (lines : LineSet) (state : ℕ) (found other : Option DrawnPlace) → found ≡ other → IsNextPlace m lines state found → IsNextPlace m lines state other
choice_is m lines state found other e choice = subst (IsNextPlace m lines state) e choice

pub find-returns-in_default : goal.find-returns-in_default
find-returns-in_default g t c =
    let none = choice_is c.args.matrix.now c.args.lines.now c.args.state c.in_ok-chosen.field-0 None c.in_default.is c.in_ok-chosen.ensures.place in
    IfOk-weaker c.leaf-in_default.result (λ node. tree_of node ≡ undecided c.args.lines.now) _
    (λ node e. found_no_place c.args.limits.lines c.args.pivots c.args.state c.args.matrix.now c.args.lines.now (tree_of node) c.if-pivots-eq0.false none e) c.leaf-in_default.ensures

pub find-returns-then-pivots-eq0 : goal.find-returns-then-pivots-eq0
find-returns-then-pivots-eq0 g t c =
    IfOk-weaker c.leaf.result (λ node. tree_of node ≡ undecided c.args.lines.now) _
    (λ node e. found_none c.args.limits.lines c.args.pivots c.args.state c.args.matrix.now c.args.lines.now (tree_of node) c.if-pivots-eq0.true e) c.leaf.ensures

pub find-pivot_part-requires-clause-place : goal.find-pivot_part-requires-clause-place
find-pivot_part-requires-clause-place g t c =
    subst (λ (o : Option DrawnPlace). IfSome o (λ chosen. IsPlaceIn c.args.matrix.now c.args.lines.now chosen.place)) c.in-Some.is c.in_ok-chosen.ensures.inside

pub find-draw_root-requires : goal.find-draw_root-requires
find-draw_root-requires g t c =
    let made = subst (IsPivotedPart c.args.matrix.now c.args.lines.now c.in-Some.chosen.place) c.in-Ternary.is c.in_ok-fault.ensures in
    let falls : 4 * ((c.args.pivots - 1) + size_of c.args.lines.now) + 3 < t = omega (arith, c.decreases, c.if-pivots-eq0.false) in
    λ κs lives. (
      falls,
      (
        search rules,
        (
          search rules,
          (
            subst (λ (o : Option DrawnPlace). IfSome o (λ chosen. chosen.state < 2 ^ 31)) c.in-Some.is c.in_ok-chosen.ensures.low,
            (
              made.shape,
              lines_made c.args.matrix.now c.args.lines.now c.in-Some.chosen.place c.in-Ternary.after made c.requires.lines,
            ),
          ),
        ),
      ),
    )

pub find-pulled_back-requires-clause-fault : goal.find-pulled_back-requires-clause-fault
find-pulled_back-requires-clause-fault g t c =
    let made = subst (IsPivotedPart c.args.matrix.now c.args.lines.now c.in-Some.chosen.place) c.in-Ternary.is c.in_ok-fault.ensures in
    let are = lines_made c.args.matrix.now c.args.lines.now c.in-Some.chosen.place c.in-Ternary.after made c.requires.lines in
    fault_drawn c.args.limits.lines (c.args.pivots - 1) c.in-Some.chosen.state c.in-Ternary.after c.args.lines.now (tree_of c.in_ok-tree-in-Ternary.tree) made.shape are c.in_ok-tree-in-Ternary.ensures

pub find-returns-in-Violated : goal.find-returns-in-Violated
find-returns-in-Violated g t c =
    let m = c.args.matrix.now in
    let lines = c.args.lines.now in
    let shows = subst (IsPivotedPart m lines c.in-Some.chosen.place) c.in-Violated.is c.in_ok-fault.ensures in
    let at = choice_is m lines c.args.state c.in_ok-chosen.field-0 (Some c.in-Some.chosen) c.in-Some.is c.in_ok-chosen.ensures.place in
    IfOk-weaker c.leaf-in-Violated.result (λ node. tree_of node ≡ Branch lines (Violator c.in-Violated.fault) NoTrees) _
    (λ node e. found_two c.args.limits.lines c.args.pivots c.args.state m lines c.in-Some.chosen at (tree_of node) c.in-Violated.fault c.if-pivots-eq0.false shows e)
    c.leaf-in-Violated.ensures

pub find-returns-in_ok-tree-in-Ternary : goal.find-returns-in_ok-tree-in-Ternary
find-returns-in_ok-tree-in-Ternary g t c =
    let m = c.args.matrix.now in
    let lines = c.args.lines.now in
    let made = subst (IsPivotedPart m lines c.in-Some.chosen.place) c.in-Ternary.is c.in_ok-fault.ensures in
    let at = choice_is m lines c.args.state c.in_ok-chosen.field-0 (Some c.in-Some.chosen) c.in-Some.is c.in_ok-chosen.ensures.place in
    let found = tree_of c.in_ok-tree-in-Ternary.tree in
    IfOk-weaker c.pulled_back.result (λ node. IsMappedBack m lines c.in-Some.chosen.place found (verdict_of found) (tree_of node)) _
    (λ node mapped. found_after c.args.limits.lines c.args.pivots c.args.state m lines c.in-Some.chosen at (tree_of node) found c.in-Ternary.after c.if-pivots-eq0.false made c.in_ok-tree-in-Ternary.ensures mapped)
    c.pulled_back.ensures

-- ---- a draft that is settled

-- this child is among the children
next_child : (yielded : List Draft) (child : Draft) (left rest all items : List Draft) → left ≡ child ∷ rest → yielded ++ left ≡ all → all ≡ items → yielded ++ child ∷ rest ≡ items
next_child yielded child left rest all items e f g = ap (λ (some : List Draft). yielded ++ some) (sym e) ∙ f ∙ g

-- all are settled
all_yielded : (yielded left all items : List Draft) → length left ≡ 0 → yielded ++ left ≡ all → all ≡ items → yielded ≡ items
all_yielded yielded left all items e f g = sym (append-nil yielded) ∙ ap (λ (some : List Draft). yielded ++ some) (sym (no_items left e)) ∙ f ∙ g

-- one more node, by the trees of the nodes
one_more_node : (before after : List Node) (node : Node) → after ≡ before ++ node ∷ [] → map tree_of after ≡ map tree_of before ++ tree_of node ∷ []
one_more_node before after node e = ap (map tree_of) e ∙ map-append tree_of before (node ∷ [])

pub settle-returns-in-Some : goal.settle-returns-in-Some
settle-returns-in-Some g t c =
    let m = c.args.matrix.now in
    let found = subst (λ (o : Option LineSet). MatchOption o (HasNoLateFault m c.deref.result.now.lines (finding_shown c.deref-2.result.now.finding)) (λ fault. IsNamedFault m c.deref.result.now.lines fault × (is_unsearched (finding_shown c.deref-2.result.now.finding) ≡ true))) c.in-Some.is c.in_ok-fault.ensures in
    fault_settled c.args.limits.lines m c.args.drawn c.requires.drafted c.args.pivots c.args.state c.requires.shape (lines_in c.args.limits.lines m c.args.drawn c.requires.drafted c.requires.lines) c.in-Some.fault
    (subst (λ (opening : Opening). IsNamedFault m opening.lines c.in-Some.fault) c.deref.ensures found.0) (map tree_of c.args.nodes.now.items) (map tree_of c.push_fault.new.nodes.items)
    (subst (λ (lines : LineSet). map tree_of c.push_fault.new.nodes.items ≡ map tree_of c.args.nodes.now.items ++ Branch lines (Cycle c.in-Some.fault) NoTrees ∷ []) c.lines_of.ensures c.in_ok-push_fault.ensures)

pub settle-returns-then-is_undecided : goal.settle-returns-then-is_undecided
settle-returns-then-is_undecided g t c =
    let m = c.args.matrix.now in
    found_settled c.args.limits.lines m c.args.drawn c.requires.drafted c.args.pivots c.args.state
    (subst (λ (opening : Opening). is_undecided (finding_shown opening.finding) ≡ true) c.deref-3.ensures (sym c.is_undecided.ensures ∙ c.if-is_undecided.true)) (tree_of c.in_ok-found.found)
    (subst (λ (opening : Opening). IsFound c.args.limits.lines c.args.pivots c.args.state m opening.lines (tree_of c.in_ok-found.found)) c.deref-then-is_undecided.ensures
    (subst (λ (whole : Matrix). IsFound c.args.limits.lines c.args.pivots c.args.state whole c.deref-then-is_undecided.result.now.lines (tree_of c.in_ok-found.found)) c.by_rows-whole.ensures.matrix c.in_ok-found.ensures))
    (map tree_of c.args.nodes.now.items) (map tree_of c.push.new.self.items) (one_more_node c.args.nodes.now.items c.push.new.self.items c.in_ok-found.found c.in_ok-push.ensures.items)

pub settle-late_fault-requires-clause-lines : goal.settle-late_fault-requires-clause-lines
settle-late_fault-requires-clause-lines g t c =
    subst (λ (opening : Opening). AreLines c.args.matrix.now opening.lines) (sym c.deref.ensures) (lines_in c.args.limits.lines c.args.matrix.now c.args.drawn c.requires.drafted c.requires.lines)

pub settle-late_fault-requires-clause-free : goal.settle-late_fault-requires-clause-free
settle-late_fault-requires-clause-free g t c free =
    subst (λ (opening : Opening). HasNoneAmong c.args.matrix.now opening.lines) (sym c.deref.ensures) (none_if_free c.args.limits.lines c.args.matrix.now c.args.drawn c.requires.drafted free)

pub settle-find-requires : goal.settle-find-requires
settle-find-requires g t c =
    let m = c.args.matrix.now in
    let lines = c.deref-then-is_undecided.result.now.lines in
    let same : lines ≡ lines_of_sketch (sketch_of c.args.drawn) = ap (λ (opening : Opening). opening.lines) c.deref-then-is_undecided.ensures ∙ sym (lines_are c.args.drawn) in
    let size : size_of lines ≡ size_of (lines_of_sketch (sketch_of c.args.drawn)) = ap size_of same in
    let falls : 4 * (c.args.pivots + size_of lines) < t = omega (arith, c.decreases, size) in
    λ κs lives. (
      falls,
      (
        search rules,
        (
          search rules,
          (
            c.requires.state,
            (
              subst IsMatrix (sym c.by_rows-whole.ensures.matrix) c.requires.shape,
              subst (λ (whole : Matrix). AreLines whole lines) (sym c.by_rows-whole.ensures.matrix) (subst (AreLines m) (sym same) c.requires.lines),
            ),
          ),
        ),
      ),
    )

pub settle-settle-requires : goal.settle-settle-requires
settle-settle-requires g t c =
    let m = c.args.matrix.now in
    let at = c.loop-child in
    let child = c.in-Some-child.child in
    let all = next_child at.yielded child (into_iter_items at.child-iterator) (into_iter_items c.next.new.self) (into_iter_items c.into_iter-child-iterator.result) (drafts_in c.args.drawn)
    c.in-Some-child.ensures.steps.0 at.invariant.0 (c.into_iter-child-iterator.ensures.into_iter_gives.0 ∙ ap (λ d. d.children.items) (out-roll-Draft _)) in
    let known = child_at c.args.limits.lines m c.args.drawn c.requires.drafted at.yielded child (into_iter_items c.next.new.self) all in
    let fewer = known.1.fewer in
    let falls : 4 * (c.args.pivots + size_of (lines_of_sketch (sketch_of child))) + 2 < t = omega (arith, c.decreases, fewer) in
    λ κs lives. (
      falls,
      (
        search rules,
        (
          search rules,
          (
            c.requires.state,
            (
              c.requires.shape,
              (
                child_lines m (lines_of_sketch (sketch_of c.args.drawn)) (lines_of_sketch (sketch_of child)) c.requires.lines known.1,
                known.0,
              ),
            ),
          ),
        ),
      ),
    )

pub settle-loop-child-init : goal.settle-loop-child-init
settle-loop-child-init g t c = (
  refl,
  search rules,
  subst (λ (nodes : List Node). AreSettled c.args.limits.lines c.args.pivots c.args.state c.args.matrix.now [] (map tree_of nodes)) (sym c.new-children.ensures.items) ([], tt, refl),
)

pub settle-loop-child-preserved : goal.settle-loop-child-preserved
settle-loop-child-preserved g t c =
    let at = c.loop-child in
    let child = c.in-Some-child.child in
    let steps : into_iter_items at.child-iterator ≡ child ∷ into_iter_items c.next.new.self = c.in-Some-child.ensures.steps.0 in (
      append_assoc at.yielded (child ∷ []) _ ∙ ap (λ (some : List Draft). at.yielded ++ some) (sym steps) ∙ at.invariant.0,
      (let was = at.invariant.1 in
          let gone = c.in-Some-child.ensures.steps.1 in
          let short = ap length steps in
          omega arith),
      settled_next c.args.limits.lines c.args.matrix.now c.args.pivots c.args.state at.yielded child (map tree_of at.children.items) (map tree_of c.settle.new.nodes.items) at.invariant.2 c.in_ok-settle.ensures,
    )

pub settle-push_node-requires : goal.settle-push_node-requires
settle-push_node-requires g t c =
    let at = c.loop-child in
    let none = c.in-None.ensures.steps in
    let all = all_yielded at.yielded (into_iter_items at.child-iterator) (into_iter_items c.into_iter-child-iterator.result) (drafts_in c.args.drawn) (sym at.invariant.1 ∙ none.0) at.invariant.0 (c.into_iter-child-iterator.ensures.into_iter_gives.0 ∙ ap (λ d. d.children.items) (out-roll-Draft _)) in
    count_settled c.args.limits.lines c.args.matrix.now c.args.drawn c.requires.drafted c.args.pivots c.args.state at.children.items
    (subst (λ (drafts : List Draft). AreSettled c.args.limits.lines c.args.pivots c.args.state c.args.matrix.now (map (λ child. lines_of_sketch (sketch_of child)) drafts) (map tree_of at.children.items)) all at.invariant.2)

pub settle-returns : goal.settle-returns
settle-returns g t c =
    let m = c.args.matrix.now in
    let at = c.loop-child in
    let none = c.in-None.ensures.steps in
    let all = all_yielded at.yielded (into_iter_items at.child-iterator) (into_iter_items c.into_iter-child-iterator.result) (drafts_in c.args.drawn) (sym at.invariant.1 ∙ none.0) at.invariant.0 (c.into_iter-child-iterator.ensures.into_iter_gives.0 ∙ ap (λ d. d.children.items) (out-roll-Draft _)) in
    let late = subst (λ (o : Option LineSet). MatchOption o (HasNoLateFault m c.deref.result.now.lines (finding_shown c.deref-2.result.now.finding)) (λ fault. IsNamedFault m c.deref.result.now.lines fault × (is_unsearched (finding_shown c.deref-2.result.now.finding) ≡ true))) c.in_default.is c.in_ok-fault.ensures in
    whole_settled c.args.limits.lines m c.args.drawn c.requires.drafted c.args.pivots c.args.state at.children.items
    (subst (λ (drafts : List Draft). AreSettled c.args.limits.lines c.args.pivots c.args.state m (map (λ child. lines_of_sketch (sketch_of child)) drafts) (map tree_of at.children.items)) all at.invariant.2)
    (subst (λ (opening : Opening). is_undecided (finding_shown opening.finding) ≡ false) c.deref-3.ensures (sym c.is_undecided.ensures ∙ c.if-is_undecided.false))
    (subst (λ (opening : Opening). HasNoLateFault m (opening_in c.args.drawn).lines (finding_shown opening.finding)) c.deref-2.ensures (subst (λ (opening : Opening). HasNoLateFault m opening.lines (finding_shown c.deref-2.result.now.finding)) c.deref.ensures late))
    (map tree_of c.args.nodes.now.items) (map tree_of c.push_node.new.nodes.items) c.in_ok-push_node.ensures
