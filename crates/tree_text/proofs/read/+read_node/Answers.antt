use Rattle.std.proofs.Common.{◌≡◌, [], ◌∙◌, ◌<◌, ◌≤◌, ◌+◌, ◌-◌, Some, Ok, map, ap, sym, subst, option_copied}
use Rattle.std.proofs.lemmas.Result.{err_from_is_err_and}
use Rattle.text_fields.specs.Reading.{times, Fails}
use Rattle.text_fields.proofs.Times.{goes_on, ends, is_done}
use Rattle.tree_type.specs.DecompositionTrees.{Branch, tree_of, trees_from}
use Rattle.tree_text.specs.declared.own_part.Opening.{Opening}
use Rattle.tree_text.specs.ReadFindings.{opening_shown}
use Rattle.tree_text.specs.TreeReading.{another_tree, node}
use Rattle.tree_text.proofs.Nodes.{levels_left, children_fail, node_made, child_fails, child_joined, one_node_more}
use Rattle.tree_text.proofs.read.+read_node.Goals as goal

pub returns-in_err-read_node : goal.returns-in_err-read_node
returns-in_err-read_node t c =
    let p = err_from_is_err_and c.from_residual-in_err-read_node.result c.from_residual-in_err-read_node.ensures.1 in
    let e = c.in_err-read_node.field-0.0 in
    let parent = option_copied c.args.parent in
    let levels = c.args.levels - 1 in
    let head = opening_shown c.in_ok-opening.opening.value in
    let step = another_tree (node c.args.header levels (Some head.lines)) in
    let total = times step head.children [] c.read_opening.new.words in
    let within = subst (λ (f : Opening). c.loop.counter < f.children) c.deref.ensures c.loop-test.true in
    let failed = subst (λ (f : Opening). Fails e (another_tree (node c.args.header levels (Some f.lines)) (map tree_of c.loop.children.items) c.loop.words)) c.deref-in-loop.ensures c.in_err-read_node.ensures in
    let below = ends step head.children c.loop.counter (map tree_of c.loop.children.items) c.loop.words total within e failed c.loop.invariant.read in
    let here = subst (Fails e) (sym (levels_left c.args.header c.args.levels parent c.args.words.now c.if-levels-eq0.false)) (children_fail c.args.header levels parent c.args.words.now head c.read_opening.new.words c.in_ok-opening.ensures.read e below) in
    rw (p.1, p.2) (child_fails (node c.args.header c.args.levels parent) (map tree_of c.args.nodes.now.items) c.args.words.now e here)

pub loop-preserved : goal.loop-preserved
loop-preserved t c =
    let head = opening_shown c.in_ok-opening.opening.value in
    let read = node c.args.header (c.args.levels - 1) (Some head.lines) in
    let total = times (another_tree read) head.children [] c.read_opening.new.words in
    let within = subst (λ (f : Opening). c.loop.counter < f.children) c.deref.ensures c.loop-test.true in
    let made = subst (λ (f : Opening). another_tree (node c.args.header (c.args.levels - 1) (Some f.lines)) (map tree_of c.loop.children.items) c.loop.words ≡ Ok (map tree_of c.read_node.new.nodes.items, c.read_node.new.words)) c.deref-in-loop.ensures c.in_ok-read_node.ensures in record {
      read = goes_on (another_tree read) head.children c.loop.counter (map tree_of c.loop.children.items) c.loop.words total within (map tree_of c.read_node.new.nodes.items) c.read_node.new.words made c.loop.invariant.read;
      len = one_node_more read c.loop.children.items c.read_node.new.nodes.items c.loop.words c.read_node.new.words made ∙ ap (λ n. n + 1) c.loop.invariant.len;
    }

pub returns : goal.returns
returns t c =
    let parent = option_copied c.args.parent in
    let levels = c.args.levels - 1 in
    let head = opening_shown c.in_ok-opening.opening.value in
    let trees = map tree_of c.loop.children.items in
    let step = another_tree (node c.args.header levels (Some head.lines)) in
    let total = times step head.children [] c.read_opening.new.words in
    let past = subst (λ (f : Opening). f.children ≤ c.loop.counter) c.deref.ensures c.loop-test.false in
    let all = is_done step head.children c.loop.counter trees c.loop.words total past c.loop.invariant.read in
    let made = levels_left c.args.header c.args.levels parent c.args.words.now c.if-levels-eq0.false ∙ node_made c.args.header levels parent c.args.words.now head c.read_opening.new.words c.in_ok-opening.ensures.read trees c.loop.words all in
    child_joined (node c.args.header c.args.levels parent) (map tree_of c.args.nodes.now.items) c.args.words.now (Branch head.lines head.finding (trees_from trees)) c.loop.words made
    ∙ ap (λ ts. Ok (ts, c.loop.words)) (sym c.in_ok-push_node.ensures)
