use Rattle.std.proofs.Common.{◌≡◌, ◌++◌, ◌∷◌, [], ◌∙◌, None, Ok, map, ap, subst, arith}
use Rattle.std.proofs.lemmas.Result.{err_from_is_err_and}
use Rattle.text_fields.specs.Reading.{Fails}
use Rattle.tree_type.specs.DecompositionTrees.{tree_of}
use Rattle.tree_text.specs.TreeReading.{another_tree, node}
use Rattle.tree_text.proofs.Nodes.{first_fails, only_one, not_none}
use Rattle.tree_text.proofs.read.read_root.Goals as goal

pub returns-in_err-read_node : goal.returns-in_err-read_node
returns-in_err-read_node c =
    let p = err_from_is_err_and c.from_residual.result c.from_residual.ensures.1 in
    let e = c.in_err-read_node.field-0.0 in
    let read = node c.args.header c.args.levels None in
    let failed : Fails e (another_tree read [] c.args.words.now) = subst (λ nodes. Fails e (another_tree read (map tree_of nodes) c.args.words.now)) c.new-roots.ensures.items c.in_err-read_node.ensures in
    rw (p.1, p.2) (first_fails read c.args.words.now e failed)

pub unreachable-requires : goal.unreachable-requires
unreachable-requires c =
    let read = node c.args.header c.args.levels None in
    let made : another_tree read [] c.args.words.now ≡ Ok (map tree_of c.read_node.new.nodes.items, c.read_node.new.words) =
    subst (λ nodes. another_tree read (map tree_of nodes) c.args.words.now ≡ Ok (map tree_of c.read_node.new.nodes.items, c.read_node.new.words)) c.new-roots.ensures.items c.in_ok-read_node.ensures in
    not_none read c.args.words.now c.read_node.new.nodes.items c.read_node.new.words made (let z = c.in_default.ensures.cases.0 in let k = c.read_node.new.nodes.ok in omega (arith, k, z))

pub returns : goal.returns
returns c =
    let read = node c.args.header c.args.levels None in
    let made : another_tree read [] c.args.words.now ≡ Ok (map tree_of (c.pop.new.self.items ++ c.in-Some.root ∷ []), c.read_node.new.words) =
    subst (λ nodes. another_tree read (map tree_of nodes) c.args.words.now ≡ Ok (map tree_of c.read_node.new.nodes.items, c.read_node.new.words)) c.new-roots.ensures.items c.in_ok-read_node.ensures
    ∙ ap (λ nodes. Ok (map tree_of nodes, c.read_node.new.words)) c.in-Some.ensures.items in
    only_one read c.args.words.now c.pop.new.self.items c.in-Some.root c.read_node.new.words made
