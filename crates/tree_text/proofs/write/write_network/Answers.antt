use Rattle.std.proofs.Common.{◌≡◌, ◌<◌, ◌∙◌, length, ap, subst, arith}
use Rattle.std.specs.Prelude.{OnOk, fold}
use Rattle.std.specs.List.{flat_map}
use Rattle.text_fields.specs.Written.{Draft, with_word}
use Rattle.tree_text.specs.CanonicalTrees.{pair_words, network_words}
use Rattle.tree_text.proofs.WrittenLines.{network_ended, arcs_some, walks_some}
use Rattle.tree_text.proofs.write.write_network.Goals.{else-len-eq0-via-then-len-eq0+else-len-eq0-2, else-len-eq0-via-else-len-eq0}
use Rattle.tree_text.proofs.write.write_network.Goals as goal

pub returns : goal.returns
returns c =
    let n = c.args.net.now in
    let some : 0 < length (network_words n) = elim c.else-len-eq0.branch [
      | else-len-eq0-via-then-len-eq0+else-len-eq0-2 w ↦ walks_some n (let e = w.len-then-len-eq0.ensures in let z = w.if-len-eq0-2.false in omega (arith, e, z))
      | else-len-eq0-via-else-len-eq0 w ↦ arcs_some n (let e = c.len.ensures in let z = w.if-len-eq0.false in omega (arith, e, z))
    ] in
    let arcs = c.in_ok-write_pairs.ensures ∙ ap (λ pairs. fold with_word c.args.text.now (flat_map pair_words pairs)) c.as_slice.ensures in
    let walks = c.in_ok-write_pairs-2.ensures ∙ ap (λ pairs. fold with_word c.write_pairs.new.text (flat_map pair_words pairs)) c.as_slice-2.ensures in
    subst (λ (d : Draft). OnOk c.end_line.result (c.end_line.new.self ≡ d)) (network_ended c.write_pairs-2.new.text c.write_pairs.new.text c.args.text.now n walks arcs c.requires some) c.end_line.ensures
