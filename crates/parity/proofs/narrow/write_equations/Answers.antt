use Rattle.std.proofs.Common.{◌≡◌, ◌∙◌, ◌++◌, ◌∷◌, [], ap, sym, take, get_or}
use Rattle.cmr_base.specs.Matrix.{is_nonzero}
use Rattle.parity.specs.PlaneSums.{equations_of, support_of, without_columns}
use Rattle.parity.proofs.PlaneLemmas.{one_word}
use Rattle.parity.proofs.Systems.{equations_more}
use Rattle.parity.proofs.narrow.write_equations.Goals as goal

pub loop-row-preserved : goal.loop-row-preserved
loop-row-preserved c =
    let m = c.args.matrix.now in
    let excluded = c.args.ones in
    let rows = c.args.rows.now in
    let i = c.loop-row.row-index in
    let row = get_or rows i 0 in
    let word : c.support_word.result ≡ support_of m row = c.support_word.ensures ∙ one_word m is_nonzero row c.requires.shape (c.requires.rows i c.loop-row-test.true) c.requires.narrow in
    c.in_ok-push.ensures.items
    ∙ ap (λ items. items ++ c.without.result ∷ []) c.loop-row.invariant
    ∙ ap (λ n. equations_of m excluded (take i rows) ++ n ∷ []) (c.without.ensures ∙ ap (without_columns excluded) word)
    ∙ sym (equations_more m excluded rows i c.loop-row-test.true)
