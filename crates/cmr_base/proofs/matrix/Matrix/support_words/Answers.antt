use Rattle.std.proofs.Common.{◌≡◌, ◌∙◌, ◌+◌, ◌*◌, ◌≤◌, ℕ, List, take, drop, length, ap, sym, subst}
use Rattle.cmr_base.specs.Matrix.{is_nonzero}
use Rattle.cmr_base.specs.Planes.{words_for}
use Rattle.cmr_base.proofs.Views.{are_planes, row_inside, row_is, width_is}
use Rattle.cmr_base.proofs.matrix.Matrix.support_words.Goals as goal

pub row_words-requires-clause-row : goal.row_words-requires-clause-row
row_words-requires-clause-row c =
    let a = c.self.inside in
    let m = c.args.self.now in
    let planes = are_planes a m c.self.view_is c.self.invariant in
    let words : c.words_for.result ≡ words_for m.width = c.words_for.ensures ∙ ap words_for (sym (width_is a m c.self.view_is)) in
    subst (λ (ws : List ℕ). c.args.row * c.words_for.result + c.words_for.result ≤ length ws) (sym c.deref.ensures.value)
    (row_inside m is_nonzero a.support.items c.args.row c.words_for.result planes.support_is words c.requires)

pub returns : goal.returns
returns c =
    let a = c.self.inside in
    let m = c.args.self.now in
    let planes = are_planes a m c.self.view_is c.self.invariant in
    let words : c.words_for.result ≡ words_for m.width = c.words_for.ensures ∙ ap words_for (sym (width_is a m c.self.view_is)) in
    c.row_words.ensures
    ∙ ap (λ (ws : List ℕ). take c.words_for.result (drop (c.args.row * c.words_for.result) ws)) c.deref.ensures.value
    ∙ row_is m is_nonzero a.support.items c.args.row c.words_for.result planes.support_is words c.requires
