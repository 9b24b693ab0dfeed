use Rattle.std.proofs.Common.{◌≡◌, ◌<◌, ◌+◌, ◌*◌, ◌/◌, ◌∙◌, ℕ, List, get_or, ap, sym, arith}
use Rattle.std.proofs.lemmas.List.{get_or_read}
use Rattle.cmr_base.specs.Matrix.{is_nonzero}
use Rattle.cmr_base.specs.Planes.{words_for}
use Rattle.cmr_base.proofs.PlaneWords.{word-rows}
use Rattle.cmr_base.proofs.Views.{are_planes, is_matrix, place_in, width_is}
use Rattle.cmr_base.proofs.matrix.Matrix.support_word.Goals as goal

pub place_of-requires-clause-row : goal.place_of-requires-clause-row
place_of-requires-clause-row c = let is = is_matrix c.self.inside c.args.self.now c.self.view_is c.self.invariant in omega (arith, c.requires.row, is.height_in)

pub index-requires : goal.index-requires
index-requires c =
    let a = c.self.inside in
    let planes = are_planes a c.args.self.now c.self.view_is c.self.invariant in
    omega (arith, a.support.ok, c.place_of.ensures, place_in a c.args.self.now is_nonzero a.support.items c.args.row (64 * c.args.chunk) c.self.view_is planes.support_is c.requires.row c.requires.chunk)

pub returns : goal.returns
returns c =
    let a = c.self.inside in
    let m = c.args.self.now in
    let planes = are_planes a m c.self.view_is c.self.invariant in
    let wide = width_is a m c.self.view_is in
    let chunk : 64 * c.args.chunk / 64 ≡ c.args.chunk = omega arith in
    let within : c.args.chunk < words_for m.width = omega (arith, c.requires.chunk) in
    let inside = place_in a m is_nonzero a.support.items c.args.row (64 * c.args.chunk) c.self.view_is planes.support_is c.requires.row c.requires.chunk in
    let place : c.place_of.result ≡ c.args.row * words_for m.width + c.args.chunk =
    c.place_of.ensures ∙ ap (λ (n : ℕ). c.args.row * words_for a.columns + n) chunk ∙ ap (λ (n : ℕ). c.args.row * words_for n + c.args.chunk) (sym wide) in
    get_or_read a.support.items c.place_of.result c.index.result.now (omega (arith, c.place_of.ensures, inside)) c.index.ensures 0
    ∙ ap (λ (n : ℕ). get_or a.support.items n 0) place
    ∙ ap (λ (ws : List ℕ). get_or ws (c.args.row * words_for m.width + c.args.chunk) 0) planes.support_is
    ∙ word-rows (words_for m.width) is_nonzero m.rows c.args.row c.args.chunk c.requires.row within
