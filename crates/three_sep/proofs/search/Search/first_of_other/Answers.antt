use Rattle.std.proofs.Common.{sym, ap, ◌∙◌, Bool}
use Rattle.cmr_base.specs.declared.line.Line.{Line}
use Rattle.line_growth.specs.GrowingSets.{set_of}
use Rattle.three_sep.specs.Connectors.{connectors_at}
use Rattle.three_sep.specs.Searches.{other_line}
use Rattle.three_sep.proofs.SearchLemmas.{no_good_second}
use Rattle.three_sep.proofs.SideLemmas.{no_good_held}
use Rattle.three_sep.proofs.search.Search.first_of_other.Goals as goal

pub returns-then-not-is_second_other-clause-found : goal.returns-then-not-is_second_other-clause-found
returns-then-not-is_second_other-clause-found c =
    no_good_second c.args.self.now.matrix.now c.args.form c.requires.crossing (connectors_at c.args.corners.now c.args.q c.args.o) (c.is_second_other.ensures.no c.if-not-is_second_other.true)

pub returns-then-has-clause-found : goal.returns-then-has-clause-found
returns-then-has-clause-found c =
    let side = c.args.self.now.sides.side in
    no_good_held c.args.self.now.matrix.now c.args.form c.requires.crossing c.args.corners.now c.args.q c.args.o (set_of side) c.requires.held.least c.requires.line
    (ap (λ (z : Line). set_of side z) (sym (c.line_of.ensures ∙ ap (λ (z : Bool). other_line z c.args.o) c.second_is_flat.ensures)) ∙ sym c.has.ensures ∙ c.if-has.true)
