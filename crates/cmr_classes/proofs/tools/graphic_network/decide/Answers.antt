use Rattle.std.proofs.Common.{option_map, subst}
use Rattle.std.specs.Prelude.{MatchOption}
use Rattle.std.proofs.lemmas.Option.{MatchOption-at_none}
use Rattle.std.proofs.lemmas.Result.{IfOk-weaker}
use Rattle.cmr_front.specs.Minimal.{IsMinimalAsked}
use Rattle.cmr_classes.specs.GraphicNetwork.{Has, Shows, yes, no, tested_lines}
use Rattle.cmr_classes.proofs.GraphicNetworkAnswers.{asked_below, has_shown}
use Rattle.cmr_classes.proofs.tools.graphic_network.decide.Goals as goal

pub yes-requires : goal.yes-requires
yes-requires c =
    let p = c.args.property in
    subst (λ found. MatchOption found (¬ (Has p c.args.tested.now)) (λ net. Shows p net c.args.tested.now)) c.in-Some.is c.in_ok-network.ensures

pub returns-in-Some : goal.returns-in-Some
returns-in-Some c =
    let p = c.args.property in
    let shows = subst (λ found. MatchOption found (¬ (Has p c.args.tested.now)) (λ net. Shows p net c.args.tested.now)) c.in-Some.is c.in_ok-network.ensures in
    let has = has_shown p c.args.tested.now c.in-Some.network c.requires.testable shows in
    IfOk-weaker c.yes.result _ _
    (λ outcome is. yes c.in-Some.network (record { has = subst (Has p) c.requires.is_tested has; shows = subst (Shows p c.in-Some.network) c.requires.is_tested shows }) is) c.yes.ensures

pub no-requires-clause-rows : goal.no-requires-clause-rows
no-requires-clause-rows c =
    let p = c.args.property in
    let transposed = c.args.options.now.transposed in
    let name = option_map (λ name. name.now) c.args.options.now.minimal in
    let minimal = c.in_ok-minimal.minimal in
    (asked_below p transposed c.args.matrix.now name minimal (subst (λ m. IsMinimalAsked (Has p) m name (option_map (tested_lines transposed) minimal)) c.requires.is_tested c.in_ok-minimal.ensures)).0

pub no-requires-clause-columns : goal.no-requires-clause-columns
no-requires-clause-columns c =
    let p = c.args.property in
    let transposed = c.args.options.now.transposed in
    let name = option_map (λ name. name.now) c.args.options.now.minimal in
    let minimal = c.in_ok-minimal.minimal in
    (asked_below p transposed c.args.matrix.now name minimal (subst (λ m. IsMinimalAsked (Has p) m name (option_map (tested_lines transposed) minimal)) c.requires.is_tested c.in_ok-minimal.ensures)).1

pub returns : goal.returns
returns c =
    let p = c.args.property in
    let transposed = c.args.options.now.transposed in
    let name = option_map (λ name. name.now) c.args.options.now.minimal in
    let minimal = c.in_ok-minimal.minimal in
    let lacks = MatchOption-at_none (¬ (Has p c.args.tested.now)) (λ net. Shows p net c.args.tested.now) c.in_default.is c.in_ok-network.ensures in
    IfOk-weaker c.no.result _ _ (λ outcome is. no minimal (record {
      lacks = subst (λ m. ¬ (Has p m)) c.requires.is_tested lacks;
      asked = subst (λ m. IsMinimalAsked (Has p) m name (option_map (tested_lines transposed) minimal)) c.requires.is_tested c.in_ok-minimal.ensures;
    }) is) c.no.ensures
