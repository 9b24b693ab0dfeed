use Rattle.std.proofs.Common.{◌+◌, ◌∙◌, sym, subst}
use Rattle.std.proofs.lemmas.Option.{MatchOption-at_none, MatchOption-at_some}
use Rattle.cmr_base.specs.declared.network.Network.{Network}
use Rattle.cmr_base.specs.Matrix.{entry, height}
use Rattle.cmr_base.specs.Trees.{Reproduces}
use Rattle.cmr_base.proofs.ReproducedCuts.{support_realised}
use Rattle.cmr_base.proofs.WholeMatrices.{is_ternary}
use Rattle.ghouila.proofs.NetworkSignings.{networks_are_unimodular}
use Rattle.network_orient.specs.SignsBetween.{AreSignsBetween}
use Rattle.network_orient.proofs.Orientations.{one_support, agree_before, agrees_where_network, reversed_reproduces}
use Rattle.network_orient.proofs.orienting.orientation_of.Goals as goal

pub returns-in_default : goal.returns-in_default
returns-in_default c =
    let m = c.args.matrix.now in
    let none = MatchOption-at_none _ _ c.in_default.is c.in_ok-net.ensures in
    ((λ (net, network). none (net, support_realised net (entry m) (height m) m.width network)), none)

pub signs_between-requires : goal.signs_between-requires
signs_between-requires c =
    let m = c.args.matrix.now in
    let reproduced = c.in_ok-reproduced in
    one_support c.in-Some.net reproduced.reproduced m reproduced.ensures.shape.rectangular c.rows.ensures.shape.rectangular (reproduced.ensures.rows ∙ c.rows.ensures.rows) (reproduced.ensures.columns ∙ c.columns.ensures.columns)
    reproduced.ensures.reproduced (MatchOption-at_some _ _ c.in-Some.net c.in-Some.is c.in_ok-net.ensures)

pub returns-in-WrongRow : goal.returns-in-WrongRow
returns-in-WrongRow c =
    let m = c.args.matrix.now in
    let reproduced = c.in_ok-reproduced in
    let realised = MatchOption-at_some _ _ c.in-Some.net c.in-Some.is c.in_ok-net.ensures in
    let wrong = subst (AreSignsBetween reproduced.reproduced m) c.in-WrongRow.is c.in_ok-signs.ensures in (
      (λ network. wrong.none (agree_before (entry reproduced.reproduced) (entry m) (c.in-WrongRow.row + 1) (agrees_where_network c.in-Some.net reproduced.reproduced m (is_ternary reproduced.reproduced reproduced.ensures.shape) (is_ternary m c.rows.ensures.shape) (reproduced.ensures.rows ∙ c.rows.ensures.rows) (reproduced.ensures.columns ∙ c.columns.ensures.columns)
          reproduced.ensures.reproduced realised network))),
      realised,
      wrong.first (networks_are_unimodular reproduced.reproduced (is_ternary reproduced.reproduced reproduced.ensures.shape) (c.in-Some.net, reproduced.ensures.reproduced)).1,
    )

pub returns-in_ok-reversed_network-in-Found : goal.returns-in_ok-reversed_network-in-Found
returns-in_ok-reversed_network-in-Found c =
    let m = c.args.matrix.now in
    let reproduced = c.in_ok-reproduced in
    let signs = c.in-Found.signs in
    let are = subst (AreSignsBetween reproduced.reproduced m) c.in-Found.is c.in_ok-signs.ensures in
    subst (λ (net : Network). Reproduces net m) (sym c.in_ok-reversed_network-in-Found.ensures)
    (reversed_reproduces c.in-Some.net reproduced.reproduced m signs.rows.items signs.columns.items (reproduced.ensures.rows ∙ c.rows.ensures.rows) (reproduced.ensures.columns ∙ c.columns.ensures.columns)
    reproduced.ensures.reproduced are.multiplied)
