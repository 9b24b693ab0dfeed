use Rattle.std.proofs.Common.{inl, inr}
use Rattle.std.proofs.lemmas.Result.{IfOk-weaker}
use Rattle.cmr_base.specs.Separations.{opposite}
use Rattle.cmr_base.proofs.Booleans.{not_both}
use Rattle.path_places.specs.PathPlaces.{IsFit}
use Rattle.path_places.specs.SideMasks.{side_of}
use Rattle.path_places.proofs.UniquePlaces.{none_if_fit, none_in_one, none_in_two, option_weaker}
use Rattle.path_places.proofs.path_place.cut_place.Goals as goal

pub returns-then-not-is_fit : goal.returns-then-not-is_fit
returns-then-not-is_fit c =
    let m = c.args.matrix.now in
    let side = side_of c.args.lines.now in
    let fit = rw c.in_ok-one.ensures.matrix at (c.is_fit.ensures side c.in_ok-one.ensures.side) in
    let unfit : IsFit m side → ⊥ = λ yes. not_both c.is_fit.result (fit.1 yes) c.if-not-is_fit.true in
    IfOk-weaker c.path_place.result _ _ (λ found h. option_weaker found _ _ _ _ (none_in_one m side unfit) (λ place p. inl (unfit, p)) (rw c.in_ok-one.ensures.matrix at (h side c.in_ok-one.ensures.side))) c.path_place.ensures

pub returns-then-not-is_fit-2 : goal.returns-then-not-is_fit-2
returns-then-not-is_fit-2 c =
    let m = c.args.matrix.now in
    let side = side_of c.args.lines.now in
    let one = rw c.in_ok-one.ensures.matrix at (c.is_fit.ensures side c.in_ok-one.ensures.side) in
    let two = rw c.in_ok-two.ensures.matrix at (c.is_fit-2.ensures (opposite side) c.in_ok-two.ensures.side) in
    let fit : IsFit m side = one.0 c.if-not-is_fit.false in
    let unfit : IsFit m (opposite side) → ⊥ = λ other. not_both c.is_fit-2.result (two.1 other) c.if-not-is_fit-2.true in
    IfOk-weaker c.path_place-then-not-is_fit-2.result _ _ (λ found h. option_weaker found _ _ _ _ (none_in_two m side fit) (λ place p. inr (fit, unfit, p)) (rw c.in_ok-two.ensures.matrix at (h (opposite side) c.in_ok-two.ensures.side))) c.path_place-then-not-is_fit-2.ensures

pub returns : goal.returns
returns c =
    let m = c.args.matrix.now in
    let side = side_of c.args.lines.now in
    let one = rw c.in_ok-one.ensures.matrix at (c.is_fit.ensures side c.in_ok-one.ensures.side) in
    let two = rw c.in_ok-two.ensures.matrix at (c.is_fit-2.ensures (opposite side) c.in_ok-two.ensures.side) in
    none_if_fit m side (one.0 c.if-not-is_fit.false) (two.0 c.if-not-is_fit-2.false)
