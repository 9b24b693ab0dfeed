use Rattle.std.proofs.Common.{◌<◌, ◌&&◌, ◌||◌, ◌∙◌, not, ℕ, List, Option, Some, sym, ap, refl, subst, arith, get_or, set, add-one}
use Rattle.cmr_base.specs.Matrix.{height}
use Rattle.cmr_base.specs.Trees.{support}
use Rattle.cmr_base.proofs.Members.{in_at}
use Rattle.cmr_base.proofs.Parts.{length-increasing}
use Rattle.cmr_base.specs.ColumnSets.{has_column}
use Rattle.bridge_split.specs.PartNumbers.{number_at, IsBetween}
use Rattle.bridge_split.proofs.PartWalks.{part_done}
use Rattle.bridge_split.proofs.NumberSteps.{starts_from}
use Rattle.bridge_split.proofs.part_walk.PartWalk.walk_from.Goals as goal

pub loop-met-init : goal.loop-met-init
loop-met-init c =
    let m = c.args.matrix.now in
    let S = c.args.rows.now in
    let i = c.args.row in
    let place = c.args.place in
    let x = get_or S place 0 in
    let s = c.args.self.now in
    let few : c.args.number < 1000 =
    let g = length-increasing S (height m) c.requires.increasing c.requires.rows in
    let h = c.requires.numbering.room.room.matrix.height_in in
    let f = c.requires.numbering.fewer in
    let l = c.requires.place in omega (arith, g, h, f, l) in
    starts_from m S i c.args.number x s c.meet.new.self (in_at S place c.requires.place) (c.requires.rows place c.requires.place) c.requires.left c.requires.numbering.room.room
    (c.meet.ensures.part ∙ ap (λ (v : List (Option ℕ)). set v x (Some c.args.number)) c.forget.ensures.part)
    place c.requires.increasing c.requires.numbering.between c.requires.place refl c.requires.numbering.before few c.meet.ensures.room
    (λ column. c.meet.ensures.reached column ∙ ap (λ t. t || (support m x column && not (support m i column))) (c.forget.ensures.none column))

pub meet_touched-met-requires-clause-few : goal.meet_touched-met-requires-clause-few
meet_touched-met-requires-clause-few c =
    let g = length-increasing c.args.rows.now (height c.args.matrix.now) c.requires.increasing c.requires.rows in
    let h = c.requires.numbering.room.room.matrix.height_in in omega (arith, g, h)

pub loop-met-preserved : goal.loop-met-preserved
loop-met-preserved c =
    let now = c.meet_touched-met.ensures in
    let so = c.loop-met.invariant in record {
      room = now.room;
      walk = now.walk;
      keeps = λ k a e. now.keeps k a (so.keeps k a e);
      first_in = now.keeps (get_or c.args.rows.now c.args.place 0) c.args.number so.first_in;
      none = now.none;
    }

pub returns-clause-between : goal.returns-clause-between
returns-clause-between c =
    let s = c.loop-met.self in
    let so = c.loop-met.invariant in
    subst (IsBetween (support c.args.matrix.now) c.args.rows.now c.args.row (number_at s.part.items)) (sym (add-one c.args.number))
    (part_done (support c.args.matrix.now) c.args.rows.now c.args.row (number_at s.part.items) c.args.number (has_column s.reached.words) so.walk (so.none (let l = c.loop-met-test.false in omega arith)))
