use Rattle.std.proofs.Common.{arith}
use Rattle.cmr_base.specs.Matrix.{entry}
use Rattle.cmr_base.proofs.Booleans.{nonzero_is, zero_is}
use Rattle.network_orient.proofs.ForcedSigns.{none_joined, zeros_joined, one_joined, all_joined}
use Rattle.network_orient.proofs.column_groups.ColumnGroups.join_row.Goals as goal

pub loop-column-init : goal.loop-column-init
loop-column-init c = record { few = omega arith; joined = none_joined c.args.from.now c.args.to.now c.args.row c.in-Some.first c.args.self.now.groups.items c.args.self.now.signs.items c.requires.groups }

pub join-requires-clause-other_nonzero : goal.join-requires-clause-other_nonzero
join-requires-clause-other_nonzero c = nonzero_is (entry c.args.from.now c.args.row c.in-Some-next_nonzero.column) c.in-Some-next_nonzero.ensures.first.2

pub loop-column-preserved : goal.loop-column-preserved
loop-column-preserved c =
    let m = c.args.from.now in
    let n = c.args.to.now in
    let old = c.args.self.now.groups.items in
    let signs = c.args.self.now.signs.items in
    let now = c.loop-column.self in
    let next = c.in-Some-next_nonzero.column in
    let found = c.in-Some-next_nonzero.ensures.first in
    let small = c.in-Some-next_nonzero.ensures.small in record {
      few = omega arith;
      joined = one_joined m n c.args.row c.in-Some.first old signs next now.groups.items c.join.new.self.groups.items now.signs.items c.join.new.self.signs.items found.1 c.in-Some.ensures.0
          (zeros_joined m n c.args.row c.in-Some.first old signs c.loop-column.place next now.groups.items now.signs.items c.loop-column.invariant.joined (λ column past l. zero_is (entry m c.args.row column) (found.3 column past l)))
          c.join.ensures.groups c.join.ensures.coarser.0 c.join.ensures.coarser.1 c.join.ensures.joined;
    }

pub returns-clause-joined : goal.returns-clause-joined
returns-clause-joined c =
    let m = c.args.from.now in
    let n = c.args.to.now in
    let old = c.args.self.now.groups.items in
    let signs = c.args.self.now.signs.items in
    let now = c.loop-column.self in
    all_joined m n c.args.row c.in-Some.first old signs now.groups.items now.signs.items
    (zeros_joined m n c.args.row c.in-Some.first old signs c.loop-column.place m.width now.groups.items now.signs.items c.loop-column.invariant.joined (λ column past l. zero_is (entry m c.args.row column) (c.in_default-next_nonzero.ensures.first column past)))
