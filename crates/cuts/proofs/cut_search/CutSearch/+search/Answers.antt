use Rattle.std.proofs.Common.{MatchOption, Option, ◌+◌, ◌-◌, ◌*◌, ◌<◌, subst, sym, ap, arith}
use Rattle.cuts.specs.declared.line_patterns.Halves.{Halves}
use Rattle.cuts.specs.declared.sides.Side.{Side}
use Rattle.cuts.specs.Covers.{Covers}
use Rattle.cuts.specs.CutSides.{AreHalves, HasNumbers, IsForced}
use Rattle.cmr_base.specs.LineMasks.{as_set}
use Rattle.cuts.proofs.CoverLemmas.{covers_halves, covers_halves_beside, covers_line}
use Rattle.cuts.proofs.ForcedLemmas.{covers_forced, covers_forced_beside}
use Rattle.cuts.proofs.SearchSteps.{covered_at_once, covers_shared, gave_up, marked_at, marked_rest, numbered_at, searched_as, searched_both}
use Rattle.cuts.proofs.cut_search.CutSearch.+search.Goals as goal

pub search-returns-in-Some-clause-marked : goal.search-returns-in-Some-clause-marked
search-returns-in-Some-clause-marked t c =
    let m = c.args.self.now.matrix.now in
    let one = c.args.one.now in
    let two = c.args.two.now in
    let more = c.in-Some.more in
    let so = subst (λ (v : Option Side). MatchOption v (Unit {0}) (IsForced m one two.lines)) c.in-Some.is c.in_ok-more.ensures in
    searched_as m one two more two c.args.self.now.separated c.search.new.self.separated c.search.result (λ P h. covers_forced m one more two.lines P so h) c.search.ensures.marked

pub search-returns-in-Some-2-clause-marked : goal.search-returns-in-Some-2-clause-marked
search-returns-in-Some-2-clause-marked t c =
    let m = c.args.self.now.matrix.now in
    let one = c.args.one.now in
    let two = c.args.two.now in
    let more = c.in-Some-2.more in
    let so = subst (λ (v : Option Side). MatchOption v (Unit {0}) (IsForced m two one.lines)) c.in-Some-2.is c.in_ok-more-2.ensures in
    searched_as m one two one more c.args.self.now.separated c.search-in-Some-2.new.self.separated c.search-in-Some-2.result (λ P h. covers_forced_beside m two more one.lines P so h) c.search-in-Some-2.ensures.marked

pub search_state-returns-then-are_few-clause-marked : goal.search_state-returns-then-are_few-clause-marked
search_state-returns-then-are_few-clause-marked t c =
    let m = c.args.self.now.matrix.now in
    let separated = c.args.self.now.separated in
    let one = subst (λ (side : Side). Covers m (as_set side.lines) (as_set c.args.two.now.lines) (as_set separated)) c.in_ok-near.ensures (c.are_few.ensures.near c.if-are_few.true m c.rows-shape.ensures.shape (subst (λ (side : Side). HasNumbers m side) (sym c.in_ok-near.ensures) c.requires.near) (as_set c.args.two.now.lines) (as_set separated)) in
    covered_at_once m c.args.one.now c.args.two.now separated one

pub search_state-returns-then-are_few-2-clause-marked : goal.search_state-returns-then-are_few-2-clause-marked
search_state-returns-then-are_few-2-clause-marked t c =
    let m = c.args.self.now.matrix.now in
    let separated = c.args.self.now.separated in
    let two = subst (λ (side : Side). Covers m (as_set c.args.one.now.lines) (as_set side.lines) (as_set separated)) c.in_ok-far.ensures (c.are_few-2.ensures.far c.if-are_few-2.true m c.rows-shape.ensures.shape (subst (λ (side : Side). HasNumbers m side) (sym c.in_ok-far.ensures) c.requires.far) (as_set c.args.one.now.lines) (as_set separated)) in
    covered_at_once m c.args.one.now c.args.two.now separated two

pub search_halves-returns-in-Some-clause-marked : goal.search_halves-returns-in-Some-clause-marked
search_halves-returns-in-Some-clause-marked t c =
    let m = c.args.self.now.matrix.now in
    let one = c.args.near.now.side.now in
    let two = c.args.far.now.side.now in
    let halves = c.in-Some.halves in
    let found = subst (λ (v : Option Halves). MatchOption v (Unit {0}) (AreHalves m one)) c.in-Some.is c.in_ok-halves.ensures in
    searched_both m one two halves.one two halves.other two c.args.self.now.separated c.search.new.self.separated c.search-in-Some.new.self.separated _ c.search-in-Some.result
    (λ P. covers_halves m (as_set one.lines) (as_set two.lines) P (as_set halves.one.lines) (as_set halves.other.lines) found.halved)
    c.if-not-branch.false c.in_ok-search.ensures.marked
    (marked_at m c.search.new.self.matrix.now halves.other two c.search.new.self.separated c.search-in-Some.new.self.separated c.search-in-Some.result (ap (λ (v : _). v.now) c.search.ensures.same) c.search-in-Some.ensures.marked)

pub search_halves-returns-in-Some-2-clause-marked : goal.search_halves-returns-in-Some-2-clause-marked
search_halves-returns-in-Some-2-clause-marked t c =
    let m = c.args.self.now.matrix.now in
    let one = c.args.near.now.side.now in
    let two = c.args.far.now.side.now in
    let halves = c.in-Some-2.halves in
    let found = subst (λ (v : Option Halves). MatchOption v (Unit {0}) (AreHalves m two)) c.in-Some-2.is c.in_ok-halves-2.ensures in
    searched_both m one two one halves.one one halves.other c.args.self.now.separated c.search-in-Some-2.new.self.separated c.search-in-Some-2-2.new.self.separated _ c.search-in-Some-2-2.result
    (λ P. covers_halves_beside m (as_set one.lines) (as_set two.lines) P (as_set halves.one.lines) (as_set halves.other.lines) found.halved)
    c.if-not-branch-2.false c.in_ok-search-2.ensures.marked
    (marked_at m c.search-in-Some-2.new.self.matrix.now one halves.other c.search-in-Some-2.new.self.separated c.search-in-Some-2-2.new.self.separated c.search-in-Some-2-2.result (ap (λ (v : _). v.now) c.search-in-Some-2.ensures.same) c.search-in-Some-2-2.ensures.marked)

pub search_by_line-returns-clause-marked : goal.search_by_line-returns-clause-marked
search_by_line-returns-clause-marked t c =
    let m = c.args.self.now.matrix.now in
    let one = c.args.one.now in
    let two = c.args.two.now in
    let more_one = c.in_ok-more_one.more_one in
    let more_two = c.in_ok-more_two.more_two in
    searched_both m one two more_one two one more_two c.args.self.now.separated c.search.new.self.separated c.search-2.new.self.separated _ c.search-2.result
    (λ P h1 h2. covers_line m (as_set one.lines) (as_set two.lines) P (as_set more_one.lines) (as_set more_two.lines) c.in-Some.line c.in-Some.ensures c.in_ok-more_one.ensures.lines c.in_ok-more_two.ensures.lines h1 h2)
    c.if-not-branch.false c.in_ok-search.ensures.marked
    (marked_at m c.search.new.self.matrix.now one more_two c.search.new.self.separated c.search-2.new.self.separated c.search-2.result (ap (λ (v : _). v.now) c.search.ensures.same) c.search-2.ensures.marked)

pub search-returns-then-meets-clause-marked : goal.search-returns-then-meets-clause-marked
search-returns-then-meets-clause-marked t c =
    let m = c.args.self.now.matrix.now in
    let one = c.args.one.now in
    let two = c.args.two.now in
    let separated = c.args.self.now.separated in
    covered_at_once m one two separated (covers_shared m one two (as_set separated) c.requires.near.lines (c.meets.ensures c.if-meets.true))

pub search-returns-then-has_rest-clause-marked : goal.search-returns-then-has_rest-clause-marked
search-returns-then-has_rest-clause-marked t c =
    let separated = c.args.self.now.separated in
    marked_rest c.args.self.now.matrix.now c.args.one.now c.args.two.now separated separated c.args.self.now.size (λ x e. e) (c.has_rest.ensures c.if-has_rest.true)

pub search-search-requires : goal.search-search-requires
search-search-requires t c =
    let so = subst (λ (v : Option Side). MatchOption v (Unit {0}) (IsForced c.args.self.now.matrix.now c.args.one.now c.args.two.now.lines)) c.in-Some.is c.in_ok-more.ensures in
    let falls : 4 * (c.args.depth - 1) < t = omega (arith, c.decreases, c.if-depth-eq0.false) in
    (falls, record { near = so.numbers; far = c.requires.far })

pub search-search-requires-in-Some-2 : goal.search-search-requires-in-Some-2
search-search-requires-in-Some-2 t c =
    let so = subst (λ (v : Option Side). MatchOption v (Unit {0}) (IsForced c.args.self.now.matrix.now c.args.two.now c.args.one.now.lines)) c.in-Some-2.is c.in_ok-more-2.ensures in
    let falls : 4 * (c.args.depth - 1) < t = omega (arith, c.decreases, c.if-depth-eq0.false) in
    (falls, record { near = c.requires.near; far = so.numbers })

pub search-search_state-requires : goal.search-search_state-requires
search-search_state-requires t c =
    let falls : 4 * (c.args.depth - 1) + 3 < t = omega (arith, c.decreases, c.if-depth-eq0.false) in
    (falls, c.requires)

pub search_by_line-returns-in_default-clause-marked : goal.search_by_line-returns-in_default-clause-marked
search_by_line-returns-in_default-clause-marked t c =
    let rest = c.add_rest.ensures in
    marked_rest c.args.self.now.matrix.now c.args.one.now c.args.two.now c.args.self.now.separated c.add_rest.new.set c.args.self.now.size rest.kept rest.rest

pub search_by_line-search-requires : goal.search_by_line-search-requires
search_by_line-search-requires t c =
    let falls : 4 * c.args.depth < t = omega (arith, c.decreases) in
    (falls, record { near = c.in_ok-more_one.ensures.numbers; far = c.requires.far })

pub search_by_line-returns-then-not-branch-clause-marked : goal.search_by_line-returns-then-not-branch-clause-marked
search_by_line-returns-then-not-branch-clause-marked t c = gave_up c.args.self.now.matrix.now c.args.one.now c.args.two.now c.in_ok-more_one.more_one c.args.two.now c.args.self.now.separated c.search.new.self.separated _ c.in_ok-search.ensures.marked

pub search_by_line-search-requires-2 : goal.search_by_line-search-requires-2
search_by_line-search-requires-2 t c =
    let falls : 4 * c.args.depth < t = omega (arith, c.decreases) in
    (falls, numbered_at c.args.self.now.matrix.now c.search.new.self.matrix.now c.args.one.now c.in_ok-more_two.more_two (ap (λ (v : _). v.now) c.search.ensures.same) c.requires.near c.in_ok-more_two.ensures.numbers)

pub search_halves-search-requires : goal.search_halves-search-requires
search_halves-search-requires t c =
    let found = subst (λ (v : Option Halves). MatchOption v (Unit {0}) (AreHalves c.args.self.now.matrix.now c.args.near.now.side.now)) c.in-Some.is c.in_ok-halves.ensures in
    let falls : 4 * c.args.depth < t = omega (arith, c.decreases) in
    (falls, record { near = found.one; far = c.requires.far })

pub search_halves-returns-then-not-branch-clause-marked : goal.search_halves-returns-then-not-branch-clause-marked
search_halves-returns-then-not-branch-clause-marked t c = gave_up c.args.self.now.matrix.now c.args.near.now.side.now c.args.far.now.side.now c.in-Some.halves.one c.args.far.now.side.now c.args.self.now.separated c.search.new.self.separated _ c.in_ok-search.ensures.marked

pub search_halves-search-requires-in-Some : goal.search_halves-search-requires-in-Some
search_halves-search-requires-in-Some t c =
    let found = subst (λ (v : Option Halves). MatchOption v (Unit {0}) (AreHalves c.args.self.now.matrix.now c.args.near.now.side.now)) c.in-Some.is c.in_ok-halves.ensures in
    let falls : 4 * c.args.depth < t = omega (arith, c.decreases) in
    (falls, numbered_at c.args.self.now.matrix.now c.search.new.self.matrix.now c.in-Some.halves.other c.args.far.now.side.now (ap (λ (v : _). v.now) c.search.ensures.same) found.other c.requires.far)

pub search_halves-search-requires-in-Some-2 : goal.search_halves-search-requires-in-Some-2
search_halves-search-requires-in-Some-2 t c =
    let found = subst (λ (v : Option Halves). MatchOption v (Unit {0}) (AreHalves c.args.self.now.matrix.now c.args.far.now.side.now)) c.in-Some-2.is c.in_ok-halves-2.ensures in
    let falls : 4 * c.args.depth < t = omega (arith, c.decreases) in
    (falls, record { near = c.requires.near; far = found.one })

pub search_halves-returns-then-not-branch-2-clause-marked : goal.search_halves-returns-then-not-branch-2-clause-marked
search_halves-returns-then-not-branch-2-clause-marked t c =
    gave_up c.args.self.now.matrix.now c.args.near.now.side.now c.args.far.now.side.now c.args.near.now.side.now c.in-Some-2.halves.one c.args.self.now.separated c.search-in-Some-2.new.self.separated _ c.in_ok-search-2.ensures.marked

pub search_halves-search-requires-in-Some-2-2 : goal.search_halves-search-requires-in-Some-2-2
search_halves-search-requires-in-Some-2-2 t c =
    let found = subst (λ (v : Option Halves). MatchOption v (Unit {0}) (AreHalves c.args.self.now.matrix.now c.args.far.now.side.now)) c.in-Some-2.is c.in_ok-halves-2.ensures in
    let falls : 4 * c.args.depth < t = omega (arith, c.decreases) in
    (falls, numbered_at c.args.self.now.matrix.now c.search-in-Some-2.new.self.matrix.now c.args.near.now.side.now c.in-Some-2.halves.other (ap (λ (v : _). v.now) c.search-in-Some-2.ensures.same) c.requires.near found.other)

pub search_halves-search_by_line-requires : goal.search_halves-search_by_line-requires
search_halves-search_by_line-requires t c =
    let falls : 4 * c.args.depth + 1 < t = omega (arith, c.decreases) in
    (falls, c.requires)

pub search_state-returns-then-count-ge-LEAST_SIDE-clause-marked : goal.search_state-returns-then-count-ge-LEAST_SIDE-clause-marked
search_state-returns-then-count-ge-LEAST_SIDE-clause-marked t c =
    let rest = c.add_rest.ensures in
    marked_rest c.args.self.now.matrix.now c.args.one.now c.args.two.now c.args.self.now.separated c.add_rest.new.set c.args.self.now.size rest.kept rest.rest

pub search_state-search_halves-requires : goal.search_state-search_halves-requires
search_state-search_halves-requires t c =
    let falls : 4 * c.args.depth + 2 < t = omega (arith, c.decreases) in
    (falls, record { near = subst (λ (side : Side). HasNumbers c.args.self.now.matrix.now side) (sym c.in_ok-near.ensures) c.requires.near; far = subst (λ (side : Side). HasNumbers c.args.self.now.matrix.now side) (sym c.in_ok-far.ensures) c.requires.far })
