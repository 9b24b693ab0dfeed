use Rattle.std.proofs.Common.{ap, false, refl, sym}
use Rattle.cmr_base.proofs.Booleans.{not_both}
use Rattle.cmr_base.specs.LineMasks.{as_set}
use Rattle.cuts.proofs.GroupLemmas.{covered_group}
use Rattle.cuts.proofs.SearchSteps.{marked_at, numbered_at}
use Rattle.cuts.proofs.cut_groups.is_covered.Goals as goal

pub returns-clause-one_side : goal.returns-clause-one_side
returns-clause-one_side c =
    let m = c.args.search.now.matrix.now in
    let between = c.search.new.self.separated in
    let after = c.search-2.new.self.separated in
    covered_group m c.args.groups.now c.args.name c.args.line (as_set c.in_ok-group.group) c.in_ok-nothing.nothing c.in_ok-first.first c.in_ok-second.second c.in_ok-more.more c.args.search.now.separated between after _ c.search-2.result
    c.requires.line c.requires.together c.in_ok-nothing.ensures.none c.in_ok-first.ensures.lines (λ x l e. c.in_ok-group.ensures.named m (sym c.rows-2.ensures.rows) x e) c.in_ok-more.ensures.lines c.in_ok-second.ensures.lines
    c.if-not-branch.false c.in_ok-search.ensures.marked
    (marked_at m c.search.new.self.matrix.now c.in_ok-first.first c.in_ok-second.second between after c.search-2.result (ap (λ (v : _). v.now) c.search.ensures.same) c.search-2.ensures.marked)

pub search-requires : goal.search-requires
search-requires c = record { near = c.in_ok-more.ensures.numbers; far = c.in_ok-nothing.ensures.numbers }

pub search-requires-2 : goal.search-requires-2
search-requires-2 c = numbered_at c.args.search.now.matrix.now c.search.new.self.matrix.now c.in_ok-first.first c.in_ok-second.second (ap (λ (v : _). v.now) c.search.ensures.same) c.in_ok-first.ensures.numbers c.in_ok-second.ensures.numbers

pub returns-then-not-branch-clause-one_side : goal.returns-then-not-branch-clause-one_side
returns-then-not-branch-clause-one_side c e = absurd (not_both false e refl)
