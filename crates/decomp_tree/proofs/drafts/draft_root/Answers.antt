use Rattle.std.proofs.Common.{[], List, map, subst, arith}
use Rattle.decomp_tree.specs.declared.drafts.Draft.{Draft}
use Rattle.decomp_tree.specs.Sketches.{sketch_of, HasOneMoreDraft}
use Rattle.decomp_tree.proofs.Children.{only_drafted, some_drafted}
use Rattle.decomp_tree.proofs.drafts.draft_root.Goals as goal

pub unreachable-requires : goal.unreachable-requires
unreachable-requires g c =
    let drafted = subst (λ (drafts : List Draft). HasOneMoreDraft c.args.limits.lines c.args.matrix.now c.args.lines.now (map sketch_of drafts) (map sketch_of c.draw.new.drafts.items)) c.new-drafts.ensures.items c.in_ok-draw.ensures in
    some_drafted c.args.limits.lines c.args.matrix.now c.args.lines.now c.draw.new.drafts.items drafted (let z = c.in_default.ensures.cases.0 in let k = c.draw.new.drafts.ok in omega (arith, k, z))

pub returns-clause-lines : goal.returns-clause-lines
returns-clause-lines g c =
    let drafted = subst (λ (drafts : List Draft). HasOneMoreDraft c.args.limits.lines c.args.matrix.now c.args.lines.now (map sketch_of drafts) (map sketch_of c.draw.new.drafts.items)) c.new-drafts.ensures.items c.in_ok-draw.ensures in
    (only_drafted c.args.limits.lines c.args.matrix.now c.args.lines.now c.pop.new.self.items c.in-Some.drawn
    (subst (λ (drafts : List Draft). HasOneMoreDraft c.args.limits.lines c.args.matrix.now c.args.lines.now [] (map sketch_of drafts)) c.in-Some.ensures.items drafted)).0

pub returns-clause-drafted : goal.returns-clause-drafted
returns-clause-drafted g c =
    let drafted = subst (λ (drafts : List Draft). HasOneMoreDraft c.args.limits.lines c.args.matrix.now c.args.lines.now (map sketch_of drafts) (map sketch_of c.draw.new.drafts.items)) c.new-drafts.ensures.items c.in_ok-draw.ensures in
    (only_drafted c.args.limits.lines c.args.matrix.now c.args.lines.now c.pop.new.self.items c.in-Some.drawn
    (subst (λ (drafts : List Draft). HasOneMoreDraft c.args.limits.lines c.args.matrix.now c.args.lines.now [] (map sketch_of drafts)) c.in-Some.ensures.items drafted)).1
