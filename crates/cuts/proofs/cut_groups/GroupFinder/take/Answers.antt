use Rattle.std.proofs.Common.{◌∙◌, ap, refl, subst, sym}
use Rattle.cmr_base.specs.LineMasks.{as_set, IsMaskOf}
use Rattle.cmr_base.specs.Matrix.{Matrix}
use Rattle.cuts.specs.declared.cut_groups.GroupFinder.{GroupFinder}
use Rattle.cuts.specs.Finders.{AreFound}
use Rattle.cuts.proofs.CoverLemmas.{group_named}
use Rattle.cuts.proofs.FinderLemmas.{found_with}
use Rattle.cuts.proofs.MatrixMasks.{mask_like}
use Rattle.cuts.proofs.cut_groups.GroupFinder.take.Goals as goal
use Rattle.cuts.proofs.cut_groups.GroupFinder.take.Goals.{then-branch, else-branch}

pub returns : goal.returns
returns c =
    let m = c.args.matrix.now in
    let before = c.args.self.now in
    let found = c.requires.found in
    let covered = c.in_ok-is_covered.ensures in
    let separated = c.is_covered.new.search.separated in
    let same = ap (λ (v : _). v.now) covered.same in
    let room = subst (λ (z : Matrix). IsMaskOf z separated) same c.is_covered.new.search.size in
    let after : AreFound m c.if-branch.self = elim c.if-branch.branch [
      | then-branch w ↦
          let groups = w.rename.new.self in
          let together = group_named m before.groups groups (as_set separated) c.args.line c.requires.line found.together (covered.one_side w.if-branch.true) (w.rename.ensures.get m room) in
          subst (λ (f : GroupFinder). AreFound m f) (sym w.self-is)
          (found_with m w.note.new.self groups w.add_rest.new.set w.note.ensures.groups w.note.ensures.taken (w.rename.ensures.size ∙ found.groups) (mask_like m before.taken w.add_rest.new.set found.taken w.add_rest.ensures.size) together)
      | else-branch w ↦
          subst (λ (f : GroupFinder). AreFound m f) (sym w.self-is)
          (found_with m _ before.groups w.insert.new.self refl refl found.groups (mask_like m before.taken w.insert.new.self found.taken w.insert.ensures.size) found.together)
    ] in
    found_with m _ c.if-branch.self.groups c.if-branch.self.taken refl refl after.groups after.taken after.together
