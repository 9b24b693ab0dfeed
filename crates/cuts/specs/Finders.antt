-- Groups during the search.
use Rattle.cmr_base.specs.LineMasks.{IsMaskOf}
use Rattle.cmr_base.specs.Matrix.{Matrix}
use Rattle.cuts.specs.declared.cut_groups.GroupFinder.{GroupFinder}
use Rattle.cuts.specs.LineCuts.{HasNames, HoldTogether, IsCut}

pub record AreFound (m : Matrix) (finder : GroupFinder) : Type 0 where
  pub groups : HasNames m finder.groups
  pub taken : IsMaskOf m finder.taken
  pub together : HoldTogether (IsCut m) m finder.groups
