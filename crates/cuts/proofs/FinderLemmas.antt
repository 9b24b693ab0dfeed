-- The finder's groups, when it finds more groups.
use Rattle.std.proofs.Common.{◌≡◌, sym, subst}
use Rattle.cmr_base.specs.declared.line_mask.LineMask.{LineMask}
use Rattle.cmr_base.specs.LineMasks.{IsMaskOf}
use Rattle.cmr_base.specs.Matrix.{Matrix}
use Rattle.cuts.specs.declared.cut_groups.GroupFinder.{GroupFinder}
use Rattle.cuts.specs.declared.groups.Groups.{Groups}
use Rattle.cuts.specs.LineCuts.{HasNames, HoldTogether, IsCut}
use Rattle.cuts.specs.Finders.{AreFound}

pub found_with : (m : Matrix) (finder : GroupFinder) (groups : Groups) (taken : LineMask) → finder.groups ≡ groups → finder.taken ≡ taken → HasNames m groups
    → IsMaskOf m taken → HoldTogether (IsCut m) m groups → AreFound m finder
found_with m finder groups taken eg et names size together = record {
  groups = subst (λ (g : Groups). HasNames m g) (sym eg) names;
  taken = subst (λ (mask : LineMask). IsMaskOf m mask) (sym et) size;
  together = subst (λ (g : Groups). HoldTogether (IsCut m) m g) (sym eg) together;
}
