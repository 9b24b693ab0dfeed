use Rattle.std.proofs.Common.{◌≡◌, ◌∙◌, sym, subst, arith}
use Rattle.std.specs.List.Sorted.{IsStrictlyIncreasing}
use Rattle.cmr_base.specs.LineSets.{set_numbered}
use Rattle.cmr_base.proofs.IncreasingLists.{increases_along}
use Rattle.cmr_base.proofs.SetNumbers.{numbered_increases}
use Rattle.cmr_base.proofs.indices.Indices.numbered.Goals as goal

pub of-requires : goal.of-requires
of-requires c =
    let lines = c.args.lines in
    let number = c.args.number in
    let is : c.deref.result.now ≡ set_numbered lines 0 number = c.deref.ensures.value ∙ c.in_ok-write_set.ensures in
    subst IsStrictlyIncreasing (sym is) (increases_along 0 lines (set_numbered lines 0 number) (numbered_increases lines 0 lines number (omega arith)))
