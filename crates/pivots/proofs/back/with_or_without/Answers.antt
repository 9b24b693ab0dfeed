use Rattle.std.proofs.Common.{subst, sym, List, ℕ, ◌≤◌}
use Rattle.cmr_base.specs.Members.{IsIn}
use Rattle.pivots.proofs.ChosenLines.{up_to_itself}
use Rattle.pivots.proofs.back.with_or_without.Goals as goal

pub push_above-requires : goal.push_above-requires
push_above-requires c = subst (λ (made : List ℕ). (x : ℕ) → IsIn x made → x ≤ c.args.line) (sym c.in_ok-made.ensures) (up_to_itself c.args.lines.now c.args.line c.args.has)
