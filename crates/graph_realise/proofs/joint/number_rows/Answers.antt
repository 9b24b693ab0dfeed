use Rattle.std.proofs.Common.{◌≡◌, ℕ, List, Some, sym, subst, arith}
use Rattle.cmr_base.specs.Members.{IsIn}
use Rattle.graph_realise.specs.Joints.{number_at}
use Rattle.cmr_base.proofs.Places.{all_placed, not_placed}
use Rattle.graph_realise.proofs.joint.number_rows.Goals as goal

pub returns-clause-inside : goal.returns-clause-inside
returns-clause-inside c = λ row h.
    all_placed (λ r. number_at c.loop-row.numbers.items r ≡ Some c.args.number) c.as_slice-row-items.result.now c.loop-row.row-index (let l = c.loop-row-test.false in omega arith) c.loop-row.invariant.inside row
    (subst (λ (xs : List ℕ). IsIn row xs) (sym c.as_slice-row-items.ensures.items) h)

pub returns-clause-outside : goal.returns-clause-outside
returns-clause-outside c = λ row n.
    c.loop-row.invariant.outside row (λ k l. not_placed c.as_slice-row-items.result.now row (λ h. n (subst (λ (xs : List ℕ). IsIn row xs) c.as_slice-row-items.ensures.items h)) k
    (let b = c.loop-row.auto.row-index-end in omega arith))
