use Rattle.std.proofs.Common.{◌≡◌, ◌<◌, ◌∙◌, ap, sym, subst, List, ℕ, length, get_or}
use Rattle.cmr_base.specs.Matrix.{entry}
use Rattle.cmr_base.specs.Reductions.{nonzeros_at}
use Rattle.sp_reduce.specs.LineKinds.{table}
use Rattle.sp_reduce.specs.declared.kind.LineKind.{LineKind}
use Rattle.sp_reduce.proofs.needed.have_two_nonzeros.Goals as goal

pub returns : goal.returns
returns c = λ yes at h.
    let side = c.in_ok-side.side in
    let across = c.args.across.now in
    let M = entry c.args.matrix.now in
    let is = c.in_ok-side.ensures in
    let inside : at < length side.stays.items = subst (λ (xs : List ℕ). at < length xs) (sym is.stays) h in
    let counts : get_or side.counts.items at 0 ≡ nonzeros_at across (table M side.kind (get_or side.stays.items at 0)) = is.counted.counts at inside in
    let there : at < length c.deref.result.now = subst (λ (n : ℕ). at < n) (ap (λ (xs : List ℕ). length xs) (sym c.deref.ensures.value)) (subst (λ (n : ℕ). at < n) (sym is.side.parallel.counts) inside) in
    ap (λ (kind : LineKind). nonzeros_at across (table M kind (get_or c.args.own.now at 0))) (sym is.kind)
    ∙ ap (λ (xs : List ℕ). nonzeros_at across (table M side.kind (get_or xs at 0))) (sym is.stays)
    ∙ sym counts ∙ ap (λ (xs : List ℕ). get_or xs at 0) (sym c.deref.ensures.value) ∙ c.are_two.ensures yes at there
