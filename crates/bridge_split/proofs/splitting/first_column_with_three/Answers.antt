use Rattle.std.proofs.Common.{List, ℕ, subst}
use Rattle.bridge_split.specs.Counting.{AreMore}
use Rattle.bridge_split.proofs.ThreeNonzeros.{first_is}
use Rattle.bridge_split.proofs.splitting.first_column_with_three.Goals as goal

pub returns : goal.returns
returns c =
    let m = c.args.matrix.now in
    let S = c.args.rows.now in
    let set = c.in_ok-counts.counts.thrice.words in
    first_is m S set c.first_from_three.result c.as_slice.ensures.increasing
    (subst (λ (rows : List ℕ). AreMore m rows 2 set) c.as_slice.ensures.items c.in_ok-counts.ensures.thrice) c.first_from_three.ensures
