use Rattle.std.proofs.Common.{◌<◌, ◌∙◌, ap, subst, arith}
use Rattle.std.proofs.lemmas.Grind.{common_steps}
use Rattle.cmr_base.specs.Matrix.{entry}
use Rattle.cmr_base.specs.LineSets.{first_lines}
use Rattle.cmr_base.specs.Reductions.{nonzeros_at}
use Rattle.cmr_base.proofs.Places.{each_more}
use Rattle.digests.specs.Digests.{AreDifferent}
use Rattle.sp_reduce.specs.RowDigests.{digest_of, digest_at}
use Rattle.sp_reduce.proofs.Loops.{pushed_each}
use Rattle.sp_reduce.proofs.UnlikeRows.{unlike_rows}
use Rattle.sp_reduce.proofs.looking.has_unlike_rows.Goals as goal

pub rows-preserved : goal.rows-preserved
rows-preserved c =
    let m = c.args.matrix.now in
    let is = c.rows.invariant in
    record {
      long = grind (arith, common_steps, c.in_ok-push.ensures.items, is.long);
      digests = pushed_each c.rows.digests.items c.push.new.self.items c.digest_of.result (digest_at m) c.rows.row is.long c.in_ok-push.ensures.items
          (c.digest_of.ensures ∙ ap digest_of c.support_words.ensures) is.digests;
      many = each_more (λ k. 1 < nonzeros_at (first_lines m.width) (entry m k)) c.rows.row is.many (c.has_few_nonzeros.ensures c.if-has_few_nonzeros.false);
    }

pub returns : goal.returns
returns c e =
    let m = c.args.matrix.now in
    let is = c.rows.invariant in
    let shape = c.rows-2.ensures.shape in
    let all = c.rows-test.false in
    let end = c.rows-row-end.ensures.rows in
    unlike_rows m c.rows.digests.items (omega (arith, is.long, all, end)) (λ k h. is.digests k (omega (arith, h, all, end))) (λ k h. is.many k (omega (arith, h, all, end)))
    (subst AreDifferent c.deref_mut.ensures.value (c.are_different.ensures.answer.0 e))
