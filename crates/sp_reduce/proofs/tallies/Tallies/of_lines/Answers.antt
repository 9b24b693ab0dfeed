use Rattle.std.proofs.Common.{◌≡◌, ◌∙◌, ℕ, Bool, List, ap, subst, sym}
use Rattle.std.proofs.lemmas.Result.{IfOk-weaker}
use Rattle.cmr_base.specs.Matrix.{height}
use Rattle.cmr_base.specs.LineSets.{AllBelow}
use Rattle.sp_reduce.specs.declared.kind.LineKind.{LineKind}
use Rattle.sp_reduce.specs.LineKinds.{cross_size, count_of_kind}
use Rattle.sp_reduce.specs.Tallies.{rows_for, AreMarks, AreTallies}
use Rattle.sp_reduce.proofs.KindLemmas.{size-other}
use Rattle.sp_reduce.proofs.TallyLemmas.{tallies_of, lines_counted}
use Rattle.sp_reduce.proofs.tallies.Tallies.of_lines.Goals as goal

pub marks_of-requires : goal.marks_of-requires
marks_of-requires c =
    let size : c.size.result ≡ cross_size c.args.matrix.now c.args.kind = c.size.ensures ∙ ap (λ (k : LineKind). count_of_kind c.args.matrix.now k) c.other.ensures ∙ size-other c.args.matrix.now c.args.kind in
    subst (λ (n : ℕ). AllBelow n c.args.across.now) (sym size) c.requires.across.in_range

pub at-requires-clause-counts : goal.at-requires-clause-counts
at-requires-clause-counts c = subst (λ (n : ℕ). AllBelow n c.args.lines.now) (sym c.in_ok-all.ensures.many_counts) c.requires.lines

pub at-requires-clause-sums : goal.at-requires-clause-sums
at-requires-clause-sums c = subst (λ (n : ℕ). AllBelow n c.args.lines.now) (sym c.in_ok-all.ensures.many_sums) c.requires.lines

pub at-requires-clause-minus_sums : goal.at-requires-clause-minus_sums
at-requires-clause-minus_sums c = subst (λ (n : ℕ). AllBelow n c.args.lines.now) (sym c.in_ok-all.ensures.many_minus_sums) c.requires.lines

pub returns : goal.returns
returns c =
    let m = c.args.matrix.now in
    let kind = c.args.kind in
    let across = c.args.across.now in
    let all = c.in_ok-all.all in
    let marks = c.in_ok-marks.marks.items in
    let size : c.size.result ≡ cross_size m kind = c.size.ensures ∙ ap (λ (k : LineKind). count_of_kind m k) c.other.ensures ∙ size-other m kind in
    let marked : AreMarks (cross_size m kind) across marks = subst (λ (n : ℕ). AreMarks n across marks) size c.in_ok-marks.ensures in
    let visited = c.in_ok-visited.visited.items in
    let seen : AreMarks (height m) (rows_for kind c.args.lines.now across) visited =
    subst (λ (xs : List ℕ). AreMarks (height m) xs visited) c.rows_for.ensures (subst (λ (n : ℕ). AreMarks n c.rows_for.result.now visited) c.rows.ensures.rows c.in_ok-visited.ensures) in
    let are : AreTallies m kind visited marks (height m) 0 all =
    subst (λ (xs : List Bool). AreTallies m kind xs marks (height m) 0 all) c.deref.ensures.value (subst (λ (xs : List Bool). AreTallies m kind c.deref.result.now xs (height m) 0 all) c.deref-2.ensures.value c.in_ok-all.ensures) in
    IfOk-weaker c.at.result _ _
    (λ some at. tallies_of m kind visited marks across all are marked c.requires.across c.args.lines.now some c.requires.lines (lines_counted m kind c.args.lines.now across visited seen) at)
    c.at.ensures
