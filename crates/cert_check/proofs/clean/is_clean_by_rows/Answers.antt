use Rattle.std.proofs.Common.{◌≡◌, ◌^◌, ◌∙◌, refl, ap, sym, subst, arith}
use Rattle.std.proofs.lemmas.Bool.{true≢false}
use Rattle.cmr_base.specs.Matrix.{Matrix, height}
use Rattle.cmr_base.specs.LineSets.{AllBelow, set_numbered}
use Rattle.cmr_base.specs.Violator.{HasNoColumnSet}
use Rattle.cmr_base.proofs.SetNumbers.{row_set-numbered}
use Rattle.parity.specs.GivenColumns.{HasLeastColumnSet}
use Rattle.cert_check.proofs.CleanSets.{found_one, none_at_all, none_more}
use Rattle.cert_check.proofs.clean.is_clean_by_rows.Goals as goal

pub has-requires : goal.has-requires
has-requires c =
    let m = c.args.matrix.now in
    let number = c.loop-number.number in
    let set : c.deref.result.now ≡ set_numbered (height m) 0 number = c.deref.ensures.value ∙ c.in_ok-write_set.ensures ∙ ap (λ n. set_numbered n 0 number) c.rows-count.ensures.rows in
    subst (λ (s : Matrix). AllBelow (height s) c.deref.result.now) (sym c.loop-number.invariant.same) (subst (AllBelow (height m)) (sym set) (row_set-numbered m number).in_range)

pub returns-then-branch : goal.returns-then-branch
returns-then-branch c =
    let m = c.args.matrix.now in
    let number = c.loop-number.number in
    let set : c.deref.result.now ≡ set_numbered (height m) 0 number = c.deref.ensures.value ∙ c.in_ok-write_set.ensures ∙ ap (λ n. set_numbered n 0 number) c.rows-count.ensures.rows in
    let found : HasLeastColumnSet m (set_numbered (height m) 0 number) =
    subst (λ (s : Matrix). HasLeastColumnSet s (set_numbered (height m) 0 number)) c.loop-number.invariant.same (subst (HasLeastColumnSet c.loop-number.search) set (c.in_ok-has.ensures.yes c.if-branch.true)) in (
      (λ t. absurd (true≢false (sym t))),
      λ none. absurd (found_one m number found.0 found.1 none),
    )

pub loop-number-preserved : goal.loop-number-preserved
loop-number-preserved c =
    let m = c.args.matrix.now in
    let number = c.loop-number.number in
    let set : c.deref.result.now ≡ set_numbered (height m) 0 number = c.deref.ensures.value ∙ c.in_ok-write_set.ensures ∙ ap (λ n. set_numbered n 0 number) c.rows-count.ensures.rows in
    let none : HasNoColumnSet m (set_numbered (height m) 0 number) =
    subst (λ (s : Matrix). HasNoColumnSet s (set_numbered (height m) 0 number)) c.loop-number.invariant.same (subst (HasNoColumnSet c.loop-number.search) set (c.in_ok-has.ensures.no c.if-branch.false)) in
    record {
      same = c.in_ok-has.ensures.same ∙ c.loop-number.invariant.same;
      none_before = none_more m number none c.loop-number.invariant.none_before;
    }

pub returns : goal.returns
returns c =
    let total : 2 ^ c.rows-count.result ≡ 2 ^ height c.args.matrix.now = ap (λ n. 2 ^ n) c.rows-count.ensures.rows in (
      (λ t. none_at_all c.args.matrix.now c.loop-number.number (omega (arith, total, c.set_count-number-end.ensures)) c.loop-number.invariant.none_before),
      λ none. refl,
    )
