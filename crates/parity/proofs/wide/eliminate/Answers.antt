use Rattle.std.proofs.Common.{◌≡◌, ◌+◌, ◌∙◌, ◌++◌, ◌∷◌, [], ap, sym, subst, take, get_or, arith, List, ℕ}
use Rattle.parity.specs.Equations.{IsBasis, IsLowest, System, number_of, reduced_by}
use Rattle.parity.specs.PlaneSums.{equations_of, support_of, without_columns}
use Rattle.cmr_base.specs.Matrix.{is_nonzero}
use Rattle.parity.proofs.PlaneLemmas.{length-row, number_of-row}
use Rattle.parity.proofs.Elimination.{basis_push, basis_skip}
use Rattle.parity.proofs.Systems.{equations_more, support_of-lt, without_columns_apart, without_columns_lt}
use Rattle.parity.proofs.wide.eliminate.Goals as goal
use Rattle.parity.proofs.wide.eliminate.Goals.{in-Some+in_ok-push, in_default}

pub lowest-requires : goal.lowest-requires
lowest-requires c = omega (arith, c.requires.shape.width_in)

pub push-requires-clause-pivot : goal.push-requires-clause-pivot
push-requires-clause-pivot c = omega (arith, c.in-Some.ensures.inside)

pub loop-row-preserved : goal.loop-row-preserved
loop-row-preserved c =
    let m = c.args.matrix.now in
    let excluded = c.args.sums.now.ones in
    let rows = c.args.rows.now in
    let i = c.loop-row.row-index in
    let es = c.loop-row.basis.equations in
    let before = equations_of m excluded (take i rows) in
    let row = without_columns excluded (support_of m (get_or rows i 0)) in
    let more = sym (equations_more m excluded rows i c.loop-row-test.true) in
    let left : number_of c.reduce.new.columns ≡ reduced_by es row = c.reduce.ensures ∙ ap (reduced_by es) (c.mask_row.ensures ∙ ap (without_columns excluded) (number_of-row m is_nonzero (get_or rows i 0) c.support_words.result.now c.requires.shape (c.requires.rows i c.loop-row-test.true) c.support_words.ensures)) in
    let small = without_columns_lt excluded (support_of m (get_or rows i 0)) m.width (support_of-lt m (get_or rows i 0) c.requires.shape (c.requires.rows i c.loop-row-test.true)) in
    elim c.match-lowest.branch [
      | in-Some+in_ok-push w ↦
          let pivot = w.in-Some.pivot in
          let after : c.match-lowest.basis ≡ record { words = c.loop-row.basis.words; equations = es ++ record { pivot = pivot; columns = reduced_by es row } ∷ [] } =
          w.basis-is ∙ w.in_ok-push.ensures.ok ∙ ap (λ (n : ℕ). record { words = c.loop-row.basis.words; equations = es ++ record { pivot = pivot; columns = n } ∷ [] }) left in
          record {
            so_far = subst (λ (s : System). IsBasis m.width excluded (equations_of m excluded (take (i + 1) rows)) s.equations) (sym after)
                (subst (λ (rs : List ℕ). IsBasis m.width excluded rs (es ++ record { pivot = pivot; columns = reduced_by es row } ∷ [])) more
                (basis_push m.width excluded before es row pivot c.loop-row.invariant.so_far (without_columns_apart excluded (support_of m (get_or rows i 0))) small (subst (λ (n : ℕ). IsLowest n pivot) left w.in-Some.ensures.some)));
            words = ap (λ (s : System). s.words) after ∙ c.loop-row.invariant.words;
          }
      | in_default w ↦ record {
        so_far = subst (λ (s : System). IsBasis m.width excluded (equations_of m excluded (take (i + 1) rows)) s.equations) (sym w.basis-is)
            (subst (λ (rs : List ℕ). IsBasis m.width excluded rs es) more
            (basis_skip m.width excluded before es row c.loop-row.invariant.so_far (sym left ∙ w.in_default.ensures.none)));
        words = ap (λ (s : System). s.words) w.basis-is ∙ c.loop-row.invariant.words;
      }
    ]

pub mask_row-requires-clause-support : goal.mask_row-requires-clause-support
mask_row-requires-clause-support c =
    length-row c.args.matrix.now is_nonzero (get_or c.args.rows.now c.loop-row.row-index 0) c.support_words.result.now c.support_words.ensures ∙ sym c.requires.sums
