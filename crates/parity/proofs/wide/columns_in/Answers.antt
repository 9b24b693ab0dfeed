use Rattle.std.proofs.Common.{◌≡◌, ◌<◌, ◌+◌, ◌-◌, ◌/◌, ◌^◌, ◌∙◌, ◌++◌, ◌∷◌, [], ap, sym, subst, length, get_or, arith, List, ℕ}
use Rattle.std.proofs.lemmas.Bool.{false≢true}
use Rattle.std.proofs.lemmas.Nat.{shr-shr}
use Rattle.cmr_base.specs.LineSets.{set_numbered}
use Rattle.cmr_base.proofs.SetNumbers.{above-append, numbered_less, numbered_more}
use Rattle.parity.specs.Equations.{number_of}
use Rattle.parity.proofs.wide.columns_in.Goals as goal
use Rattle.parity.proofs.wide.columns_in.Goals.{then-is_set+in_ok-push, else-is_set}

pub loop-column-preserved : goal.loop-column-preserved
loop-column-preserved c =
    let number = number_of c.args.words.now in
    let count = c.args.count in
    let column = c.loop-column.column in
    let prefix = c.loop-column.columns in
    let half = shr-shr number column 1 in
    let rest = set_numbered (count - (column + 1)) (column + 1) (number / 2 ^ (column + 1)) in
    elim c.if-is_set.branch [
      | then-is_set+in_ok-push w ↦
          let after : c.if-is_set.columns ≡ prefix ++ column ∷ [] = w.columns-is ∙ w.in_ok-push.ensures.ok in
          record {
            all = ap (λ (lines : List ℕ). lines ++ rest) after
                ∙ ap (λ (n : ℕ). (prefix ++ column ∷ []) ++ set_numbered (count - (column + 1)) (column + 1) n) (sym half)
                ∙ numbered_more prefix count column (number / 2 ^ column) c.loop-column-test.true (c.is_set.ensures.0 w.if-is_set.true)
                ∙ c.loop-column.invariant.all;
            below = subst (λ (lines : List ℕ). (k : ℕ) → k < length lines → get_or lines k 0 < column + 1) (sym after) (above-append prefix column c.loop-column.invariant.below);
          }
      | else-is_set w ↦ record {
        all = ap (λ (lines : List ℕ). lines ++ rest) w.columns-is
            ∙ ap (λ (n : ℕ). prefix ++ set_numbered (count - (column + 1)) (column + 1) n) (sym half)
            ∙ numbered_less prefix count column (number / 2 ^ column) c.loop-column-test.true (λ one. false≢true (sym w.if-is_set.false ∙ c.is_set.ensures.1 one))
            ∙ c.loop-column.invariant.all;
        below = λ k h.
            let before : get_or prefix k 0 < column = c.loop-column.invariant.below k (subst (λ (lines : List ℕ). k < length lines) w.columns-is h) in
            omega (arith, before, ap (λ (lines : List ℕ). get_or lines k 0) w.columns-is);
      }
    ]
