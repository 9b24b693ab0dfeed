use Rattle.std.proofs.Common.{◌≡◌, ◌<◌, ◌∙◌, ℕ, Bool, true, false, subst, sym, arith}
use Rattle.cmr_base.specs.Matrix.{Matrix, entry, height}
use Rattle.cmr_base.proofs.Parts.{entry-transposed, height-transposed}
use Rattle.line_growth.specs.GrowingLines.{DecidesUnlike}
use Rattle.line_growth.specs.Rules.{sum_at}
use Rattle.line_growth.proofs.growing_set.GrowingSet.pulls_column.Goals as goal

pub has_unlike-requires-clause-row : goal.has_unlike-requires-clause-row
has_unlike-requires-clause-row c = subst (λ (n : Matrix). c.args.column < height n) (sym c.by_columns.ensures.matrix) (let h = height-transposed c.args.matrix.now in omega (arith, h, c.requires.column))

pub returns-clause-yes : goal.returns-clause-yes
returns-clause-yes c = λ t.
    let m = c.args.matrix.now in
    let column = c.args.column in
    let sum = c.column-sum.result in
    let rows = c.args.self.now.rows in
    let d = subst (λ (n : Matrix). DecidesUnlike true (λ x. entry n column x ≡ sum_at n sum x) rows) c.by_columns.ensures.matrix
    (subst (λ (b : Bool). DecidesUnlike b (λ x. entry c.by_columns.result.now column x ≡ sum_at c.by_columns.result.now sum x) rows) t c.has_unlike.ensures) in (
      d.0,
      subst (λ (n : ℕ). d.0 < n) c.requires.size.rows d.1,
      d.2,
      (λ e. d.3 (entry-transposed m d.0 column c.by_columns.ensures.shape ∙ e ∙ sym (c.column-sum.ensures.value d.0))),
    )

pub returns-clause-no : goal.returns-clause-no
returns-clause-no c = λ t row inside.
    let m = c.args.matrix.now in
    let column = c.args.column in
    let sum = c.column-sum.result in
    let rows = c.args.self.now.rows in
    let d = subst (λ (n : Matrix). DecidesUnlike false (λ x. entry n column x ≡ sum_at n sum x) rows) c.by_columns.ensures.matrix
    (subst (λ (b : Bool). DecidesUnlike b (λ x. entry c.by_columns.result.now column x ≡ sum_at c.by_columns.result.now sum x) rows) t c.has_unlike.ensures) in
    sym (entry-transposed m row column c.by_columns.ensures.shape) ∙ d row inside ∙ c.column-sum.ensures.value row
