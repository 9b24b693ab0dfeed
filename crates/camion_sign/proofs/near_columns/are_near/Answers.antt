use Rattle.std.proofs.Common.{◌<◌, ◌∙◌, ℕ, sym, refl, subst, arith}
use Rattle.cmr_base.specs.BitSets.{AreWordsOf}
use Rattle.cmr_base.specs.Matrix.{Matrix, height}
use Rattle.camion_sign.proofs.NearFaults.{shares_more}
use Rattle.camion_sign.proofs.Steps.{column_inside, column_one}
use Rattle.camion_sign.proofs.near_columns.are_near.Goals as goal

pub next_nonzero-requires-clause-row : goal.next_nonzero-requires-clause-row
next_nonzero-requires-clause-row c = column_inside c.args.matrix.now c.by_columns.result.now c.args.start.column c.by_columns.ensures.matrix c.requires.column

pub next_nonzero-requires-clause-from : goal.next_nonzero-requires-clause-from
next_nonzero-requires-clause-from c = omega (arith, c.loop-row.invariant.inside, c.requires.shape.height_in)

pub row_words-requires : goal.row_words-requires
row_words-requires c = subst (λ (a : Matrix). c.in-Some.row < a.width) c.by_columns.ensures.matrix c.in-Some.ensures.first.1

pub add_words-requires : goal.add_words-requires
add_words-requires c = subst (λ (size : ℕ). AreWordsOf size c.row_words.result.now) (sym (c.loop-row.invariant.size ∙ c.requires.size)) c.row_words.ensures.whole

pub returns-then-is_within-clause-near : goal.returns-then-is_within-clause-near
returns-then-is_within-clause-near c = λ e d h.
    let m = c.args.matrix.now in
    let row = c.in-Some.row in
    let column = c.args.start.column in
    let early : row < c.args.start.row = omega (arith, c.if-row-start.false) in
    let one = column_one m c.by_columns.result.now row column c.requires.shape c.by_columns.ensures.matrix c.in-Some.ensures.first.2 in
    shares_more m c.args.start.row column row c.loop-row.near.words c.add_words.new.self.words c.row_words.result.now early one c.row_words.ensures.columns c.add_words.ensures.columns c.loop-row.invariant.shares d (c.if-is_within.ensures.0 refl d h)

pub loop-row-preserved : goal.loop-row-preserved
loop-row-preserved c =
    let m = c.args.matrix.now in
    let row = c.in-Some.row in
    let column = c.args.start.column in
    let early : row < c.args.start.row = omega (arith, c.if-row-start.false) in
    let one = column_one m c.by_columns.result.now row column c.requires.shape c.by_columns.ensures.matrix c.in-Some.ensures.first.2 in
    let inside : row < height m = subst (λ (a : Matrix). row < a.width) c.by_columns.ensures.matrix c.in-Some.ensures.first.1 in
    record {
      size = c.add_words.ensures.size ∙ c.loop-row.invariant.size;
      shares = shares_more m c.args.start.row column row c.loop-row.near.words c.add_words.new.self.words c.row_words.result.now early one c.row_words.ensures.columns c.add_words.ensures.columns c.loop-row.invariant.shares;
      inside = omega (arith, inside);
    }
