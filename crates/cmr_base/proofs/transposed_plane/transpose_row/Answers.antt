use Rattle.std.proofs.Common.{◌*◌, ◌+◌, ◌∙◌, inr, arith}
use Rattle.cmr_base.proofs.ColumnWords.{column_at}
use Rattle.cmr_base.proofs.TransposedRows.{no_word_transposed, word_transposed}
use Rattle.cmr_base.proofs.transposed_plane.transpose_row.Goals as goal

pub loop-chunk-init : goal.loop-chunk-init
loop-chunk-init c = no_word_transposed c.args.to c.args.row c.args.words.now c.args.made.now

pub transpose_word-requires-clause-inside : goal.transpose_word-requires-clause-inside
transpose_word-requires-clause-inside c = λ k l e.
    let chunk = c.loop-chunk.chunk in
    let room = c.requires.inside (64 * chunk + k) (column_at c.args.words.now chunk k l ∙ e) in
    omega (arith, room, c.loop-chunk.invariant.long)

pub transpose_word-requires-clause-empty : goal.transpose_word-requires-clause-empty
transpose_word-requires-clause-empty c = λ k l.
    let column = 64 * c.loop-chunk.chunk + k in
    c.loop-chunk.invariant.others column c.args.row c.requires.row (inr (omega arith)) ∙ c.requires.empty column

pub loop-chunk-preserved : goal.loop-chunk-preserved
loop-chunk-preserved c = word_transposed c.args.to c.args.row c.args.words.now c.args.made.now c.loop-chunk.chunk c.loop-chunk.made c.transpose_word.new.made c.requires.row c.loop-chunk.invariant c.transpose_word.ensures
