use Rattle.std.proofs.Common.{◌≡◌, ◌∙◌, SFits, ap, rules, subst, sym, w8, ℤ}
use Rattle.std.proofs.lemmas.Int.{to_z-of_z}
use Rattle.sparse_matrix.specs.SparseRows.{SparseRows, with_nonzero}
use Rattle.sparse_text.specs.WrittenEntries.{HasNewEntry}
use Rattle.sparse_text.proofs.WrittenEntries.{nonzero_written}
use Rattle.sparse_text.proofs.written.write_entry.Goals as goal

pub returns-in_ok-push-clause-entry : goal.returns-in_ok-push-clause-entry
returns-in_ok-push-clause-entry c =
    let matrix : SparseRows = c.args.matrix.now in
    let fits : SFits w8 c.args.value = search rules in
    let pushed : c.push.new.self ≡ with_nonzero matrix c.args.row (record { line = c.args.column; value = c.args.value }) =
    c.in_ok-push.ensures ∙ ap (λ (z : ℤ). with_nonzero matrix c.args.row (record { line = c.args.column; value = z })) (to_z-of_z w8 c.args.value fits) in
    subst (HasNewEntry c.args.row c.args.column c.args.value matrix) (sym pushed)
    (nonzero_written matrix c.args.row c.args.column c.args.value c.rows-rows.ensures.shape c.requires.row c.requires.free)
