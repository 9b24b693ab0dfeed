use Rattle.std.proofs.Common.{rules, ◌≡◌, ◌++◌, ◌∙◌, pos, [], ◌∷◌, List, get_or, ap₂, ℤ, sym, subst}
use Rattle.std.proofs.lemmas.List.{get_or_read}
use Rattle.sparse_matrix.specs.declared.nonzero.Nonzero.{Nonzero}
use Rattle.sparse_matrix.specs.SparseLayout.{sparse_rows_of}
use Rattle.sparse_matrix.specs.SparseRows.{SparseRows, sparse_entry}
use Rattle.sparse_matrix.proofs.Runs.{byte_sign, pushed_shape}
use Rattle.sparse_matrix.proofs.matrix.SparseMatrix.push.Goals as goal

pub invariant_of-self-2 : goal.invariant_of-self-2
invariant_of-self-2 c =
    let pushed : Nonzero = record { line = c.args.column; value = c.args.value } in
    let old : c.index_mut.result.now ≡ get_or c.self.inside.runs.items c.args.row [] =
    get_or_read c.self.inside.runs.items c.args.row c.index_mut.result.now (search rules) c.index_mut.ensures.value [] in
    let new : c.push.new.self ≡ get_or c.self.inside.runs.items c.args.row [] ++ pushed ∷ [] =
    c.in_ok-push.ensures.ok ∙ ap₂ (λ (run : List Nonzero) (z : ℤ). run ++ record { line = c.args.column; value = z } ∷ []) old (byte_sign c.args.value c.requires.value) in
    rw new (pushed_shape (sparse_rows_of c.self.inside) c.args.row pushed c.self.invariant (search rules) (search rules) c.requires.value
    (subst (λ (m : SparseRows). sparse_entry m c.args.row c.args.column ≡ pos 0) (sym c.self.view_is) c.requires.free))
