use Rattle.std.proofs.Common.{◌≡◌, ◌<◌, ◌^◌, ◌∙◌, ◌&&◌, ℕ, ℤ, true, false, SFits, ap, arith, length, nat_lt, rules, subst, sym, w8}
use Rattle.std.specs.BTreeSet.{Updates}
use Rattle.std.specs.Ordering.{nat_cmp}
use Rattle.std.proofs.lemmas.Int.{to_z-of_z}
use Rattle.std.proofs.lemmas.Result.{on_ok_weaker}
use Rattle.cmr_base.specs.Matrix.{is_nonzero}
use Rattle.sparse_matrix.specs.SparseRows.{SparseRows, run_of}
use Rattle.sparse_text.specs.NamedPositions.{HasNewPosition}
use Rattle.sparse_text.specs.WrittenEntries.{with_value}
use Rattle.sparse_text.specs.declared.named.TheConstants.{SCANNED}
use Rattle.sparse_text.proofs.NamedPositions.{first_named, other_named}
use Rattle.sparse_text.proofs.named.write_named.Goals as goal

pub returns-then-is_among_first-clause-named : goal.returns-then-is_among_first-clause-named
returns-then-is_among_first-clause-named c =
    let matrix : SparseRows = c.args.matrix.now in
    let others = c.args.others.now in
    let row = c.args.row in
    let column = c.args.column in
    let fits : SFits w8 c.args.value = search rules in
    let same = to_z-of_z w8 c.args.value fits in
    let few = nat_lt (length (run_of matrix row)) SCANNED in
    let test : (is_nonzero c.args.value && few) ≡ true = sym (c.is_among_first.ensures.answer ∙ ap (λ (z : ℤ). is_nonzero z && few) same) ∙ c.if-is_among_first.true in
    let named = first_named matrix row column c.args.value c.is_among_first.ensures.shape c.requires.row others test in
    on_ok_weaker c.write_entry.result
    (λ made. subst (λ (next : SparseRows). HasNewPosition row column matrix others next others) (sym (made ∙ ap (with_value matrix row column) same)) named)
    c.write_entry.ensures.matrix

pub returns-clause-named : goal.returns-clause-named
returns-clause-named c =
    let matrix : SparseRows = c.args.matrix.now in
    let others = c.args.others.now in
    let new = c.insert.new.self in
    let row = c.args.row in
    let column = c.args.column in
    let shape = c.is_among_first.ensures.shape in
    let fits : SFits w8 c.args.value = search rules in
    let same = to_z-of_z w8 c.args.value fits in
    let few = nat_lt (length (run_of matrix row)) SCANNED in
    let test : (is_nonzero c.args.value && few) ≡ false = sym (c.is_among_first.ensures.answer ∙ ap (λ (z : ℤ). is_nonzero z && few) same) ∙ c.if-is_among_first.false in
    let within : column < 2 ^ 32 = omega (arith, shape.columns_in, c.requires.column) in
    let updated = subst (λ (number : ℕ). Updates nat_cmp others new number true) c.number_of.ensures c.in_ok-insert.ensures.updates in
    let named = other_named matrix row column c.args.value shape c.requires.row others new test within updated in
    on_ok_weaker c.write_entry-2.result
    (λ made. subst (λ (next : SparseRows). HasNewPosition row column matrix others next new) (sym (made ∙ ap (with_value matrix row column) same)) named)
    c.write_entry-2.ensures.matrix
