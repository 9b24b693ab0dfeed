use Rattle.std.proofs.Common.{◌≡◌, ◌+◌, ◌<◌, ◌≤◌, ◌^◌, ◌*◌, ◌∙◌, ℕ, Bool, cond, false, get_or, length, set, ap, ap₂, subst, sym, arith}
use Rattle.sp_reduce.specs.LineKinds.{own_line, other_kind}
use Rattle.sp_reduce.specs.declared.kind.LineKind.{LineKind}
use Rattle.sp_reduce.proofs.TallyLemmas.{tallies_same, tallies_skip, tallies_step, passed_row, counts_small, cross_small, sums_small, minus_sums_small, own_counted, own_in, other_in, weights_small}
use Rattle.sp_reduce.proofs.tallies.Tallies.add_row.Goals as goal

pub returns-then-not-visited-row : goal.returns-then-not-visited-row
returns-then-not-visited-row c = tallies_skip c.args.matrix.now c.args.kind c.args.visited.now c.args.marks.now c.args.row c.args.self.now c.requires.visited c.if-not-visited-row.true c.requires.before

pub returns : goal.returns
returns c =
    tallies_same c.args.matrix.now c.args.kind c.args.visited.now c.args.marks.now c.args.row c.columns.from (c.args.row + 1) 0 c.columns.self
    (passed_row c.args.matrix.now c.args.row c.columns.from c.in_default.ensures.first) c.columns.invariant.are

pub add-requires-clause-few : goal.add-requires-clause-few
add-requires-clause-few c =
    let m = c.args.matrix.now in
    let row = c.args.row in
    let next = c.in-Some.column in
    subst (λ (n : ℕ). get_or c.columns.self.counts.items n 0 ≤ 1000) (sym c.own-line.ensures)
    (counts_small m c.args.kind c.args.visited.now c.args.marks.now row c.columns.from c.columns.self c.requires.shape c.columns.invariant.are (own_line c.args.kind row next) (own_in m c.args.kind row next c.requires.row c.in-Some.ensures.first.1)
    (own_counted c.args.kind c.args.visited.now row next c.if-not-visited-row.false))

pub add-requires-clause-light : goal.add-requires-clause-light
add-requires-clause-light c =
    let m = c.args.matrix.now in
    let row = c.args.row in
    let next = c.in-Some.column in
    subst (λ (n : ℕ). get_or c.columns.self.sums.items n 0 ≤ 1000 * 1000 ^ 5) (sym c.own-line.ensures)
    (sums_small m c.args.kind c.args.visited.now c.args.marks.now row c.columns.from c.columns.self c.requires.shape c.columns.invariant.are (own_line c.args.kind row next) (own_in m c.args.kind row next c.requires.row c.in-Some.ensures.first.1)
    (own_counted c.args.kind c.args.visited.now row next c.if-not-visited-row.false))

pub add-requires-clause-minus_light : goal.add-requires-clause-minus_light
add-requires-clause-minus_light c =
    let m = c.args.matrix.now in
    let row = c.args.row in
    let next = c.in-Some.column in
    subst (λ (n : ℕ). get_or c.columns.self.minus_sums.items n 0 ≤ 1000 * 1000 ^ 5) (sym c.own-line.ensures)
    (minus_sums_small m c.args.kind c.args.visited.now c.args.marks.now row c.columns.from c.columns.self c.requires.shape c.columns.invariant.are (own_line c.args.kind row next)
    (own_in m c.args.kind row next c.requires.row c.in-Some.ensures.first.1)
    (own_counted c.args.kind c.args.visited.now row next c.if-not-visited-row.false))

pub add-requires-clause-small : goal.add-requires-clause-small
add-requires-clause-small c =
    let m = c.args.matrix.now in
    let kind = c.args.kind in
    let row = c.args.row in
    let next = c.in-Some.column in
    let crossing = own_line (other_kind kind) row next in
    let few : length c.args.marks.now ≤ 1000 = omega (arith, cross_small m kind c.requires.shape, c.requires.marks) in
    let in_marks : crossing < length c.args.marks.now = omega (arith, other_in m kind row next c.requires.row c.in-Some.ensures.first.1, c.requires.marks) in
    subst (λ (n : ℕ). get_or c.args.weights.now n 0 ≤ 1000 ^ 5) (sym (c.own-other.ensures ∙ ap (λ (k : LineKind). own_line k row next) c.other.ensures))
    (weights_small c.args.marks.now c.args.weights.now c.requires.weights few crossing in_marks)

pub columns-preserved : goal.columns-preserved
columns-preserved c =
    let kind = c.args.kind in
    let marks = c.args.marks.now in
    let row = c.args.row in
    let next = c.in-Some.column in
    let counts = c.columns.self.counts.items in
    let sums = c.columns.self.sums.items in
    let minus_sums = c.columns.self.minus_sums.items in
    let found = c.in-Some.ensures.first in
    let small = c.in-Some.ensures.small in
    let other : c.own-other.result ≡ own_line (other_kind kind) row next = c.own-other.ensures ∙ ap (λ (k : LineKind). own_line k row next) c.other.ensures in
    let weights = c.args.weights.now in
    let in_marks : own_line (other_kind kind) row next < length marks = omega (arith, other_in c.args.matrix.now kind row next c.requires.row found.1, c.requires.marks) in
    record {
      inside = omega (arith, small);
      are = tallies_step c.args.matrix.now kind c.args.visited.now marks row c.columns.from next c.columns.self c.add.new.self c.columns.invariant.are c.if-not-visited-row.false c.requires.row found.1 found.0 found.2 found.3
          (c.add.ensures.counts ∙ ap₂ (λ (l o : ℕ). set counts l (get_or counts l 0 + cond (get_or marks o false) 1 0)) c.own-line.ensures other)
          (c.add.ensures.sums ∙ ap₂ (λ (l o : ℕ). set sums l (get_or sums l 0 + get_or weights o 0)) c.own-line.ensures other
          ∙ ap (λ (n : ℕ). set sums (own_line kind row next) (get_or sums (own_line kind row next) 0 + n)) (c.requires.weights.exact (own_line (other_kind kind) row next) in_marks))
          (c.add.ensures.minus_sums ∙ ap₂ (λ (l o : ℕ). set minus_sums l (get_or minus_sums l 0 + cond c.is_minus-minus.result (get_or weights o 0) 0)) c.own-line.ensures other
          ∙ ap₂ (λ (b : Bool) (n : ℕ). set minus_sums (own_line kind row next) (get_or minus_sums (own_line kind row next) 0 + cond b n 0))
          c.is_minus-minus.ensures (c.requires.weights.exact (own_line (other_kind kind) row next) in_marks));
    }
