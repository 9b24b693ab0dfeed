use Rattle.std.proofs.Common.{◌≡◌, ◌≢◌, ◌<◌, ◌∙◌, ℕ, pos, inl, inr, sym, subst, arith}
use Rattle.cmr_base.specs.Matrix.{Matrix, entry}
use Rattle.camion_sign.proofs.Steps.{row_one}
use Rattle.camion_sign.proofs.reach.pass_earlier.Goals as goal

pub insert-requires : goal.insert-requires
insert-requires c =
    let inside : c.in-Some.column < c.args.matrix.now.width = subst (λ (a : Matrix). c.in-Some.column < a.width) c.by_rows.ensures.matrix c.in-Some.ensures.first.1 in
    omega (arith, inside, c.loop-column.invariant.size, c.requires.size)

pub loop-column-preserved : goal.loop-column-preserved
loop-column-preserved c =
    let m = c.args.matrix.now in
    let t = c.args.start.row in
    let column = c.in-Some.column in
    let found = c.in-Some.ensures.first in
    let before = c.loop-column.invariant in
    let inside : column < m.width = subst (λ (a : Matrix). column < a.width) c.by_rows.ensures.matrix found.1 in
    let early : column < c.args.start.column = omega (arith, c.if-column-start.false) in
    record {
      size = c.insert.ensures.size ∙ before.size;
      only = λ x has. elim (c.insert.ensures.only x has) [
        | inl e ↦ inr (let is : column ≡ x = sym e in subst (λ (y : ℕ). (entry m t y ≢ pos 0) × (y < c.args.start.column)) is (row_one m c.by_rows.result.now t column c.by_rows.ensures.matrix found.2, early))
        | inr old ↦ before.only x old
      ];
      kept = λ x has. c.insert.ensures.kept x (before.kept x has);
      inside = omega (arith, inside);
    }
