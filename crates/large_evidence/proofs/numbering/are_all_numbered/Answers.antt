use Rattle.std.proofs.Common.{rules, ◌<◌, subst, sym, ℕ, false, length, arith}
use Rattle.std.specs.Prelude.{IsTrue}
use Rattle.cmr_base.proofs.Booleans.{true_is_false}
use Rattle.large_evidence.specs.LineDivisions.{AreAtNumbers, lines_at}
use Rattle.large_evidence.proofs.NumberedLines.{lines_there, one_more}
use Rattle.large_evidence.proofs.numbering.are_all_numbered.Goals as goal

pub returns-then-not-are_numbered : goal.returns-then-not-are_numbered
returns-then-not-are_numbered c =
    let side = c.args.side in
    let parts = c.args.parts.now in
    let number = c.loop-number.number in
    let inside : number < length parts = search (rules, arith) in
    let lines = lines_there side parts number c.index-parts-number.result c.lines_of.result.now inside c.index-parts-number.is c.lines_of.ensures.lines in
    let refused : IsTrue c.are_numbered.result → IsTrue false = search rules in (
      λ yes. true_is_false (sym yes),
      λ all. refused (c.are_numbered.ensures.1
          (subst (AreAtNumbers c.args.marks.now c.args.found.now.numbers.items c.args.found.now.places.items number) (sym lines) (all number inside))),
    )

pub loop-number-preserved : goal.loop-number-preserved
loop-number-preserved c =
    let side = c.args.side in
    let parts = c.args.parts.now in
    let number = c.loop-number.number in
    let inside : number < length parts = search (rules, arith) in
    let lines = lines_there side parts number c.index-parts-number.result c.lines_of.result.now inside c.index-parts-number.is c.lines_of.ensures.lines in
    one_more (λ (part : ℕ). AreAtNumbers c.args.marks.now c.args.found.now.numbers.items c.args.found.now.places.items part (lines_at side parts part)) number
    (subst (AreAtNumbers c.args.marks.now c.args.found.now.numbers.items c.args.found.now.places.items number) lines (c.are_numbered.ensures.0 (search rules)))
    c.loop-number.invariant
