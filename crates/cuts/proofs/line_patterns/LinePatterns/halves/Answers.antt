use Rattle.cmr_base.specs.LineMasks.{as_set}
use Rattle.cuts.proofs.CoverLemmas.{halved_within, heaps_halved}
use Rattle.cuts.proofs.line_patterns.LinePatterns.halves.Goals as goal

pub returns : goal.returns
returns c =
    let m = c.args.matrix.now in
    let side = c.args.self.now.side.now in
    let one = c.in_ok-grown in
    let other = c.in_ok-grown-2 in record {
      one = one.ensures.numbers;
      other = other.ensures.numbers;
      halved = halved_within m (as_set side.lines) (as_set c.in_ok-one.one) (as_set c.in_ok-other.other) (as_set one.field-0.lines) (as_set other.field-0.lines)
          (heaps_halved m c.args.self.now (as_set c.in_ok-one.one) (as_set c.in_ok-other.other) c.rows-shape.ensures.shape c.requires c.in_ok-one.ensures.lines c.in_ok-other.ensures.lines) one.ensures.lines other.ensures.lines;
    }
