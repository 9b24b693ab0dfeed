-- What the closure of linked lines shows of the seeds at a nonzero.
use Rattle.std.proofs.Common.{◌≡◌, ◌≢◌, ◌<◌, ◌+◌, ◌∙◌, not, ℕ, pos, true, List, [], ◌∷◌, ap, sym, get_or, arith}
use Rattle.std.specs.List.{AllByRecursion}
use Rattle.cmr_base.specs.declared.line.Line.{Line}
use Rattle.cmr_base.specs.declared.line.Line.TheVariants.{Row, Column}
use Rattle.cmr_base.specs.Matrix.{Matrix, height, entry}
use Rattle.cmr_base.specs.Separations.{Lines, TwoSeparates, opposite}
use Rattle.cmr_base.specs.Seeds.{line_number}
use Rattle.cmr_base.proofs.LineCounts.{at_least, inside_is}
use Rattle.cmr_base.proofs.Lists.{all_weaker}
use Rattle.cmr_base.proofs.SeedLemmas.{two_separation_of_seed}
use Rattle.line_growth.specs.GrowingSets.{HasNoLeaving}
use Rattle.line_growth.specs.Rules.{exchanged}
use Rattle.two_sep.specs.FirstSeeds.{AreLabelled, HasNoGoodSeed, line_at_number, seed_rule}
use Rattle.two_sep.specs.LinkedLines.{HasLabel}
use Rattle.two_sep.proofs.LineNumbers.{line_of-column, line_of-number, line_of-row, number_in}
use Rattle.two_sep.proofs.SeedSteps.{other_closed}

module _ (m : Matrix) (i j : ℕ) (row : i < height m) (column : j < m.width) (nonzero : entry m i j ≢ pos 0) (labels : List ℕ) (linked : AreLabelled m labels) (start : List Line) where
  -- the lines with the label of a line are on its side
  on_side : (side : Lines) → TwoSeparates m side i j → (place : ℕ) → place < height m + m.width → (line : Line) → HasLabel m labels (get_or labels place 0) line
      → side line ≡ side (line_at_number (height m) place)
  on_side side s place l line has =
      sym (ap side (line_of-number (height m) m.width line has.inside))
      ∙ linked.labelled (line_number (height m) line) place (number_in (height m) m.width line has.inside) l has.same i j side s

  -- the lines with the label of the column are on side one
  pub none_by_column : AllByRecursion (HasLabel m labels (get_or labels (height m + j) 0)) start → HasNoLeaving m (seed_rule i j) start (Row i ∷ []) 2 → HasNoGoodSeed m i j
  none_by_column all none seed side g =
      let s = two_separation_of_seed (height m) m.width (entry m) i j seed side g in
      none side g.1.grown.closed
      (all_weaker (HasLabel m labels (get_or labels (height m + j) 0)) (λ line. side line ≡ true)
      (λ line h. on_side side s (height m + j) (omega arith) line h ∙ (ap side (line_of-column (height m) j) ∙ g.1.grown.has.1.0)) start all)
      (record { none = g.1.two; enough = g.1.enough })

  -- the lines with the label of the row are on side two
  pub none_by_row : AllByRecursion (HasLabel m labels (get_or labels i 0)) start → HasNoLeaving m (exchanged (seed_rule i j)) start [] 2 → HasNoGoodSeed m i j
  none_by_row all none seed side g =
      let s = two_separation_of_seed (height m) m.width (entry m) i j seed side g in
      none (opposite side) (other_closed m i j row column nonzero seed side g)
      (all_weaker (HasLabel m labels (get_or labels i 0)) (λ line. opposite side line ≡ true)
      (λ line h. ap not (on_side side s i (omega arith) line h ∙ (ap side (line_of-row (height m) i row) ∙ g.1.two.0))) start all)
      (record {
        none = tt;
        enough = let a = inside_is (height m) m.width (opposite (opposite side)) in
            let b = at_least (height m) m.width (seed ∷ Column j ∷ []) (opposite (opposite side)) (g.1.line, (column, tt))
            (ap (λ b. not (not b)) g.1.grown.has.0, (ap (λ b. not (not b)) g.1.grown.has.1.0, tt)) (g.1.not_first, (tt, tt)) in omega arith;
      })
