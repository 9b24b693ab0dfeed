use Rattle.std.proofs.Common.{◌∙◌, ◌<◌, ◌&&◌, ◌||◌, ℕ, sym, ap, ap₂, subst, not}
use Rattle.cmr_base.specs.ColumnSets.{has_column}
use Rattle.bridge_split.proofs.part_walk.PartWalk.set_zeros.Goals as goal

pub returns-clause-zeros : goal.returns-clause-zeros
returns-clause-zeros c =
    let self = c.args.self.now in
    let words = c.columns_of.result.now in
    let fits = self.all_fit ∙ c.requires.columns in record {
      size = c.add_outside_words.ensures.size ∙ c.clear.ensures.size ∙ self.zeros_fit ∙ c.requires.columns;
      exact = λ column l. c.add_outside_words.ensures.columns column
          ∙ ap (λ t. t || (has_column self.all.words column && not (has_column words column))) (c.clear.ensures.none column)
          ∙ ap₂ (λ s t. s && not t) (self.are_all column (subst (λ (n : ℕ). column < n) (sym fits) l)) (c.columns_of.ensures.columns column);
    }
