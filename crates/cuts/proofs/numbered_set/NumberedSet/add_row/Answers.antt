use Rattle.std.proofs.Common.{◌≤◌, ◌∙◌, arith}
use Rattle.cmr_base.specs.Planes.{words_for}
use Rattle.cmr_base.specs.Trees.{support}
use Rattle.cuts.proofs.ClassLemmas.{numbers_more}
use Rattle.cuts.proofs.numbered_set.NumberedSet.add_row.Goals as goal

pub add_weight-requires-clause-few : goal.add_weight-requires-clause-few
add_weight-requires-clause-few c =
    let is = c.columns-columns.ensures.shape in
    let few : words_for c.args.matrix.now.width ≤ 16 = omega (arith, is.width_in) in
    let long = c.columns_of.ensures.whole.long in
    omega (arith, few, long)

pub add_weight-requires-clause-inside : goal.add_weight-requires-clause-inside
add_weight-requires-clause-inside c = λ x e.
    let n = c.requires.numbers.size in
    let l = c.columns_of.ensures.whole.inside x e in
    omega (arith, n, l)

pub returns-clause-numbers : goal.returns-clause-numbers
returns-clause-numbers c =
    let m = c.args.matrix.now in
    let words = c.columns_of.ensures.columns in record {
      set_size = c.insert.ensures.size ∙ c.requires.numbers.set_size;
      size = c.add_weight.ensures.size ∙ c.requires.numbers.size;
      numbers = numbers_more (support m) m.width c.args.self.now.set.words c.insert.new.self.words c.args.self.now.numbers.items c.add_weight.new.numbers.items c.args.row c.weight_of.result c.requires.numbers.numbers
          c.insert.ensures.kept c.insert.ensures.here (λ x t. c.add_weight.ensures.changed x (words x ∙ t)) (λ x f. c.add_weight.ensures.same x (words x ∙ f));
    }
