use Rattle.three_sep.proofs.ConcentratedLemmas.{other_candidates}
use Rattle.three_sep.proofs.row_search.RowSearch.new.Goals as goal

pub invariant_of-result : goal.invariant_of-result
invariant_of-result c = record {
  row_in = c.requires;
  are_candidates = other_candidates c.args.matrix.now c.args.row c.in_ok-forced.forced c.in_ok-candidates.candidates c.in_ok-forced.ensures.forced c.in_ok-forced.ensures.size c.in_ok-candidates.ensures.size c.in_ok-candidates.ensures.all;
}
