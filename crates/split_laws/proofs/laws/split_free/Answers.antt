use Rattle.split_laws.proofs.SplitLemmas.{splits_are_unimodular, splits_of_columns_are_unimodular}
use Rattle.split_laws.proofs.laws.split_free.Goals as goal

pub returns-clause-rows : goal.returns-clause-rows
returns-clause-rows c = splits_are_unimodular

pub returns-clause-columns : goal.returns-clause-columns
returns-clause-columns c = splits_of_columns_are_unimodular
