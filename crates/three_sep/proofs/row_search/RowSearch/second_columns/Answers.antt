use Rattle.std.proofs.Common.{◌∙◌, sym, inl, inr}
use Rattle.cmr_base.proofs.Booleans.{and_is}
use Rattle.three_sep.proofs.ForcedLemmas.{and_false, or_none}
use Rattle.three_sep.proofs.row_search.RowSearch.second_columns.Goals as goal

pub returns-clause-yes : goal.returns-clause-yes
returns-clause-yes c = λ j e. sym ((rw c.by_rows.ensures.matrix at c.columns_of.ensures.columns) j) ∙ (and_is _ _ (sym (or_none _ _ (c.in_ok-columns.ensures.none j)) ∙ sym (c.add_common_words.ensures.columns j) ∙ e)).1

pub returns-clause-no : goal.returns-clause-no
returns-clause-no c = λ j e. elim (and_false _ _ (sym (or_none _ _ (c.in_ok-columns.ensures.none j)) ∙ sym (c.add_common_words.ensures.columns j) ∙ e)) [
  | inl row ↦ inl (sym ((rw c.by_rows.ensures.matrix at c.columns_of.ensures.columns) j) ∙ row)
  | inr candidate ↦ inr candidate
]
