use Rattle.std.proofs.Common.{◌∙◌, inl, inr, sym}
use Rattle.three_sep.proofs.OtherLemmas.{no_column}
use Rattle.three_sep.proofs.others.may_have_columns.Goals as goal

pub returns : goal.returns
returns c = λ e.
    let m = c.args.matrix.now in
    let groups = c.args.groups.now in
    elim (c.may_have.ensures e) [
      | inl h ↦ inl (sym c.first_is_flat.ensures ∙ h.0, no_column m groups c.rows.result c.args.i c.args.k c.rows.ensures.rows h.1)
      | inr h ↦ inr (sym c.second_is_flat.ensures ∙ h.0, no_column m groups c.rows.result c.args.k c.args.i c.rows.ensures.rows h.1)
    ]
