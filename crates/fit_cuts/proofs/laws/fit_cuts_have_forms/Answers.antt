use Rattle.fit_cuts.proofs.FitForms.{cuts_have_forms, fit_cuts_separate}
use Rattle.fit_cuts.proofs.laws.fit_cuts_have_forms.Goals as goal

pub returns-clause-forms : goal.returns-clause-forms
returns-clause-forms c = cuts_have_forms

pub returns-clause-separate : goal.returns-clause-separate
returns-clause-separate c = fit_cuts_separate
