use Rattle.cmr_evidence.proofs.tools.check.decide_on_tree.Goals as goal

pub returns : goal.returns
returns c = c.in_ok-check_tree.ensures
