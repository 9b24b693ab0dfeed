use Rattle.cmr_reach.proofs.tools.parts.decide_on_tree.Goals as goal

pub returns : goal.returns
returns c = c.in_ok-check_and_part.ensures
