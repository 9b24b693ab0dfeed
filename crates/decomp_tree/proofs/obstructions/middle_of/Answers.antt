use Rattle.decomp_tree.proofs.NoNetworks.{run_among, run_increases}
use Rattle.decomp_tree.proofs.obstructions.middle_of.Goals as goal

pub of-requires : goal.of-requires
of-requires c = run_increases c.args.lines.now _ _ _ _ c.as_slice-numbers.ensures.increasing c.as_slice-numbers.ensures.items c.run_of.ensures

pub returns : goal.returns
returns c = run_among c.args.lines.now _ _ _ _ _ c.as_slice-numbers.ensures.increasing c.as_slice-numbers.ensures.items c.run_of.ensures c.in_ok-middle.ensures
