use Rattle.tree_text.proofs.VersionsRead.{read_in_version_two}
use Rattle.tree_text.proofs.laws.version_two_reads_all.Goals as goal

pub returns : goal.returns
returns c = read_in_version_two
