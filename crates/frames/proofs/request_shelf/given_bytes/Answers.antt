use Rattle.std.proofs.Common.{◌<◌, [], arith, rules}
use Rattle.frames.proofs.FileLemmas.{given_here, given_on}
use Rattle.frames.proofs.request_shelf.given_bytes.Goals as goal

pub returns-then-eq : goal.returns-then-eq
returns-then-eq c =
    let some : 0 < c.files.index = search rules in
    given_here c.args.files.now c.files.index _ c.args.name.now some c.files.invariant.within (search rules) c.files.invariant.same

pub files-preserved : goal.files-preserved
files-preserved c =
    let some : 0 < c.files.index = search rules in
    record {
      within = omega (arith, c.files.invariant.within);
      same = given_on c.args.files.now c.files.index (record { name = record { ref_ptr = (0, 0); now = [] }; bytes = record { ref_ptr = (0, 0); now = [] } }) c.args.name.now some c.files.invariant.within (search rules) c.files.invariant.same;
    }
