use Rattle.std.proofs.Common.{◌≡◌, ◌≢◌, ◌<◌, ◌∙◌, arith, rules}
use Rattle.frames.proofs.FileLemmas.{found_by, passed_by}
use Rattle.frames.proofs.written_file.find_written.Goals as goal

pub returns-then-eq-clause-some : goal.returns-then-eq-clause-some
returns-then-eq-clause-some c = λ held.
    let some : 0 < c.files.index = search rules in
    let named : c.index-files-index.result.name ≡ c.args.name.now = search rules in
    c.files.invariant.same held ∙ found_by held c.args.files.now c.files.index c.index-files-index.result c.args.name.now some c.files.invariant.within c.index-files-index.is named

pub files-preserved : goal.files-preserved
files-preserved c =
    let some : 0 < c.files.index = search rules in
    let other : c.index-files-index.result.name ≢ c.args.name.now = search rules in
    record {
      within = omega (arith, c.files.invariant.within);
      same = λ held. c.files.invariant.same held ∙ passed_by held c.args.files.now c.files.index c.index-files-index.result c.args.name.now some c.files.invariant.within c.index-files-index.is other;
    }
