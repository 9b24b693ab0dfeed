use Rattle.std.proofs.Common.{rules}
use Rattle.frames.specs.Held.{given_names}
use Rattle.frames.proofs.FileLemmas.{emptied}
use Rattle.frames.proofs.request_shelf.RequestShelfShelf.begin_write.Goals as goal

pub returns-clause-emptied : goal.returns-clause-emptied
returns-clause-emptied c = λ told. emptied (given_names c.args.self.now.given.now) c.args.self.now.written.items c.new_file.new.files.items c.args.name.now (search rules)
