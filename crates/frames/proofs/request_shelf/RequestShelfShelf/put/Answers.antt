use Rattle.std.proofs.Common.{◌≡◌, ◌<◌, ◌∙◌, List, ℕ, Some, ap, length, refl, rules, sym}
use Rattle.std.proofs.lemmas.List.{take_all}
use Rattle.cmr_io.specs.Log.{Log, log_more}
use Rattle.frames.specs.Held.{given_names}
use Rattle.frames.specs.NamedFiles.{NamedBytes, all_laid, log_of, more_in_last}
use Rattle.frames.specs.RequestBegun.{last_file}
use Rattle.frames.proofs.FileLemmas.{appended, last_here, log_more_in_last, more_other, target_kept}
use Rattle.frames.proofs.request_shelf.RequestShelfShelf.put.Goals as goal

pub returns-then-is_err-clause-written : goal.returns-then-is_err-clause-written
returns-then-is_err-clause-written c = λ told.
    let files = c.args.self.now.written.items in
    let held = given_names c.args.self.now.given.now in
    let some : 0 < length files = search rules in
    let same : c.append_last.new.files.items ≡ files = search rules in
    record {
      taken = ap (λ (fs : List NamedBytes). (last_file fs).bytes) same;
      holds = ap (λ (fs : List NamedBytes). all_laid held fs (last_file files).name) same ∙ last_here held files some ∙ ap (λ (fs : List NamedBytes). Some (last_file fs).bytes) (sym same);
    }

pub returns-clause-written : goal.returns-clause-written
returns-clause-written c = λ told.
    let files = c.args.self.now.written.items in
    let some : 0 < length files = search rules in
    let is : c.append_last.new.files.items ≡ more_in_last files c.args.piece.now = search rules in
    appended (given_names c.args.self.now.given.now) files c.append_last.new.files.items c.args.piece.now some is

pub returns-clause-target : goal.returns-clause-target
returns-clause-target c =
    let files = c.args.self.now.written.items in
    let some : 0 < length files = search rules in
    let is : c.append_last.new.files.items ≡ more_in_last files c.args.piece.now = search rules in
    target_kept files c.append_last.new.files.items c.args.piece.now some is

pub returns-clause-kept : goal.returns-clause-kept
returns-clause-kept c =
    let files = c.args.self.now.written.items in
    let held = given_names c.args.self.now.given.now in
    let some : 0 < length files = search rules in
    let is : c.append_last.new.files.items ≡ more_in_last files c.args.piece.now = search rules in
    record {
      others = λ name other. ap (λ (fs : List NamedBytes). all_laid held fs name) is ∙ more_other held files c.args.piece.now name some other;
      standing = record { telling = refl; calm = λ calm. calm; rooms = λ name. refl };
    }

pub invariant_of-self-2-clause-logged : goal.invariant_of-self-2-clause-logged
invariant_of-self-2-clause-logged c = λ short.
    let files = c.args.self.now.written.items in
    let piece = c.args.piece.now in
    let is : c.append_last.new.files.items ≡ more_in_last files piece = search rules in
    c.add.ensures
    ∙ ap (λ (bytes : List ℕ). log_more c.args.self.now.writes bytes) (take_all (length piece) piece (search rules))
    ∙ ap (λ (log : Log). log_more log piece) (c.args.self.now.logged short)
    ∙ log_more_in_last files piece
    ∙ sym (ap log_of is)
