use Rattle.std.proofs.Common.{◌≡◌, ◌<◌, ℕ, List, Some, ap, map, refl, subst, length}
use Rattle.std.specs.Prelude.{IsTrue, slice_get}
use Rattle.cmr_io.specs.Whole.{AppendsPrefix}
use Rattle.cmr_front.specs.Report.{File, after_files, with_files}
use Rattle.cmr_front.specs.Outcome.{cannot_write_line, file_of}
use Rattle.cmr_front.specs.SinkLines.{GetsLine}
use Rattle.cmr_front.specs.Ending.{IsBegunLast, IsLeftAt, cut_short, unwritten}
use Rattle.cmr_front.proofs.Files.{file_at}
use Rattle.cmr_front.proofs.carry_out.deliver.Goals as goal

pub returns-in-Err-clause-carried_out : goal.returns-in-Err-clause-carried_out
returns-in-Err-clause-carried_out g c =
    let S = g.S.Shelf in
    let E = g.E.Sink in
    let files = c.args.outcome.now.files.items in
    let place = c.in-Err.field-0.place in
    let told = c.in-Err.ensures.left in
    let at : slice_get (map file_of files) place ≡ Some told.0 = subst (λ fs. slice_get (map file_of fs) place ≡ Some told.0) c.deref.ensures.value told.1 in
    let within : place < length files = subst (λ fs. place < length fs) c.deref.ensures.value c.in-Err.ensures.within in
    let line : GetsLine E c.args.err.now c.write_cannot_write.new.err (cannot_write_line (told.0).name) = subst (λ name. GetsLine E c.args.err.now c.write_cannot_write.new.err (cannot_write_line name))
    (ap (λ (f : File). f.name) (file_at files place c.index.result.now told.0 within c.index.ensures at)) c.write_cannot_write.ensures in
    unwritten c.status.ensures (record {
      place = place;
      file = told.0;
      there = at;
      left = subst (λ fs. IsTrue (S.tells c.args.shelf.now) → IsLeftAt (map file_of fs) place told.0 (S.content c.args.shelf.now) (S.content c.write_files.new.shelf)) c.deref.ensures.value told.2;
      writes = subst (λ fs. IsBegunLast (map file_of fs) place told.0 (S.writes c.args.shelf.now) (S.writes c.write_files.new.shelf)) c.deref.ensures.value told.3;
      failed = c.in-Err.ensures.failed;
      output = λ out_told. refl;
      output_taken = refl;
      error = λ err_told. line.got err_told;
      error_taken = line.taken;
      cause = c.in-Err.ensures.cause.failed;
    })

pub returns-in-Err-write_whole-clause-carried_out : goal.returns-in-Err-write_whole-clause-carried_out
returns-in-Err-write_whole-clause-carried_out g c =
    let S = g.S.Shelf in
    let O = g.O.Sink in
    cut_short c.status-in-Err-write_whole.ensures (record {
      files = subst (λ fs. IsTrue (S.tells c.args.shelf.now) → (name : List ℕ) → S.content c.write_files.new.shelf name ≡ with_files (S.content c.args.shelf.now) (map file_of fs) name) c.deref.ensures.value c.in_default.ensures.whole;
      writes = subst (λ fs. S.writes c.write_files.new.shelf ≡ after_files (S.writes c.args.shelf.now) (map file_of fs)) c.deref.ensures.value c.in_default.ensures.writes;
      output = subst (λ bytes. IsTrue (O.tells c.args.out.now) → AppendsPrefix (O.got c.args.out.now) (O.got c.write_whole.new.sink) bytes) c.deref-2.ensures.value c.in-Err-write_whole.ensures.prefix;
      output_taken = subst (AppendsPrefix (O.taken c.args.out.now) (O.taken c.write_whole.new.sink)) c.deref-2.ensures.value c.in-Err-write_whole.ensures.cut;
      error = c.write_cannot_write-in-Err-write_whole.ensures.got;
      error_taken = c.write_cannot_write-in-Err-write_whole.ensures.taken;
      cause = c.in-Err-write_whole.ensures.cause.failed;
    })
