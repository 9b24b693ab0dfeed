use Rattle.std.proofs.Common.{◌∙◌, arith}
use Rattle.cmr_io.proofs.KeptLemmas.{keeps_on}
use Rattle.cmr_front.specs.Outcome.{file_of}
use Rattle.cmr_front.proofs.Files.{begun_last, one_more, one_more_write, there, left_at, room_at}
use Rattle.cmr_front.proofs.carry_out.write_files.Goals as goal

pub loop-place-preserved : goal.loop-place-preserved
loop-place-preserved g c =
    let S = g.S.Shelf in
    let before = c.loop-place.invariant in
    let wrote = c.in_default.ensures in
    record {
      written = λ told name. wrote.whole (before.standing.telling ∙ told) name
          ∙ one_more (S.content c.args.shelf.now) (S.content c.loop-place.shelf) c.args.files.now c.loop-place.place c.index-files-place.result name c.loop-place-test.true c.index-files-place.is (before.written told name);
      writes = wrote.writes
          ∙ one_more_write (S.writes c.args.shelf.now) (S.writes c.loop-place.shelf) c.args.files.now c.loop-place.place c.index-files-place.result c.loop-place-test.true c.index-files-place.is before.writes;
      reads = wrote.reads ∙ before.reads;
      standing = keeps_on before.standing wrote.standing;
      later = omega (arith, wrote.counted.cause.later, before.later);
    }

pub returns-in-Err-clause-left : goal.returns-in-Err-clause-left
returns-in-Err-clause-left g c =
    let S = g.S.Shelf in
    let before = c.loop-place.invariant in
    let files = c.args.files.now in
    let place = c.loop-place.place in
    let file = c.index-files-place.result in (
      file_of file,
      there files place file c.loop-place-test.true c.index-files-place.is,
      (λ told.
          let told' = before.standing.telling ∙ told in
          left_at (S.content c.args.shelf.now) (S.content c.loop-place.shelf) (S.content c.write_output_file.new.shelf) files place file
          (before.written told) (c.in-Err.ensures.others told') (c.in-Err.ensures.prefix told')),
      begun_last (S.writes c.args.shelf.now) (S.writes c.loop-place.shelf) (S.writes c.write_output_file.new.shelf) files place file before.writes c.in-Err.ensures.begun,
    )

pub returns-in-Err-clause-ready : goal.returns-in-Err-clause-ready
returns-in-Err-clause-ready g c = λ calm rooms.
    let S = g.S.Shelf in
    let before = c.loop-place.invariant in
    c.in-Err.ensures.ready (before.standing.calm calm)
    (room_at (S.room c.args.shelf.now) (S.room c.loop-place.shelf) c.args.files.now c.loop-place.place c.index-files-place.result c.loop-place-test.true c.index-files-place.is before.standing.rooms rooms)
