use Rattle.std.proofs.Common.{subst, sym}
use Rattle.cmr_front.specs.Ending.{devices, standing, telling, CarriesOut, HasRooms}
use Rattle.cmr_front.specs.Outcome.{ended_report}
use Rattle.cmr_front.specs.Run.{work}
use Rattle.cmr_front.specs.Unread.{between}
use Rattle.cmr_front.proofs.Endings.{means, means_without_files, pointwise, runs}
use Rattle.cmr_front.proofs.tool.Tool.run.Goals as goal

pub returns-clause-runs : goal.returns-clause-runs
returns-clause-runs g c =
    let S = g.S.Shelf in
    let O = g.O.Sink in
    let E = g.E.Sink in
    let shelf = c.args.shelf.now in
    let out = c.args.out.now in
    let err = c.args.err.now in
    let read = c.examine-ended in
    let done = c.carry_out in
    runs (work (g.Self.Tool.tool c.args.self.now)) (standing S O E shelf out err) (devices S O E shelf out err)
    (S.content read.new.shelf) (S.reads read.new.shelf) (S.writes read.new.shelf) (S.failed read.new.shelf) (S.faults read.new.shelf) read.result
    (devices S O E done.new.shelf done.new.out done.new.err) done.result
    (record {
      lawful = c.lawful.ensures;
      told = g.met.S.Shelf.calm_tells shelf;
      ends = read.ensures.ends;
      content = read.ensures.kept.names;
      writes = read.ensures.writes;
      later = read.ensures.later;
      refused = λ none. absurd none;
      cause = read.ensures.cause;
    })
    (record {
      carried_out = subst (λ told. CarriesOut read.result (telling told (O.tells out) (E.tells err)) (devices S O E read.new.shelf out err) (devices S O E done.new.shelf done.new.out done.new.err) done.result)
          read.ensures.kept.standing.telling done.ensures.carried_out;
      given = done.ensures.status;
      ready = λ room. done.ensures.ready (record { shelf = read.ensures.kept.standing.calm room.shelf; output = room.output; rooms = subst (λ rooms. HasRooms rooms (ended_report read.result).files) (sym (pointwise (S.room read.new.shelf) (S.room shelf) read.ensures.kept.standing.rooms)) room.rooms; room = room.room });
      stopped = done.ensures.stopped;
      reads = done.ensures.reads;
      failed = done.ensures.failed;
      later = done.ensures.later;
    })

pub returns-clause-means : goal.returns-clause-means
returns-clause-means g c =
    let S = g.S.Shelf in
    let O = g.O.Sink in
    let E = g.E.Sink in
    let shelf = c.args.shelf.now in
    let out = c.args.out.now in
    let err = c.args.err.now in
    let read = c.examine-ended in
    let done = c.carry_out in
    means (g.Self.Tool.tool c.args.self.now) c.lawful.ensures (standing S O E shelf out err) (S.content shelf) (between (S.reads shelf) (S.reads read.new.shelf)) (S.failed read.new.shelf) read.result
    (devices S O E read.new.shelf out err) (devices S O E done.new.shelf done.new.out done.new.err) done.result
    read.ensures.ends done.ensures.status

-- a tool that reads no file
pub returns-clause-no_files : goal.returns-clause-no_files
returns-clause-no_files g c = λ none answer is.
    means_without_files (g.Self.Tool.tool c.args.self.now) (g.S.Shelf.content c.args.shelf.now) _ answer none ((returns-clause-runs g c).means answer is)
