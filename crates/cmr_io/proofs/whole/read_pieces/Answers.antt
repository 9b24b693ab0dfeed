use Rattle.std.proofs.Common.{◌+◌, ◌++◌, ◌∙◌, ℕ, length-append, length-take, take, drop, sym, ap, arith, refl}
use Rattle.std.proofs.lemmas.List.{length-take-le}
use Rattle.cmr_io.specs.Calls.{up_to_last}
use Rattle.cmr_io.specs.Reads.{Reads, with_more}
use Rattle.cmr_io.proofs.KeptLemmas.{keeps_begun_on, keeps_names_on}
use Rattle.cmr_io.proofs.ReadLemmas.{left_on, items_on, length_on, gives-refused, gives-too_long, ends_on, read_on, read_all_on, texts_on, text-refused}
use Rattle.cmr_io.proofs.whole.read_pieces.Goals as goal

pub pieces-preserved : goal.pieces-preserved
pieces-preserved g c =
    let S = g.S.Shelf in
    let before = c.pieces.invariant in
    let next = c.in_ok-count.ensures in
    let more = c.in_ok-extend_from_slice.ensures in
    let bytes = c.pieces.bytes in
    let new = c.extend_from_slice.new.self in
    let into = c.next.new.into in
    let count = c.in_ok-count.count in
    let start = (S.reads c.args.shelf.now).bytes in
    let after = S.reads c.next.new.self in
    let beyond = drop c.min-room.result c.pieces.piece in
    let len = length_on bytes.len new.len into beyond count next.within more.len in
    record {
      within =
          omega (arith, len, next.within, c.next.auto.into, length-take c.min-room.result c.pieces.piece, c.min-room.ensures, c.len-in-pieces.ensures, c.pieces-test.true, c.len.ensures);
      left = λ exposed.
          left_on (S.left c.args.shelf.now) bytes.items (S.left c.pieces.shelf) (take count into) (S.left c.next.new.self) new.items (before.left exposed)
          (next.given (before.kept.standing.telling ∙ exposed)).given (items_on bytes.items into beyond new.items count next.within more.items);
      read = omega (arith, len, read_on start bytes.len (S.reads c.pieces.shelf) after into count next.reads before.read);
      read_all =
          read_all_on start bytes.len (S.reads c.pieces.shelf) after into count next.reads before.read_all
          ∙ ap (λ (n : ℕ). up_to_last (start + n)) (sym len);
      ends = ends_on (S.reads c.pieces.shelf) after into count next.reads c.if-count-eq0.false ∙ before.ends;
      names = ap (λ (r : Reads). r.names) next.reads ∙ before.names;
      texts = texts_on (S.reads c.args.shelf.now).texts bytes.items new.items (S.reads c.pieces.shelf) after into count next.reads before.texts (items_on bytes.items into beyond new.items count next.within more.items);
      writes = next.writes ∙ before.writes;
      begun = keeps_begun_on before.begun next.begun;
      kept = keeps_names_on before.kept next.kept;
      later = omega (arith, before.later, next.counted.cause.later);
    }

pub returns-in_err-extend_from_slice-clause-given : goal.returns-in_err-extend_from_slice-clause-given
returns-in_err-extend_from_slice-clause-given g c exposed =
    let S = g.S.Shelf in
    let so = c.pieces.invariant in
    let next = c.in_ok-count.ensures in
    let bytes = c.pieces.bytes in
    let into = c.next.new.into in
    let piece = take c.in_ok-count.count into in
    gives-refused c.args.most (S.left c.args.shelf.now) (S.left c.next.new.self) (S.is_reading c.next.new.self) (bytes.items ++ piece) c.from_residual-in_err-extend_from_slice.result
    (left_on (S.left c.args.shelf.now) bytes.items (S.left c.pieces.shelf) piece (S.left c.next.new.self) (bytes.items ++ piece) (so.left exposed)
    (next.given (so.kept.standing.telling ∙ exposed)).given refl)
    (omega (arith, length-append bytes.items piece, length-take-le c.in_ok-count.count into next.within, bytes.ok.0, next.within, c.next.auto.into, length-take c.min-room.result c.pieces.piece, c.min-room.ensures, c.len-in-pieces.ensures, c.pieces-test.true, c.len.ensures))
    c.from_residual-in_err-extend_from_slice.ensures.1

pub returns-clause-given : goal.returns-clause-given
returns-clause-given g c exposed =
    let S = g.S.Shelf in
    let so = c.pieces.invariant in
    let bytes = c.pieces.bytes in
    gives-too_long c.args.most (S.left c.args.shelf.now) (S.left c.pieces.shelf) (S.is_reading c.pieces.shelf) bytes.items (so.left exposed)
    (omega (arith, c.pieces-test.false, c.len.ensures, bytes.ok.0)) (omega (arith, so.within, bytes.ok.0))

pub returns-in_err-extend_from_slice-clause-text : goal.returns-in_err-extend_from_slice-clause-text
returns-in_err-extend_from_slice-clause-text g c =
    let S = g.S.Shelf in
    let next = c.in_ok-count.ensures in
    let bytes = c.pieces.bytes in
    let into = c.next.new.into in
    let count = c.in_ok-count.count in
    let piece = take count into in
    let start = (S.reads c.args.shelf.now).texts in
    let after = S.reads c.next.new.self in
    text-refused c.args.most (with_more start) after.texts (bytes.items ++ piece) c.from_residual-in_err-extend_from_slice.result
    (texts_on start bytes.items (bytes.items ++ piece) (S.reads c.pieces.shelf) after into count next.reads c.pieces.invariant.texts refl)
    (omega (arith, length-append bytes.items piece, length-take-le count into next.within, bytes.ok.0, next.within, c.next.auto.into, length-take c.min-room.result c.pieces.piece, c.min-room.ensures, c.len-in-pieces.ensures, c.pieces-test.true, c.len.ensures))
    c.from_residual-in_err-extend_from_slice.ensures.1
