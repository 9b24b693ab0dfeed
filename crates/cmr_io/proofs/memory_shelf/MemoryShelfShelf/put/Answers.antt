use Rattle.std.proofs.Common.{◌≡◌, ◌<◌, ◌-◌, Some, length, min, unwrap_or, ap, sym, subst, arith, rules}
use Rattle.cmr_io.specs.declared.memory_shelf.Begun.{Begun}
use Rattle.cmr_io.specs.Begun.{file_begun, file_written}
use Rattle.cmr_io.specs.Files.{room_in, name_at, bytes_at}
use Rattle.cmr_io.specs.MemoryShelf.{target_by, got_by}
use Rattle.cmr_io.proofs.FileLemmas.{content_in-got, room_in-full}
use Rattle.cmr_io.proofs.LimitLemmas.{up_to-zero}
use Rattle.cmr_io.proofs.memory_shelf.MemoryShelfShelf.put.Goals as goal

pub returns-in_err-step-clause-written : goal.returns-in_err-step-clause-written
returns-in_err-step-clause-written c = record {
  taken = search rules;
  holds = content_in-got c.args.self.now.files.items c.args.self.now.begun c.requires c.args.self.now.writable;
}

pub put-count-requires-clause-within : goal.put-count-requires-clause-within
put-count-requires-clause-within c = c.args.self.now.in_range c.in-Write.file (ap file_begun c.in-Write.is)

pub returns-then-not-is_empty-clause-ready : goal.returns-then-not-is_empty-clause-ready
returns-then-not-is_empty-clause-ready c = λ calm.
    let files = c.args.self.now.files.items in
    let file = c.in-Write.file in
    let some : 0 < length c.args.piece.now = search rules in
    let room = unwrap_or (room_in files (name_at files file)) 0 - length (bytes_at files file) in
    let none : min (length c.args.piece.now) room ≡ 0 = up_to-zero c.args.self.now.limit.most (min (length c.args.piece.now) room) c.args.self.now.limit.positive (search rules) in
    let full : room ≡ 0 = omega arith in
    let writable = c.args.self.now.writable file (ap file_written c.in-Write.is) in
    (some, subst (λ (begun : Begun). room_in files (target_by files begun) ≡ Some (length (got_by files begun))) (sym c.in-Write.is) (room_in-full files file writable full))
