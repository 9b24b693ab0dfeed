use Rattle.std.proofs.Common.{◌≡◌, ◌<◌, ◌-◌, ◌+◌, ◌^◌, ◌∙◌, List, ℕ, ap, arith, drop, length, subst, sym}
use Rattle.std.proofs.lemmas.List.{length-drop}
use Rattle.cmr_io.specs.Pieces.{GivesPrefix}
use Rattle.frames.specs.NamedFiles.{file_at}
use Rattle.frames.specs.RequestBegun.{left_of_begun, written_place}
use Rattle.frames.proofs.FileLemmas.{piece_given}
use Rattle.frames.proofs.request_shelf.RequestShelfShelf.next.Goals as goal

pub bytes_from-bytes-requires-clause-file : goal.bytes_from-bytes-requires-clause-file
bytes_from-bytes-requires-clause-file c =
    omega (arith, c.args.self.now.in_range (c.in-Written.file, c.in-Written.at) (ap written_place c.in-Written.is), c.deref.ensures.len)

pub bytes_from-bytes-requires-clause-at : goal.bytes_from-bytes-requires-clause-at
bytes_from-bytes-requires-clause-at c =
    rw c.deref.ensures.value (c.args.self.now.within (c.in-Written.file, c.in-Written.at) (ap written_place c.in-Written.is))

pub overflow_add-self : goal.overflow_add-self
overflow_add-self c =
    let text = (file_at c.args.self.now.written.items c.in-Written.file).bytes in
    let fits : length text < 2 ^ 64 = rw c.deref.ensures.value at c.bytes_from-bytes.ensures.fits in
    let left : c.bytes_from-bytes.result.now ≡ drop c.in-Written.at text = rw c.deref.ensures.value at c.bytes_from-bytes.ensures.value in
    let many : length c.bytes_from-bytes.result.now ≡ length text - c.in-Written.at = ap length left ∙ length-drop c.in-Written.at text in
    let within = c.args.self.now.within (c.in-Written.file, c.in-Written.at) (ap written_place c.in-Written.is) in
    omega (arith, fits, many, within, c.copy_prefix-count-in-Written.ensures.count)

pub returns-in-Written-clause-given : goal.returns-in-Written-clause-given
returns-in-Written-clause-given c = λ told.
    let text = (file_at c.args.self.now.written.items c.in-Written.file).bytes in
    let into = c.copy_prefix-count-in-Written.new.into in
    let count = c.copy_prefix-count-in-Written.result in
    let left : c.bytes_from-bytes.result.now ≡ drop c.in-Written.at text = rw c.deref.ensures.value at c.bytes_from-bytes.ensures.value in
    subst (λ (xs : List ℕ). GivesPrefix xs (drop (c.in-Written.at + count) text) into count) (sym (ap (left_of_begun c.args.self.now.written.items) c.in-Written.is))
    (piece_given text c.bytes_from-bytes.result.now into c.in-Written.at count left c.copy_prefix-count-in-Written.ensures.count c.copy_prefix-count-in-Written.ensures.copied)
