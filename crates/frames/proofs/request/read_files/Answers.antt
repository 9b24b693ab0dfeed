use Rattle.std.proofs.Common.{map, rules}
use Rattle.frames.specs.Requests.{given_file}
use Rattle.frames.proofs.RequestLemmas.{file_read, no_bytes, no_name, no_utf8_name, one_more_file}
use Rattle.frames.proofs.request.read_files.Goals as goal

pub files-preserved : goal.files-preserved
files-preserved c =
    file_read c.args.text.now c.files.left.now c.in-Some.head.text.now c.in-Some.head.rest.now c.in-Some-first_netstring.next.text.now c.in-Some-first_netstring.next.rest.now (map given_file c.files.files.items) (map given_file c.push.new.self.items)
    c.files.invariant (search rules) (search rules) (search rules) (search rules) (one_more_file c.files.files.items c.push.new.self.items _ c.in-Some.head.text.now c.in-Some-first_netstring.next.text.now c.in_ok-push.ensures.items (search rules) (search rules))

pub returns-in_default-clause-none : goal.returns-in_default-clause-none
returns-in_default-clause-none c = λ none.
    no_name c.args.text.now c.files.left.now (map given_file c.files.files.items) c.files.invariant (search rules) c.in_default.ensures.none

pub returns-in_default-from_utf8-clause-none : goal.returns-in_default-from_utf8-clause-none
returns-in_default-from_utf8-clause-none c = λ none.
    no_utf8_name c.args.text.now c.files.left.now c.in-Some.head.text.now c.in-Some.head.rest.now (map given_file c.files.files.items) c.files.invariant (search rules) c.in-Some.ensures.some (search rules)

pub returns-in_default-first_netstring-clause-none : goal.returns-in_default-first_netstring-clause-none
returns-in_default-first_netstring-clause-none c = λ none.
    no_bytes c.args.text.now c.files.left.now c.in-Some.head.text.now c.in-Some.head.rest.now (map given_file c.files.files.items) c.files.invariant (search rules) c.in-Some.ensures.some c.in_default-first_netstring.ensures.none
