use Rattle.std.proofs.Common.{IsErrOf, rules}
use Rattle.frames.specs.declared.request.RequestError.TheVariants.{NoRequest}
use Rattle.frames.proofs.RequestLemmas.{request_parts}
use Rattle.frames.proofs.request.read_request.Goals as goal

pub returns-in_err-words-clause-none : goal.returns-in_err-words-clause-none
returns-in_err-words-clause-none c = λ none words files request.
    let was : IsErrOf c.read_words.result NoRequest = search rules in
    c.read_words.ensures.none was words (request_parts c.args.text.now c.in-Some.head.text.now c.in-Some.head.rest.now words files c.in-Some.ensures.some request).words_are

pub returns-in_err-files-clause-none : goal.returns-in_err-files-clause-none
returns-in_err-files-clause-none c = λ none words files request.
    let was : IsErrOf c.read_files.result NoRequest = search rules in
    c.read_files.ensures.none was files (request_parts c.args.text.now c.in-Some.head.text.now c.in-Some.head.rest.now words files c.in-Some.ensures.some request).files_are
