-- What the names of a request hold: the last file with a name counts.
use Rattle.std.specs.Prelude.{List, map}
use Rattle.frames.specs.NamedFiles.{Names, all_laid, nothing_held}
use Rattle.frames.specs.Requests.{given_file}
use Rattle.frames.specs.declared.request.GivenFile.{GivenFile}

abbrev pub given_names : List GivenFile → Names
given_names given = all_laid nothing_held (map given_file given)
