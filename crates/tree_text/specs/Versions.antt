-- The first two words of tree texts: their content, and their version.
use Rattle.std.specs.Prelude.{if◌then◌else◌, ℕ, List, Result, Ok, Err, codes, bytes_eq}
use Rattle.tree_text.specs.declared.error.TreeKind.{TreeKind}
use Rattle.tree_text.specs.declared.error.TreeKind.TheVariants.{WrongVersion}
use Rattle.tree_text.specs.declared.header.Title.{Title}
use Rattle.tree_text.specs.declared.header.Title.TheVariants as title
use Rattle.tree_text.specs.declared.header.Version.{Version}
use Rattle.tree_text.specs.declared.header.Version.TheVariants.{One, Two, Pivoted}

abbrev pub title_word : Title → List ℕ
title_word title.Tree = codes "cmr-tree"
title_word title.Pivots = codes "cmr-pivots"

-- the title with this word
abbrev pub title_in : List ℕ → Result Title TreeKind
title_in word =
    if bytes_eq word (title_word title.Tree) then Ok title.Tree
    else (if bytes_eq word (title_word title.Pivots) then Ok title.Pivots else Err WrongVersion)

-- the title of the texts of a version
abbrev pub title_of : Version → Title
title_of One = title.Tree
title_of Two = title.Tree
title_of Pivoted = title.Pivots

abbrev pub version_word : Version → List ℕ
version_word One = codes "1"
version_word Two = codes "2"
version_word Pivoted = codes "1"

-- the version with this word after a title
abbrev pub version_in : Title → List ℕ → Result Version TreeKind
version_in title.Tree word =
    if bytes_eq word (version_word One) then Ok One
    else (if bytes_eq word (version_word Two) then Ok Two else Err WrongVersion)
version_in title.Pivots word = if bytes_eq word (version_word Pivoted) then Ok Pivoted else Err WrongVersion
