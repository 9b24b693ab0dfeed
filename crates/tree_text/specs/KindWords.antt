-- The kinds of nodes and their words.
use Rattle.std.specs.Prelude.{if◌then◌else◌, ℕ, Bool, true, false, List, [], ◌∷◌, Result, Ok, Err, codes, bytes_eq}
use Rattle.cmr_base.specs.declared.separation.Form.TheVariants.{Delta, YForm, Mixed, Concentrated}
use Rattle.text_fields.specs.Result.{◌>>=◌}
use Rattle.tree_type.specs.DecompositionTrees as said
use Rattle.tree_text.specs.declared.error.TreeKind.{TreeKind}
use Rattle.tree_text.specs.declared.error.TreeKind.TheVariants.{UnknownKind}
use Rattle.tree_text.specs.declared.kind_word.KindWord.{KindWord}
use Rattle.tree_text.specs.declared.kind_word.KindWord.TheVariants.{Empty, Cycle, Reduced, OneSum, Network, Conetwork, R10, TwoSum, ThreeSum, Enumerated, Violator, Undecided, Pivoted}
use Rattle.tree_text.specs.declared.header.Version.{Version}
use Rattle.tree_text.specs.declared.header.Version.TheVariants as version

abbrev pub word_of_kind : KindWord → List ℕ
word_of_kind Empty = codes "empty"
word_of_kind Cycle = codes "cycle"
word_of_kind Reduced = codes "reduced"
word_of_kind OneSum = codes "onesum"
word_of_kind Network = codes "network"
word_of_kind Conetwork = codes "conetwork"
word_of_kind R10 = codes "r10"
word_of_kind TwoSum = codes "twosum"
word_of_kind (ThreeSum Delta) = codes "delta"
word_of_kind (ThreeSum YForm) = codes "y"
word_of_kind (ThreeSum Mixed) = codes "mixed"
word_of_kind (ThreeSum Concentrated) = codes "concentrated"
word_of_kind Enumerated = codes "enumerated"
word_of_kind Violator = codes "violator"
word_of_kind Undecided = codes "undecided"
word_of_kind Pivoted = codes "pivoted"

abbrev pub kind_words : List KindWord
kind_words =
    Empty ∷ Cycle ∷ Reduced ∷ OneSum ∷ Network ∷ Conetwork ∷ R10 ∷ TwoSum ∷ ThreeSum Delta ∷ ThreeSum YForm ∷ ThreeSum Mixed
    ∷ ThreeSum Concentrated ∷ Enumerated ∷ Violator ∷ Undecided ∷ Pivoted ∷ []

-- the first of these kinds that has this word
abbrev pub kind_among : List KindWord → List ℕ → Result KindWord TreeKind
kind_among [] word = Err UnknownKind
kind_among (kind ∷ kinds) word = if bytes_eq word (word_of_kind kind) then Ok kind else kind_among kinds word

-- version 1 has no word for concentrated three-sums, and only texts of pivots have a word for pivoted nodes
abbrev pub has_word : Version → KindWord → Bool
has_word version.One (ThreeSum Concentrated) = false
has_word version.One Pivoted = false
has_word version.Two Pivoted = false
has_word version kind = true

-- the kind with this word in texts of a version
abbrev pub kind_in : Version → List ℕ → Result KindWord TreeKind
kind_in version word = do
  kind ← kind_among kind_words word
  if has_word version kind then Ok kind else Err UnknownKind

-- the kind of a node with this finding
abbrev pub kind_of : said.Finding → KindWord
kind_of said.Empty = Empty
kind_of (said.Cycle fault) = Cycle
kind_of (said.Reduced steps) = Reduced
kind_of said.OneSum = OneSum
kind_of (said.Network net) = Network
kind_of (said.Conetwork net) = Conetwork
kind_of said.R10 = R10
kind_of (said.TwoSum two) = TwoSum
kind_of (said.ThreeSum three) = ThreeSum three.form
kind_of said.Enumerated = Enumerated
kind_of (said.Violator fault) = Violator
kind_of said.Undecided = Undecided
kind_of (said.Pivoted place) = Pivoted
