-- Netstrings: a length in decimal digits, a colon, this number of bytes, and a comma.
use Rattle.std.specs.Prelude.{◌≡◌, ◌<◌, ◌^◌, ◌++◌, ℕ, List, [], ◌∷◌, length}
use Rattle.std.specs.List.{flat_map}
use Rattle.std.specs.Fmt.{decimal}
use Rattle.netstrings.specs.declared.netstring.Beginning.{Beginning}
use Rattle.netstrings.specs.declared.netstring.Beginning.TheVariants.{Whole, Cut, Fault}

-- the netstring of a text; 58 is a colon and 44 a comma
abbrev pub netstring : List ℕ → List ℕ
netstring text = decimal (length text) ++ (58 ∷ (text ++ (44 ∷ [])))

-- the netstrings of some texts, one after another
abbrev pub netstrings : List (List ℕ) → List ℕ
netstrings texts = flat_map netstring texts

-- the length is below 2^31, so a netstring of the text can be read
abbrev pub IsShort : List ℕ → Type 0
IsShort text = length text < 2 ^ 31

-- the bytes are the netstring of a text and the rest after it
pub record StartsWith (bytes text rest : List ℕ) : Type 0 where
  pub whole : bytes ≡ netstring text ++ rest
  pub short : IsShort text

-- the bytes begin with no netstring
abbrev pub BeginsWithNone : List ℕ → Type 0
BeginsWithNone bytes = (text rest : List ℕ) → StartsWith bytes text rest → ⊥

-- they do not, whatever bytes follow
abbrev pub NeverBegins : List ℕ → Type 0
NeverBegins bytes = (more : List ℕ) → BeginsWithNone (bytes ++ more)

-- they do not, and some bytes after them would complete one
pub record IsIncomplete (bytes : List ℕ) : Type 0 where
  pub none : BeginsWithNone bytes
  pub more : List ℕ
  pub text : List ℕ
  pub whole : StartsWith (bytes ++ more) text []

-- how the bytes begin
abbrev pub Begins : List ℕ → Beginning → Type 0
Begins bytes (Whole first) = StartsWith bytes first.text.now first.rest.now
Begins bytes Cut = IsIncomplete bytes
Begins bytes Fault = NeverBegins bytes
