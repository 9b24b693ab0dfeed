-- Laws of netstrings.
use Rattle.std.specs.Prelude.{◌≡◌, ℕ, List}
use Rattle.std.specs.List.{AllByRecursion}
use Rattle.netstrings.specs.Netstrings.{IsShort, StartsWith, netstrings}

-- a text begins with at most one netstring
abbrev pub OneNetstringLaw : Type 0
OneNetstringLaw = (bytes text rest other tail : List ℕ) → StartsWith bytes text rest → StartsWith bytes other tail → (text ≡ other) × (rest ≡ tail)

-- netstrings one after another are those of one list of texts only
abbrev pub OneRowLaw : Type 0
OneRowLaw = (texts others : List (List ℕ)) → AllByRecursion IsShort texts → AllByRecursion IsShort others → netstrings texts ≡ netstrings others → texts ≡ others
