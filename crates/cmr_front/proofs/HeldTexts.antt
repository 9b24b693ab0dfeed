-- What is read of a name that holds a text.
use Rattle.std.proofs.Common.{◌≡◌, ◌≢◌, ◌≤◌, ◌∙◌, ℕ, Bool, true, false, List, [], ◌∷◌, Some, length, ap, ap₂, refl}
use Rattle.std.specs.Prelude.{if◌then◌else◌}
use Rattle.std.specs.Str.{bytes_eq}
use Rattle.std.proofs.lemmas.Slice.Eq.{bytes_eq-Decides}
use Rattle.cmr_base.proofs.Booleans.{is_not_lt}
use Rattle.cmr_front.specs.Inputs.{InputFile, Reading, above_limit, and_then, given, missing, most_bytes, reading, reading_of, texts, whole}
use Rattle.cmr_front.specs.Report.{Held}

pub same_name : (x : List ℕ) → bytes_eq x x ≡ true
same_name x = (bytes_eq-Decides x x).1 refl

pub other_name : (x y : List ℕ) → x ≢ y → bytes_eq x y ≡ false
other_name x y apart = go (bytes_eq x y) refl
  where
    go : (same : Bool) → bytes_eq x y ≡ same → bytes_eq x y ≡ false
    go true e = absurd (apart ((bytes_eq-Decides x y).0 e))
    go false e = e

-- a text within the limit of its file is read whole
pub read_whole : (held : Held) (file : InputFile) (bytes : List ℕ) → held file.name ≡ Some bytes → length bytes ≤ most_bytes file.kind → reading held file ≡ whole bytes
read_whole held file bytes e few =
    ap (reading_of (most_bytes file.kind)) e ∙ ap (λ (b : Bool). if b then above_limit else whole bytes) (is_not_lt (most_bytes file.kind) (length bytes) few)

-- what was read of one file
pub read_alone : (held : Held) (file : InputFile) (bytes : List ℕ) → given held (file ∷ []) ≡ texts (bytes ∷ []) → reading held file ≡ whole bytes
read_alone held file bytes e = go (reading held file) e
  where
    go : (r : Reading) → and_then file.name r (texts []) ≡ texts (bytes ∷ []) → r ≡ whole bytes
    go missing e = cc
    go above_limit e = cc
    go (whole found) e = cc

-- a name whose content has not changed is read as before
pub read_same : (held later : Held) (file : InputFile) → later file.name ≡ held file.name → reading later file ≡ reading held file
read_same held later file e = ap (reading_of (most_bytes file.kind)) e

pub both_given : (held : Held) (file other : InputFile) (bytes text : List ℕ) → reading held file ≡ whole bytes → reading held other ≡ whole text
    → given held (file ∷ other ∷ []) ≡ texts (bytes ∷ text ∷ [])
both_given held file other bytes text e f = ap₂ (λ x y. and_then file.name x (and_then other.name y (texts []))) e f
