-- Why a run has no outcome.
use Rattle.std.specs.Prelude.{◌≡◌, ◌<◌, ◌≤◌, ◌+◌, ◌++◌, ℕ, List, [], ◌∷◌, Bool, IsTrue, Result, Err, length}
use Rattle.text_fields.specs.Reading.{Fault}
use Rattle.cmr_front.specs.declared.outcome.FaultKind.{FaultKind}
use Rattle.cmr_front.specs.declared.outcome.Stop.{Stop}
use Rattle.cmr_front.specs.declared.outcome.Stop.TheVariants as stops
use Rattle.cmr_front.specs.Report.{Held}
use Rattle.cmr_front.specs.Inputs.{InputFile, given, most_bytes, too_much, reading, missing, above_limit}
use Rattle.cmr_front.specs.Unread.{AreRead, Between, GivesTooMuch, HaveBegunWith, IsNameAt, IsUnread}

-- the meaning of a stop for a file to be read, if the shelf tells its bytes and is calm
abbrev pub StopsReading : InputFile → Held → Bool → Bool → Stop → Type 0
StopsReading file held tells calm stops.BadWords = ⊥
StopsReading file held tells calm (stops.CannotRead name) = (name.now ≡ file.name) × (IsTrue tells → IsTrue calm → reading held file ≡ missing)
StopsReading file held tells calm (stops.TooLong name) = (name.now ≡ file.name) × (IsTrue tells → reading held file ≡ above_limit)
StopsReading file held tells calm (stops.BadText name kind place) = ⊥
StopsReading file held tells calm stops.Memory = Unit {0}

-- and for the text that its read gave, over every shelf: no more bytes than the limit of the file if a call failed, one more if the file
-- is too long, and at most one byte more if an allocation failed
abbrev pub StopsOnText : InputFile → List (List ℕ) → List (List ℕ) → Stop → Type 0
StopsOnText file before after stops.BadWords = ⊥
StopsOnText file before after (stops.CannotRead name) = (last : List ℕ) × (after ≡ before ++ last ∷ []) × (length last ≤ most_bytes file.kind)
StopsOnText file before after (stops.TooLong name) = (last : List ℕ) × (after ≡ before ++ last ∷ []) × (length last ≡ most_bytes file.kind + 1)
StopsOnText file before after (stops.BadText name kind place) = ⊥
StopsOnText file before after stops.Memory = (last : List ℕ) × (after ≡ before ++ last ∷ []) × (length last ≤ most_bytes file.kind + 1)

-- and for some files: the files before this one were read
abbrev pub StopsInputs : List InputFile → Held → Bool → Bool → Between → Bool → Stop → Type 0
StopsInputs files held tells calm reads failed stops.BadWords = ⊥
StopsInputs files held tells calm reads failed (stops.CannotRead name) = IsUnread files held tells calm reads failed name.now
StopsInputs files held tells calm reads failed (stops.TooLong name) =
    (place : ℕ) × IsNameAt files place name.now × AreRead files (place + 1) place reads × GivesTooMuch files place reads × (IsTrue tells → given held files ≡ too_much name.now)
StopsInputs files held tells calm reads failed (stops.BadText name kind place) = ⊥
StopsInputs files held tells calm reads failed stops.Memory = (bytes : List (List ℕ)) × HaveBegunWith files bytes reads

-- the meaning of a stop for a text that was read and whose faults are of this kind
abbrev pub StopsText : {A K : Type 0} → (K → FaultKind) → List ℕ → Result A (Fault K) → Stop → Type 0
StopsText kind_of name read stops.BadWords = ⊥
StopsText kind_of name read (stops.CannotRead file) = ⊥
StopsText kind_of name read (stops.TooLong file) = ⊥
StopsText {K = K} kind_of name read (stops.BadText file fault place) = (file.now ≡ name) × (kind : K) × (fault ≡ kind_of kind) × (read ≡ Err (kind, place))
StopsText kind_of name read stops.Memory = Unit {0}
