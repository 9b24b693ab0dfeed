-- Canonical texts: lines of words.
use Rattle.std.specs.Prelude.{◌++◌, if◌then◌else◌, ℕ, Bool, true, false, List, [], ◌∷◌}
use Rattle.std.specs.List.{join_with_byte, flat_map}

-- a line: words with one space between them, and a line feed
abbrev pub text_line : List (List ℕ) → List ℕ
text_line words = join_with_byte 32 words ++ 10 ∷ []

-- a text during its construction, and whether its last line has a word yet
pub record Draft : Type 0 where
  pub bytes : List ℕ
  pub is_begun : Bool

-- one more word in the last line
abbrev pub with_word : Draft → List ℕ → Draft
with_word draft word = record { bytes = draft.bytes ++ (if draft.is_begun then 32 ∷ word else word); is_begun = true }

-- the last line ended
abbrev pub with_end : Draft → Draft
with_end draft = record { bytes = draft.bytes ++ 10 ∷ []; is_begun = false }

-- one more line
abbrev pub with_line : Draft → List (List ℕ) → Draft
with_line draft words = record { bytes = draft.bytes ++ text_line words; is_begun = false }

abbrev pub text_of_lines : List (List (List ℕ)) → List ℕ
text_of_lines lines = flat_map text_line lines
