-- The bytes that a whole read gives and counts.
use Rattle.std.specs.Prelude.{◌≡◌, ◌<◌, ◌≤◌, ◌+◌, ℕ, Bool, false, IsTrue, List, Option, Some, Vec, Result, IfOk, OnErr, IsErrOf, length, vec_len}
use Rattle.cmr_io.specs.Calls.{up_to_last}
use Rattle.cmr_io.specs.Reads.{Reads, after_whole}
use Rattle.cmr_io.specs.Whole.{HasGiven, HasGivenAtMost}
use Rattle.cmr_io.specs.declared.whole.ReadError.{ReadError}
use Rattle.cmr_io.specs.declared.whole.ReadError.TheVariants.{ReadFault, TooLong}

-- The bytes that a read of at most `most` bytes gives of a content, and the rest of the content.
pub record GivesContent {A : Type 0} (most : ℕ) (content : Option (List ℕ)) (begun : Bool) (left : List ℕ) (result : Result (Vec ℕ A) ReadError) : Type 0 where
  -- the bytes are the whole content
  pub whole : IfOk result (λ bytes. content ≡ Some bytes.items)
  -- the content is too long, and one byte too many was given
  pub too_long : IsErrOf result TooLong → (bytes : List ℕ) × (content ≡ Some bytes) × (most < length bytes)
  pub too_many : IsErrOf result TooLong → HasGiven (most + 1) content left
  -- a call failed, and at most `most` bytes were given
  pub few : IsErrOf result ReadFault → IsTrue begun → HasGivenAtMost most content left
  -- in every outcome
  pub taken : IsTrue begun → HasGivenAtMost (most + 1) content left

-- The bytes that a read of at most `most` bytes adds to the bytes that all reads have given.
pub record Counts {A : Type 0} (most : ℕ) (begun : Bool) (before after : Reads) (result : Result (Vec ℕ A) ReadError) : Type 0 where
  -- the bytes, and the end
  pub within : IfOk result (λ bytes. vec_len bytes ≤ most)
  pub whole : IfOk result (λ bytes. after ≡ after_whole before bytes.items)
  -- the end is not counted
  pub not_ended : OnErr result (after.ends ≡ before.ends)
  -- one byte too many, if the content is too long
  pub too_many : IsErrOf result TooLong → up_to_last after.bytes ≡ up_to_last (before.bytes + (most + 1))
  -- at most `most` bytes, if a call failed
  pub few : IsErrOf result ReadFault → after.bytes ≤ before.bytes + most
  -- in every outcome; nothing if no read could be begun; no other read is begun
  pub taken : after.bytes ≤ before.bytes + (most + 1)
  pub none : begun ≡ false → after ≡ before
  pub names : after.names ≡ before.names

-- The bytes that a read of at most `most` bytes has given. `with_text` maps these bytes to the texts of all reads.
pub record GivesText {A : Type 0} (most : ℕ) (with_text : List ℕ → List (List ℕ)) (after : List (List ℕ)) (result : Result (Vec ℕ A) ReadError) : Type 0 where
  pub text : List ℕ
  pub texts : after ≡ with_text text
  -- all of them, at most `most` bytes
  pub whole : IfOk result (λ bytes. text ≡ bytes.items)
  pub fits : IfOk result (λ bytes. length text ≤ most)
  -- one byte too many, if the content is too long
  pub too_many : IsErrOf result TooLong → length text ≡ most + 1
  -- at most `most` bytes, if a call failed
  pub few : IsErrOf result ReadFault → length text ≤ most
  -- in every outcome
  pub within : length text ≤ most + 1
