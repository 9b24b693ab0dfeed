-- Consecutive calls keep what each call keeps.
use Rattle.std.proofs.Common.{◌∙◌, ℕ, Bool, List, Option}
use Rattle.cmr_io.specs.Kept.{KeepsBegun, KeepsNames, KeepsStanding}

pub keeps_on : {S : Type 0} {tells is_calm : S → Bool} {room : S → List ℕ → Option ℕ} {old mid new : S} → KeepsStanding tells is_calm room old mid
    → KeepsStanding tells is_calm room mid new → KeepsStanding tells is_calm room old new
keeps_on first next = record {
  telling = next.telling ∙ first.telling;
  calm = λ calm. next.calm (first.calm calm);
  rooms = λ name. next.rooms name ∙ first.rooms name;
}

pub keeps_names_on : {S : Type 0} {content : S → List ℕ → Option (List ℕ)} {tells is_calm : S → Bool} {room : S → List ℕ → Option ℕ} {old mid new : S}
    → KeepsNames content tells is_calm room old mid → KeepsNames content tells is_calm room mid new → KeepsNames content tells is_calm room old new
keeps_names_on first next = record {
  names = λ name. next.names name ∙ first.names name;
  standing = keeps_on first.standing next.standing;
}

pub keeps_begun_on : {S : Type 0} {is_reading is_writing : S → Bool} {old mid new : S} → KeepsBegun is_reading is_writing old mid
    → KeepsBegun is_reading is_writing mid new → KeepsBegun is_reading is_writing old new
keeps_begun_on first next = record { reading = next.reading ∙ first.reading; writing = next.writing ∙ first.writing }
