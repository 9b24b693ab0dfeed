-- What a line had heard and said at one moment.
use Rattle.std.specs.Prelude.{ℕ, List}

-- all bytes that were read, and all bytes that were written
pub record Moment : Type 0 where
  pub heard : List ℕ
  pub said : List ℕ
