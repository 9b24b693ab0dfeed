-- Digests of the supports of rows, and matrices without a reducible line.
use Rattle.std.specs.Prelude.{◌≡◌, ◌≢◌, ◌<◌, Bool, ℕ, List, [], ◌∷◌, None}
use Rattle.cmr_base.specs.declared.line.Line.{Line}
use Rattle.cmr_base.specs.Matrix.{Matrix, height, row_of, entry, is_nonzero}
use Rattle.cmr_base.specs.LineSets.{first_lines}
use Rattle.cmr_base.specs.Planes.{words_for, words_of}
use Rattle.digests.specs.Digests.{mixed}
use Rattle.cmr_base.specs.Reductions.{nonzeros_at, line_reason, HasLine}

-- a digest with more words
abbrev pub digest_from : ℕ → List ℕ → ℕ
digest_from digest [] = digest
digest_from digest (word ∷ words) = digest_from (mixed digest word) words

abbrev pub digest_of : List ℕ → ℕ
digest_of words = digest_from 0 words

-- the digest of the support of a row
abbrev pub digest_at : Matrix → ℕ → ℕ
digest_at m row = digest_of (words_of (words_for m.width) is_nonzero (row_of m row))

-- each row has two nonzeros or more, and any two rows have different digests
pub record AreUnlikeRows (m : Matrix) : Type 0 where
  pub many : (row : ℕ) → row < height m → 1 < nonzeros_at (first_lines m.width) (entry m row)
  pub unlike : (row other : ℕ) → row < height m → other < height m → row ≢ other → digest_at m row ≢ digest_at m other

-- no line of the matrix is reducible
abbrev pub HasNoReducibleLine : Bool → Matrix → Type 0
HasNoReducibleLine binary m = (line : Line) → HasLine (first_lines (height m)) (first_lines m.width) line
    → line_reason binary (entry m) (first_lines (height m)) (first_lines m.width) line ≡ None
