-- Lines and their numbers.
use Rattle.std.proofs.Common.{◌≡◌, ◌<◌, ◌+◌, ◌-◌, ℕ, refl, arith}
use Rattle.cmr_base.specs.declared.line.Line.{Line}
use Rattle.cmr_base.specs.declared.line.Line.TheVariants.{Row, Column}
use Rattle.cmr_base.specs.Seeds.{IsLine, line_number}
use Rattle.cmr_base.proofs.Booleans.{is_lt, is_not_lt}
use Rattle.two_sep.specs.FirstSeeds.{line_at_number}

pub line_of-row : (m r : ℕ) → r < m → line_at_number m r ≡ Row r
line_of-row m r l = rw (is_lt r m l) refl

pub line_of-column : (m c : ℕ) → line_at_number m (m + c) ≡ Column c
line_of-column m c = let e : (m + c) - m ≡ c = omega arith in rw (is_not_lt (m + c) m (omega arith), e) refl

pub number_in : (m n : ℕ) (line : Line) → IsLine m n line → line_number m line < m + n
number_in m n (Row r) l = omega arith
number_in m n (Column c) l = omega arith

pub line_of-number : (m n : ℕ) (line : Line) → IsLine m n line → line_at_number m (line_number m line) ≡ line
line_of-number m n (Row r) l = line_of-row m r l
line_of-number m n (Column c) l = line_of-column m c
