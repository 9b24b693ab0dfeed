-- The reasons why two matrices have no sum.
use Rattle.cmr_base.specs.Matrix.{Matrix, HasTernaryEntries}
use Rattle.cmr_base.specs.MatrixSums.{HaveConcentratedSum, concentrated_sum}
use Rattle.sum_ops.specs.declared.error.SumError.{SumError}
use Rattle.sum_ops.specs.declared.error.SumError.TheVariants.{BadConnector, BadEntry, Memory}

-- the sum is not defined; its entries are never the reason, and an allocation failure is always possible
abbrev pub IsCause : Type 0 → SumError → Type 0
IsCause defined BadConnector = ¬ defined
IsCause defined BadEntry = ⊥
IsCause defined Memory = Unit {0}

-- the concentrated sum is not defined, or it is defined and has an entry that is not -1, 0 or 1
abbrev pub IsConcentratedCause : Matrix → Matrix → SumError → Type 0
IsConcentratedCause first second BadConnector = ¬ (HaveConcentratedSum first second)
IsConcentratedCause first second BadEntry = HaveConcentratedSum first second × ¬ (HasTernaryEntries (concentrated_sum first second))
IsConcentratedCause first second Memory = Unit {0}
