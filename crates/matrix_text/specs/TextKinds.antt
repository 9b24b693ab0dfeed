-- The kinds of fault of matrix texts.
use Rattle.text_fields.specs.declared.error.NumberFault.{NumberFault}
use Rattle.text_fields.specs.declared.error.NumberFault.TheVariants as number
use Rattle.text_fields.specs.declared.error.LimitFault.{LimitFault}
use Rattle.text_fields.specs.declared.error.LimitFault.TheVariants as limit
use Rattle.matrix_text.specs.declared.error.TextKind.{TextKind}
use Rattle.matrix_text.specs.declared.error.TextKind.TheVariants.{NotNumber, TooBig, NotRising}

-- the fault of a number
abbrev pub text_kind : NumberFault → TextKind
text_kind number.NotNumber = NotNumber
text_kind number.TooBig = TooBig

-- the fault of a number within limits, with the kind for a number out of range
abbrev pub limit_kind : TextKind → LimitFault → TextKind
limit_kind outside (limit.Number fault) = text_kind fault
limit_kind outside limit.OutOfRange = outside
limit_kind outside limit.NotRising = NotRising
