-- The kinds of fault of chain texts.
use Rattle.text_fields.specs.declared.error.LimitFault.{LimitFault}
use Rattle.text_fields.specs.declared.error.LimitFault.TheVariants as limit
use Rattle.text_fields.specs.declared.error.NumberFault.TheVariants as number
use Rattle.chains.specs.declared.chain_error.ChainKind.{ChainKind}
use Rattle.chains.specs.declared.chain_error.ChainKind.TheVariants.{NotNumber, TooBig, OutOfRange, NotRising}

-- the fault of a number within limits
abbrev pub chain_kind : LimitFault → ChainKind
chain_kind (limit.Number number.NotNumber) = NotNumber
chain_kind (limit.Number number.TooBig) = TooBig
chain_kind limit.OutOfRange = OutOfRange
chain_kind limit.NotRising = NotRising
