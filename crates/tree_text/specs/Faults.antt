-- The kinds of fault of tree texts.
use Rattle.text_fields.specs.declared.error.LimitFault.{LimitFault}
use Rattle.text_fields.specs.declared.error.LimitFault.TheVariants as limit
use Rattle.text_fields.specs.declared.error.NumberFault.TheVariants as number
use Rattle.tree_text.specs.declared.error.TreeKind.{TreeKind}
use Rattle.tree_text.specs.declared.error.TreeKind.TheVariants.{NotNumber, TooBig, OutOfRange, NotRising}

-- the fault of a number within limits
abbrev pub tree_kind : LimitFault → TreeKind
tree_kind (limit.Number number.NotNumber) = NotNumber
tree_kind (limit.Number number.TooBig) = TooBig
tree_kind limit.OutOfRange = OutOfRange
tree_kind limit.NotRising = NotRising
