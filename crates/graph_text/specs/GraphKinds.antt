-- The kinds of fault of graph texts.
use Rattle.text_fields.specs.declared.error.NumberFault.{NumberFault}
use Rattle.text_fields.specs.declared.error.NumberFault.TheVariants as number
use Rattle.graph_text.specs.declared.error.GraphKind.{GraphKind}
use Rattle.graph_text.specs.declared.error.GraphKind.TheVariants.{NotNumber, TooBig}

-- a number's fault
abbrev pub graph_kind : NumberFault → GraphKind
graph_kind number.NotNumber = NotNumber
graph_kind number.TooBig = TooBig
