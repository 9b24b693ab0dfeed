-- The arguments that the tools share, as `clap` defines them.
use Rattle.std.specs.Prelude.{ℕ, true, List, Some, codes}
use Rattle.clap.specs.Words.{App, Rule, Text, new_app, new_rule}
use Rattle.clap.specs.Simple.{on_top}
use Rattle.clap.specs.declared.builder.action.ArgAction.TheVariants.{Set, SetTrue}

-- a command with these arguments, and without a name of the program, help and version
abbrev pub tool_app : Text → List Rule → App
tool_app name rules = on_top (λ s. record s {
  rules = rules;
  no_binary_name = true;
  disable_help_flag = true;
  disable_version_flag = true;
}) (new_app name)

-- an option of one letter with a value
abbrev pub value_rule : Text → ℕ → Rule
value_rule id letter = record (new_rule id) { short = Some letter; action = Some Set }

-- a flag of one letter
abbrev pub flag_rule : Text → ℕ → Rule
flag_rule id letter = record (new_rule id) { short = Some letter; action = Some SetTrue }

-- [-i FORMAT]
abbrev pub form_rule : Rule
form_rule = value_rule (codes "format") 105

-- [--lines L]
abbrev pub lines_rule : Rule
lines_rule = record (new_rule (codes "lines")) { long = Some (codes "lines"); action = Some Set }

-- [--pivots K]
abbrev pub pivots_rule : Rule
pivots_rule = record (new_rule (codes "pivots")) { long = Some (codes "pivots"); action = Some Set }

-- [-w N]
abbrev pub workers_rule : Rule
workers_rule = value_rule (codes "workers") 119

-- [-D FILE]
abbrev pub tree_rule : Rule
tree_rule = value_rule (codes "tree") 68

-- [-E FILE]
abbrev pub fault_rule : Rule
fault_rule = value_rule (codes "fault") 69

-- [-b]
abbrev pub binary_rule : Rule
binary_rule = flag_rule (codes "binary") 98

-- [-t]
abbrev pub transposed_rule : Rule
transposed_rule = flag_rule (codes "transposed") 116

-- [-N FILE]
abbrev pub minimal_rule : Rule
minimal_rule = value_rule (codes "minimal") 78

-- [-S FILE]
abbrev pub steps_rule : Rule
steps_rule = value_rule (codes "steps") 83

-- [-R FILE]
abbrev pub rest_rule : Rule
rest_rule = value_rule (codes "rest") 82

-- [-G FILE]
abbrev pub graph_rule : Rule
graph_rule = value_rule (codes "graph") 71

-- [-c]
abbrev pub from_graph_rule : Rule
from_graph_rule = flag_rule (codes "from-graph") 99

-- [-M FILE]
abbrev pub output_rule : Rule
output_rule = value_rule (codes "output") 77

-- [-C FILE]
abbrev pub chain_rule : Rule
chain_rule = value_rule (codes "chain") 67

-- an argument that is required
abbrev pub required : Rule → Rule
required rule = record rule { required = true }

-- an operand that is required
abbrev pub operand_rule : Text → Rule
operand_rule id = record (new_rule id) { required = true }

-- [FILE]
abbrev pub file_rule : Rule
file_rule = new_rule (codes "file")
