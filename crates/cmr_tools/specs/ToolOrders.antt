-- The order of the arguments of the command line: a tool with its options.
use Rattle.std.specs.Prelude.{ℕ, List, [], ◌∷◌, Option, Some, None, option_map, if◌then◌else◌, codes}
use Rattle.std.specs.Str.{bytes_eq}
use Rattle.cmr_tools.specs.declared.command.Command.{Command}
use Rattle.cmr_tools.specs.declared.command.Command.TheVariants as command
use Rattle.cmr_tools.specs.declared.command.ToolName.{ToolName}
use Rattle.cmr_tools.specs.declared.command.ToolName.TheVariants as tool
use Rattle.cmr_classes.specs.declared.tools.graphic_network.TestedProperty.{TestedProperty}
use Rattle.cmr_classes.specs.declared.tools.graphic_network.TestedProperty.TheVariants.{Graphic, Network}
use Rattle.cmr_evidence.specs.Check.{CheckOrder, check_order, check_order_of, check_tool}
use Rattle.cmr_evidence.specs.Upgrade.{UpgradeOrder, upgrade_order, upgrade_order_of, upgrade_tool}
use Rattle.cmr_classes.specs.SeriesParallel.{SeriesParallelOrder, series_parallel_order, series_parallel_order_of, series_parallel_tool}
use Rattle.cmr_classes.specs.GraphicNetwork.{TestOrder, test_order, test_order_of}
use Rattle.cmr_reach.specs.Balanced.{BalancedOrder, balanced_order, balanced_order_of, balanced_tool}
use Rattle.cmr_reach.specs.Camion.{CamionOrder, camion_order, camion_order_of, camion_tool}
use Rattle.cmr_reach.specs.Compose.{ComposeOrder, compose_order, compose_order_of, compose_tool}
use Rattle.cmr_reach.specs.Parts.{PartsOrder, parts_order, parts_order_of, parts_tool}
use Rattle.cmr_reach.specs.Sign.{SignOrder, sign_order, sign_order_of, sign_tool}
use Rattle.cmr_unimodular.specs.Tu.{TuOrder, tu_order, tu_order_of, tu_tool}
use Rattle.cmr_unimodular.specs.Regular.{RegularOrder, regular_order, regular_order_of, regular_tool}
use Rattle.cmr_unimodular.specs.Generate.{GenerateOrder, generate_order, generate_order_of, generate_tool}
use Rattle.cmr_front.specs.Run.{Ordered, nothing, work}
use Rattle.cmr_front.specs.Words.ReadWords.{◌>>=◌}
use Rattle.cmr_classes.specs.GraphMatrix.{test_tool}
use Rattle.cmr_front.specs.Tool.{Tool}

-- a tool with its options
pub data Order : Type 0 where
  tu : TuOrder → Order
  regular : RegularOrder → Order
  series_parallel : SeriesParallelOrder → Order
  test : TestedProperty → TestOrder → Order
  generate : GenerateOrder → Order
  check : CheckOrder → Order
  upgrade : UpgradeOrder → Order
  camion : CamionOrder → Order
  sign : SignOrder → Order
  balanced : BalancedOrder → Order
  parts : PartsOrder → Order
  compose : ComposeOrder → Order

-- what it reads and reports, and what its answers mean
abbrev pub tool_of : Order → Tool
tool_of (tu o) = tu_tool o
tool_of (regular o) = regular_tool o
tool_of (series_parallel o) = series_parallel_tool o
tool_of (test p o) = test_tool p o
tool_of (generate o) = generate_tool o
tool_of (check o) = check_tool o
tool_of (upgrade o) = upgrade_tool o
tool_of (camion o) = camion_tool o
tool_of (sign o) = sign_tool o
tool_of (balanced o) = balanced_tool o
tool_of (parts o) = parts_tool o
tool_of (compose o) = compose_tool o

-- the tool that an argument names
abbrev pub tool_named : List ℕ → Option ToolName
tool_named word =
    if bytes_eq word (codes "tu") then Some tool.Tu
    else if bytes_eq word (codes "regular") then Some tool.Regular
    else if bytes_eq word (codes "series-parallel") then Some tool.SeriesParallel
    else if bytes_eq word (codes "graphic") then Some (tool.Test Graphic)
    else if bytes_eq word (codes "network") then Some (tool.Test Network)
    else if bytes_eq word (codes "generate") then Some tool.Generate
    else if bytes_eq word (codes "check") then Some tool.Check
    else if bytes_eq word (codes "upgrade") then Some tool.Upgrade
    else if bytes_eq word (codes "camion") then Some tool.Camion
    else if bytes_eq word (codes "sign") then Some tool.Sign
    else if bytes_eq word (codes "balanced") then Some tool.Balanced
    else if bytes_eq word (codes "parts") then Some tool.Parts
    else if bytes_eq word (codes "compose") then Some tool.Compose
    else None

-- the order of the other arguments of a tool
abbrev pub order_with : ToolName → List (List ℕ) → Option Order
order_with tool.Tu words = option_map tu (tu_order words)
order_with tool.Regular words = option_map regular (regular_order words)
order_with tool.SeriesParallel words = option_map series_parallel (series_parallel_order words)
order_with (tool.Test property) words = option_map (test property) (test_order property words)
order_with tool.Generate words = option_map generate (generate_order words)
order_with tool.Check words = option_map check (check_order words)
order_with tool.Upgrade words = option_map upgrade (upgrade_order words)
order_with tool.Camion words = option_map camion (camion_order words)
order_with tool.Sign words = option_map sign (sign_order words)
order_with tool.Balanced words = option_map balanced (balanced_order words)
order_with tool.Parts words = option_map parts (parts_order words)
order_with tool.Compose words = option_map compose (compose_order words)

-- the first argument names the tool, which parses the others; nothing if the arguments are refused
abbrev pub order : List (List ℕ) → Option Order
order [] = None
order (word ∷ words) = tool_named word >>= λ name. order_with name words

-- the order, or nothing if the arguments are refused
abbrev pub ordered : Option Order → Ordered
ordered None = nothing
ordered (Some order) = work (tool_of order)

abbrev pub order_of : Command → Order
order_of (command.Tu options) = tu (tu_order_of options)
order_of (command.Regular options) = regular (regular_order_of options)
order_of (command.SeriesParallel options) = series_parallel (series_parallel_order_of options)
order_of (command.Test it) = test it.property (test_order_of it.options)
order_of (command.Generate options) = generate (generate_order_of options)
order_of (command.Check options) = check (check_order_of options)
order_of (command.Upgrade options) = upgrade (upgrade_order_of options)
order_of (command.Camion options) = camion (camion_order_of options)
order_of (command.Sign options) = sign (sign_order_of options)
order_of (command.Balanced options) = balanced (balanced_order_of options)
order_of (command.Parts options) = parts (parts_order_of options)
order_of (command.Compose options) = compose (compose_order_of options)
