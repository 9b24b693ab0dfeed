-- How the columns of a matrix are paths of a tree.
use Rattle.std.specs.Prelude.{Option, Some, None}
use Rattle.cmr_base.specs.declared.network.Network.{Network}
use Rattle.cmr_base.specs.Matrix.{Matrix}
use Rattle.cmr_base.specs.Trees.{HasGraphicSupport, IsNetworkMatrix, Reproduces, ReproducesSupport}
use Rattle.network_orient.specs.FirstRows.{IsFirstFaultyRow}
use Rattle.network_orient.specs.declared.orienting.Orientation.{Orientation}
use Rattle.network_orient.specs.declared.orienting.Orientation.TheVariants.{Directed, WrongSigns, NoTree}

abbrev pub IsOrientation : Matrix → Orientation → Type 0
IsOrientation m (Directed net) = Reproduces net m
IsOrientation m (WrongSigns row net) = (¬ (IsNetworkMatrix m)) × ReproducesSupport net m × IsFirstFaultyRow m row
IsOrientation m NoTree = (¬ (IsNetworkMatrix m)) × (¬ (HasGraphicSupport m))

-- the directed tree with its paths, if there is one
abbrev pub directed : Orientation → Option Network
directed (Directed net) = Some net
directed (WrongSigns row net) = None
directed NoTree = None
