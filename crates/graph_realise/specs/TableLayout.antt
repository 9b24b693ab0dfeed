use Rattle.std.specs.Prelude.{◌≡◌, ◌≤◌, ◌*◌, length}
use Rattle.cmr_base.specs.declared.limits.TheConstants.{MAX_COLUMNS, MAX_ROWS}
use Rattle.cmr_base.specs.Planes.{words_for}
use Rattle.graph_realise.specs.declared.table.Table.TheInside.{Inside}
use Rattle.graph_realise.specs.BitTables.{Grid}

abbrev pub grid_of : Inside → Grid
grid_of a = record { height = a.height; width = a.width; words = a.words.items }

pub record IsLaidOut (a : Inside) : Type 0 where
  pub height_in : a.height ≤ MAX_ROWS
  pub width_in : a.width ≤ MAX_COLUMNS
  pub whole : length a.words.items ≡ a.height * words_for a.width
