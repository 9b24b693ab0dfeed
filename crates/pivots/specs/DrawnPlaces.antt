-- Drawn positions of pivots.
use Rattle.std.specs.Prelude.{ℕ, List, map, filter, length, slice_get, Option}
use Rattle.std.specs.List.{flat_map}
use Rattle.std.specs.Option.{option_map}
use Rattle.cmr_base.specs.declared.line_set.LineSet.{LineSet}
use Rattle.cmr_base.specs.Matrix.{Matrix, entry, is_nonzero}
use Rattle.cmr_base.specs.Draws.{draw}
use Rattle.pivots.specs.declared.drawn.DrawnPlace.{DrawnPlace}
use Rattle.cmr_base.specs.declared.position.Position.{Position}

-- the nonzeros of a row in some columns
abbrev pub row_places : Matrix → List ℕ → ℕ → List Position
row_places m columns row = map (λ column. record { row = row; column = column }) (filter (λ column. is_nonzero (entry m row column)) columns)

-- the nonzeros of the submatrix on some rows and columns, by rows and then by columns
abbrev pub places_on : Matrix → List ℕ → List ℕ → List Position
places_on m rows columns = flat_map (row_places m columns) rows

-- the nonzero whose number is drawn from a state, counted from 0, with the next state
abbrev pub drawn_place : Matrix → LineSet → ℕ → Option DrawnPlace
drawn_place m lines state =
    let places = places_on m lines.rows lines.columns in
    let drawn = draw (length places) state in
    option_map (λ place. record { place = place; state = drawn.1 }) (slice_get places drawn.0)
