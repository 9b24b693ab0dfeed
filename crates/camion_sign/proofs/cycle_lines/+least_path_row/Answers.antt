use Rattle.std.proofs.Common.{◌-◌, ℕ, List, length, subst}
use Rattle.std.proofs.lemmas.List.{length-drop, take_all}
use Rattle.camion_sign.specs.FaultLines.{IsLeastFrom}
use Rattle.std.proofs.Common.{[], arith}
use Rattle.cmr_base.specs.CyclePlaces.{path_rows}
use Rattle.std.proofs.Common.{drop}
use Rattle.camion_sign.proofs.LineLists.{one_row, more_rows}
use Rattle.camion_sign.proofs.cycle_lines.+least_path_row.Goals as goal

pub returns-then-path-lt2 : goal.returns-then-path-lt2
returns-then-path-lt2 t c = one_row c.args.path.now c.args.from c.lesser.result (omega arith) (omega arith) (c.lesser.ensures [] (λ x h. absurd h))

pub returns : goal.returns
returns t c = more_rows c.args.path.now c.args.from c.lesser-2.result (omega arith) (c.lesser-2.ensures (path_rows (drop 2 c.args.path.now))
    (subst (λ (rest : List ℕ). IsLeastFrom (path_rows rest) c.args.from c.least_path_row.result) (take_all (length c.args.path.now - 2) (drop 2 c.args.path.now) (omega (arith, length-drop 2 c.args.path.now))) c.least_path_row.ensures))
