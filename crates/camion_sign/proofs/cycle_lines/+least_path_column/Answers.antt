use Rattle.std.proofs.Common.{◌-◌, ℕ, List, length, subst}
use Rattle.std.proofs.lemmas.List.{length-drop, take_all}
use Rattle.camion_sign.specs.FaultLines.{IsLeastFrom}
use Rattle.std.proofs.Common.{drop, arith}
use Rattle.cmr_base.specs.CyclePlaces.{path_columns}
use Rattle.camion_sign.proofs.LineLists.{more_columns}
use Rattle.camion_sign.proofs.cycle_lines.+least_path_column.Goals as goal

pub returns : goal.returns
returns t c = more_columns c.args.path.now c.args.from c.lesser.result (omega arith) (c.lesser.ensures (path_columns (drop 2 c.args.path.now))
    (subst (λ (rest : List ℕ). IsLeastFrom (path_columns rest) c.args.from c.least_path_column.result) (take_all (length c.args.path.now - 2) (drop 2 c.args.path.now) (omega (arith, length-drop 2 c.args.path.now))) c.least_path_column.ensures))
