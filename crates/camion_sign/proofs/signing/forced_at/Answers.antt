use Rattle.std.proofs.Common.{refl, sym, subst}
use Rattle.cmr_base.proofs.SmallEntries.{entry_as_byte}
use Rattle.camion_sign.specs.Signings.{ShowsPlaceOf}
use Rattle.camion_sign.proofs.signing.forced_at.Goals as goal

pub returns-clause-forced : goal.returns-clause-forced
returns-clause-forced c =
    let partner = c.in_ok-partner.partner in
    let found = c.in_ok-partner.ensures.partner in
    record {
      column_is = refl;
      partner = found.0;
      mark = subst (ShowsPlaceOf c.args.matrix.now c.args.signs.now c.args.row partner.column c.args.column) (sym (entry_as_byte partner.mark found.1.small)) found.1;
    }
