use Rattle.std.proofs.Common.{ap, of_z, w8}
use Rattle.cmr_base.proofs.EntryBytes.{same_bytes}
use Rattle.cmr_base.proofs.SignEntries.{sign_is_entry}
use Rattle.camion_sign.proofs.ForcedSigns.{equal_closes, other_closes}
use Rattle.camion_sign.proofs.signing.closing_sign.Goals as goal

pub returns-then-mark-partner-clause-four : goal.returns-then-mark-partner-clause-four
returns-then-mark-partner-clause-four c =
    let z = c.args.mark in
    let p = c.args.partner in
    equal_closes z p c.requires.mark c.requires.partner (same_bytes z p (sign_is_entry z c.requires.mark) (sign_is_entry p c.requires.partner) c.if-mark-partner.true)

pub returns-else-mark-partner-clause-four : goal.returns-else-mark-partner-clause-four
returns-else-mark-partner-clause-four c =
    let z = c.args.mark in
    let p = c.args.partner in
    other_closes z p c.requires.mark c.requires.partner (λ e. c.if-mark-partner.false (ap (of_z w8) e))
