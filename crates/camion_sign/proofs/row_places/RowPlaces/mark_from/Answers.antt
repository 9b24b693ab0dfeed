use Rattle.std.proofs.Common.{◌∙◌, sym, subst}
use Rattle.cmr_base.proofs.SmallEntries.{entry_as_byte}
use Rattle.camion_sign.specs.Signings.{ShowsPlace}
use Rattle.camion_sign.proofs.row_places.RowPlaces.mark_from.Goals as goal

pub returns-clause-shows : goal.returns-clause-shows
returns-clause-shows c =
    subst (ShowsPlace c.args.matrix.now c.args.signs.now c.args.start.row c.args.start.column c.args.last) (sym (entry_as_byte c.entry.result c.entry.ensures.small ∙ c.entry.ensures.value))
    (c.in_ok-learn.ensures.known c.args.last c.requires.order c.requires.width c.requires.last)
