use Rattle.std.proofs.Common.{◌≢◌, ◌∙◌, pos, ap, sym, of_z, w8, nat_eq}
use Rattle.cmr_base.specs.Matrix.{entry}
use Rattle.camion_sign.specs.declared.walk.ReachedColumn.{ReachedColumn}
use Rattle.camion_sign.specs.Walks.{flip}
use Rattle.camion_sign.proofs.EntryTests.{test_two, zero_as_byte}
use Rattle.camion_sign.proofs.FirstFaults.{fault_if, met_step}
use Rattle.camion_sign.proofs.fault.is_fault.Goals as goal

pub returns-clause-fault : goal.returns-clause-fault
returns-clause-fault c =
    let m = c.args.matrix.now in
    let t = c.args.start.row in
    let first = c.args.start.column in
    let d = c.args.last in
    let walk = c.args.walk.now in
    let w = c.requires.walked in
    let met = c.has_reached.ensures.yes c.if-not-has_reached.false in
    let same = nat_eq (of_z w8 c.entry-2.result) (of_z w8 c.entry-3.result) in
    let step = met_step m m t first d walk c.index.result.now c.index-step.result.now w c.requires.width c.index.ensures met c.index-step.ensures in
    let last : entry m t d ≢ pos 0 = λ z. c.if-entry-eq0.false (zero_as_byte c.entry.result (c.entry.ensures.value ∙ z)) in
    let two = test_two m t first t d c.entry-2.result c.entry-3.result w.fits.matrix.small c.entry-2.ensures.value c.entry-3.ensures.value c.entry-2.ensures.small c.entry-3.ensures.small c.requires.first last in
    let fault = fault_if m t first d walk w c.requires.order met c.requires.first last same two in
    let flipped = c.flipped.ensures ∙ sym (ap (λ (s : ReachedColumn). flip s.is_two same) step) in
    ((λ f. fault.0 (sym flipped ∙ f)), (λ f. flipped ∙ fault.1 f))
