use Rattle.std.proofs.Common.{◌≡◌, ◌<◌, ◌∙◌, sym, ap, ap₂, subst, List, ℕ, length, get_or, Some}
use Rattle.cmr_base.specs.declared.line.Line.{Line}
use Rattle.cmr_base.specs.Matrix.{entry}
use Rattle.cmr_base.specs.LineSets.{without}
use Rattle.sp_reduce.specs.declared.side.StayingLines.{StayingLines}
use Rattle.sp_reduce.specs.LineKinds.{line_named, index_of_line, reason_for}
use Rattle.sp_reduce.specs.StayingSides.{IsSettled, first_step_of}
use Rattle.sp_reduce.specs.Changes.{ArePaired}
use Rattle.sp_reduce.proofs.KindLemmas.{number-line_named}
use Rattle.sp_reduce.proofs.SideLemmas.{side_marked}
use Rattle.sp_reduce.proofs.ChangeLemmas.{cut_without}
use Rattle.sp_reduce.proofs.Pairs.{paired_marked, before_cut, paired_cut}
use Rattle.sp_reduce.proofs.removal.remove_first.Goals as goal

pub first_reducible-requires-clause-settled : goal.first_reducible-requires-clause-settled
first_reducible-requires-clause-settled c =
    subst (λ (lines : List ℕ). IsSettled c.args.binary c.args.matrix.now c.args.own.now lines) (sym c.deref.ensures.value) c.requires.paired.own_settled

pub returns-in_err-found-clause-paired : goal.returns-in_err-found-clause-paired
returns-in_err-found-clause-paired c =
    let own = c.first_reducible.new.self in
    paired_marked c.args.binary c.args.matrix.now c.args.own.now own c.args.across.now c.requires.paired c.first_reducible.ensures.same c.first_reducible.ensures.long
    (subst (λ (lines : List ℕ). IsSettled c.args.binary c.args.matrix.now own lines) c.deref.ensures.value c.first_reducible.ensures.settled)

pub renew-requires-clause-before : goal.renew-requires-clause-before
renew-requires-clause-before c =
    let binary = c.args.binary in
    let m = c.args.matrix.now in
    let own = c.first_reducible.new.self in
    let across = c.args.across.now in
    let place = c.in_ok-found.found.place in
    let reason = c.in_ok-found.found.reason in
    let same = c.first_reducible.ensures.same in
    let first = c.in_ok-found.ensures.found in
    let paired : ArePaired binary m own across =
    paired_marked binary m c.args.own.now own across c.requires.paired same c.first_reducible.ensures.long
    (subst (λ (lines : List ℕ). IsSettled binary m own lines) c.deref.ensures.value c.first_reducible.ensures.settled) in
    let inside : place < length own.stays.items = subst (λ (s : StayingLines). place < length s.stays.items) (sym same) first.in_range in
    let why : reason_for binary (entry m) own.kind own.stays.items across.stays.items (get_or own.stays.items place 0) ≡ Some reason =
    ap (λ (s : StayingLines). reason_for binary (entry m) s.kind s.stays.items across.stays.items (get_or s.stays.items place 0)) same
    ∙ ap (λ (lines : List ℕ). reason_for binary (entry m) c.args.own.now.kind c.args.own.now.stays.items lines (get_or c.args.own.now.stays.items place 0)) (sym c.deref.ensures.value)
    ∙ first.reason in
    rw (c.deref-2.ensures.value, c.remove-line.ensures.line) (before_cut binary m own c.remove-line.new.self across place paired inside c.remove-line.ensures.cut reason why)

pub returns-clause-paired : goal.returns-clause-paired
returns-clause-paired c =
    let binary = c.args.binary in
    let m = c.args.matrix.now in
    let own = c.first_reducible.new.self in
    let across = c.args.across.now in
    let place = c.in_ok-found.found.place in
    let same = c.first_reducible.ensures.same in
    let first = c.in_ok-found.ensures.found in
    let paired : ArePaired binary m own across =
    paired_marked binary m c.args.own.now own across c.requires.paired same c.first_reducible.ensures.long
    (subst (λ (lines : List ℕ). IsSettled binary m own lines) c.deref.ensures.value c.first_reducible.ensures.settled) in
    let inside : place < length own.stays.items = subst (λ (s : StayingLines). place < length s.stays.items) (sym same) first.in_range in
    paired_cut binary m own c.remove-line.new.self across place paired inside c.remove-line.ensures.cut c.renew.new.self c.renew.ensures.kind c.renew.ensures.stays c.renew.ensures.side
    (rw (← c.deref-2.ensures.value) c.renew.ensures.counted)
    (subst (λ (lines : List ℕ). IsSettled binary m c.renew.new.self lines) c.deref-2.ensures.value c.renew.ensures.settled)

pub returns-clause-step : goal.returns-clause-step
returns-clause-step c =
    let M = entry c.args.matrix.now in
    let start = c.args.own.now in
    let own = c.first_reducible.new.self in
    let place = c.in_ok-found.found.place in
    let reason = c.in_ok-found.found.reason in
    let same = c.first_reducible.ensures.same in
    let first = c.in_ok-found.ensures.found in
    let removed = get_or start.stays.items place 0 in
    let stays : own.stays.items ≡ start.stays.items = ap (λ (s : StayingLines). s.stays.items) same in
    let kind : c.remove-line.new.self.kind ≡ start.kind = c.remove-line.ensures.cut.kind ∙ ap (λ (s : StayingLines). s.kind) same in
    let number : c.remove-line.result ≡ removed = c.remove-line.ensures.line ∙ ap (λ (lines : List ℕ). get_or lines place 0) stays in
    let line : c.line.result ≡ line_named start.kind removed = c.line.ensures ∙ ap₂ line_named kind number in
    let inside : place < length own.stays.items = subst (λ (s : StayingLines). place < length s.stays.items) (sym same) first.in_range in (
      ap (λ (lines : List ℕ). first_step_of c.args.binary M start.kind start.stays.items lines start.stays.items) (sym c.deref.ensures.value)
          ∙ first.step ∙ ap (λ (l : Line). Some (record { line = l; reason = reason })) (sym line),
      cut_without c.args.matrix.now own c.remove-line.new.self place
          (side_marked c.args.matrix.now start own same c.first_reducible.ensures.long c.requires.paired.own_side) inside c.remove-line.ensures.cut
          ∙ ap₂ without stays (ap (λ (lines : List ℕ). get_or lines place 0) stays ∙ sym (ap index_of_line line ∙ number-line_named start.kind removed)),
    )
