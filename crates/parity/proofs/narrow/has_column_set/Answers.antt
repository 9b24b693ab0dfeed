use Rattle.std.proofs.Common.{◌≡◌, ◌^◌, ◌∙◌, ◌++◌, ◌∷◌, [], length, ap, sym, subst}
use Rattle.cmr_base.specs.LineSets.{set_numbered}
use Rattle.parity.specs.Equations.{AreReduced, IsLowest, solved}
use Rattle.parity.specs.PlaneSums.{equations_of, without_columns}
use Rattle.parity.proofs.ColumnSetSearch.{least_from_free, none_from_cleared, none_without_halves}
use Rattle.parity.proofs.ReducedWords.{reduced_by_rows}
use Rattle.parity.proofs.narrow.has_column_set.Goals as goal

pub returns-then-halves-eq0-clause-no : goal.returns-then-halves-eq0-clause-no
returns-then-halves-eq0-clause-no c = λ e.
    none_without_halves c.args.matrix.now c.args.rows.now c.sum_rows-sums.result.ones c.sum_rows-sums.result.twos c.requires.shape c.sum_rows-sums.ensures.sums (sym c.without-halves.ensures ∙ c.if-halves-eq0.true)

pub returns-in-Some-clause-yes : goal.returns-in-Some-clause-yes
returns-in-Some-clause-yes c = λ e.
    let m = c.args.matrix.now in
    let rows = c.args.rows.now in
    let ones = c.sum_rows-sums.result.ones in
    let twos = c.sum_rows-sums.result.twos in
    let words : c.deref_mut.result.now ≡ equations_of m ones rows ++ without_columns ones twos ∷ [] =
    c.deref_mut.ensures.value ∙ c.in_ok-push.ensures.items ∙ ap (λ items. items ++ c.without-halves.result ∷ []) c.in_ok-write_equations.ensures ∙ ap (λ n. equations_of m ones rows ++ n ∷ []) c.without-halves.ensures in
    let by = reduced_by_rows m ones twos rows c.eliminate.new.words c.requires.shape c.requires.rows c.sum_rows-sums.ensures.small
    (subst (λ ws. AreReduced (length rows) ws c.eliminate.new.words) words c.eliminate.ensures.reduced) in (
      set_numbered m.width 0 (solved by.0 (2 ^ c.in-Some._free)),
      least_from_free m rows ones twos c.in-Some._free by.0 c.requires.shape c.sum_rows-sums.ensures.sums c.sum_rows-sums.ensures.small by.1
          (subst (λ n. IsLowest n c.in-Some._free) (c.eliminate.ensures.next ∙ by.2) c.in-Some.ensures.some),
    )

pub returns-in-None-clause-no : goal.returns-in-None-clause-no
returns-in-None-clause-no c = λ e.
    let m = c.args.matrix.now in
    let rows = c.args.rows.now in
    let ones = c.sum_rows-sums.result.ones in
    let twos = c.sum_rows-sums.result.twos in
    let words : c.deref_mut.result.now ≡ equations_of m ones rows ++ without_columns ones twos ∷ [] =
    c.deref_mut.ensures.value ∙ c.in_ok-push.ensures.items ∙ ap (λ items. items ++ c.without-halves.result ∷ []) c.in_ok-write_equations.ensures ∙ ap (λ n. equations_of m ones rows ++ n ∷ []) c.without-halves.ensures in
    let by = reduced_by_rows m ones twos rows c.eliminate.new.words c.requires.shape c.requires.rows c.sum_rows-sums.ensures.small
    (subst (λ ws. AreReduced (length rows) ws c.eliminate.new.words) words c.eliminate.ensures.reduced) in
    none_from_cleared m rows ones twos by.0 c.requires.shape c.sum_rows-sums.ensures.sums by.1 (sym (c.eliminate.ensures.next ∙ by.2) ∙ c.in-None.ensures.none)
