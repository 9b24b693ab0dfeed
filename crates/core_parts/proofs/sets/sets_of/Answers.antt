use Rattle.std.proofs.Common.{◌≡◌, ◌∙◌, List, length, ap, sym, subst}
use Rattle.std.proofs.lemmas.List.{with_items_is}
use Rattle.std.specs.Vec.{with_items}
use Rattle.cmr_base.specs.declared.line_set.LineSet.{LineSet}
use Rattle.cmr_base.specs.Components.{part_at}
use Rattle.core_parts.specs.SetsOfParts.{ArePlacesBy, HaveColumns, HaveRows}
use Rattle.core_parts.proofs.CoreSets.{empty_columns, sets_are}
use Rattle.core_parts.proofs.SetsOfParts.{columns_of_lists, rows_of_lists}
use Rattle.core_parts.proofs.sets.sets_of.Goals as goal

pub put_columns-requires-clause-empty : goal.put_columns-requires-clause-empty
put_columns-requires-clause-empty c = λ part.
    let first = c.in_ok-sets.sets in
    let rowed = c.put_rows.new.sets in
    let have : HaveRows c.deref_mut.result.now c.deref.result.now c.deref-2.result.now rowed = c.in_ok-put_rows.ensures in
    let long : length rowed ≡ first.len = have.size ∙ ap length c.deref_mut.ensures.value ∙ sym first.ok.0 in
    ap (λ (sets : List LineSet). (part_at sets part).columns) (c.deref_mut-2.ensures.value ∙ with_items_is first rowed long) ∙ have.columns part
    ∙ empty_columns c.args.parts.now.count c.deref_mut.result.now (c.deref_mut.ensures.value ∙ c.in_ok-sets.ensures) part

pub returns : goal.returns
returns c =
    let core = c.args.core.now in
    let parts = c.args.parts.now in
    let first = c.in_ok-sets.sets in
    let rowed = c.put_rows.new.sets in
    let sets = c.put_columns.new.sets in
    let have : HaveRows first.items core.rows.items parts.of_rows.items rowed =
    rows_of_lists c.deref_mut.result.now first.items c.deref.result.now core.rows.items c.deref-2.result.now parts.of_rows.items rowed c.deref_mut.ensures.value
    c.deref.ensures.value c.deref-2.ensures.value
    c.in_ok-put_rows.ensures in
    let long : length rowed ≡ first.len = have.size ∙ sym first.ok.0 in
    let also : HaveColumns rowed core.columns.items parts.of_columns.items sets =
    columns_of_lists c.deref_mut-2.result.now rowed c.deref-3.result.now core.columns.items c.deref-4.result.now parts.of_columns.items sets
    (c.deref_mut-2.ensures.value ∙ with_items_is first rowed long) c.deref-3.ensures.value c.deref-4.ensures.value c.in_ok-places.ensures.sets in
    record {
      sets = with_items_is (with_items first rowed) sets (also.size ∙ long)
          ∙ sets_are core.rows.items core.columns.items parts.of_rows.items parts.of_columns.items parts.count first.items rowed sets c.in_ok-sets.ensures have also;
      columns = c.in_ok-from_slice.ensures.items ∙ c.deref-5.ensures.value;
      places = subst (λ marks. ArePlacesBy marks parts.of_columns.items c.in_ok-places.places.items) c.deref-3.ensures.value
          (subst (λ numbers. ArePlacesBy c.deref-3.result.now numbers c.in_ok-places.places.items) c.deref-4.ensures.value c.in_ok-places.ensures.places);
    }
