use Rattle.std.proofs.Common.{◌≡◌, ◌<◌, refl, ◌∙◌, ◌+◌, ◌++◌, ◌∷◌, [], ℕ, ℤ, List, arith, sym, subst, ap, w8, to_z, of_z}
use Rattle.std.proofs.lemmas.Bool.{false≢true}
use Rattle.cmr_base.specs.Matrix.{height}
use Rattle.cmr_base.specs.Violator.{HasNoViolator}
use Rattle.cmr_base.proofs.SignEntries.{sign_is_entry}
use Rattle.ghouila.proofs.Bytes.{kept_entry}
use Rattle.network_orient.specs.FirstRows.{HasNoFaultBefore}
use Rattle.network_orient.specs.SignedGroups.{IsRowMultiplied}
use Rattle.network_orient.proofs.FirstRows.{faulty_where_apart, first_rows_free}
use Rattle.network_orient.proofs.SignedRows.{AreRowsMultiplied, no_row_multiplied, one_row_multiplied, all_rows_multiplied, none_agrees}
use Rattle.network_orient.proofs.line_signs.signs_between.Goals as goal

pub loop-row-init : goal.loop-row-init
loop-row-init c =
    subst (λ (rows : List ℤ). AreRowsMultiplied c.args.from.now c.args.to.now 0 rows c.in_ok-groups.groups.signs.items) (sym c.in_ok-rows.ensures.items)
    (no_row_multiplied c.args.from.now c.args.to.now c.in_ok-groups.groups.signs.items)

pub loop-row-preserved : goal.loop-row-preserved
loop-row-preserved c =
    let m = c.args.from.now in
    let n = c.args.to.now in
    let columns = c.in_ok-groups.groups.signs.items in
    let sign = c.row_sign-sign.result in
    let kept : to_z w8 (of_z w8 sign) ≡ sign = kept_entry sign (sign_is_entry sign c.row_sign-sign.ensures.sign) in
    subst (λ (rows : List ℤ). AreRowsMultiplied m n (c.loop-row.row + 1) rows columns) (ap (λ (z : ℤ). c.loop-row.rows.items ++ z ∷ []) (sym kept) ∙ sym c.in_ok-push.ensures.items)
    (one_row_multiplied m n c.loop-row.row c.loop-row.rows.items columns sign c.row_sign-sign.ensures.sign (subst (IsRowMultiplied m n columns c.loop-row.row) kept (c.if-not-is_row_multiplied.ensures.0 refl)) c.loop-row.invariant)

pub returns-then-not-is_row_multiplied : goal.returns-then-not-is_row_multiplied
returns-then-not-is_row_multiplied c =
    let m = c.args.from.now in
    let n = c.args.to.now in
    let row = c.loop-row.row in
    let groups = c.in_ok-groups.groups.groups.items in
    let columns = c.in_ok-groups.groups.signs.items in
    let low : row < height m = omega (arith, c.loop-row-test.true, c.rows-row-end.ensures.rows) in
    let kept = kept_entry c.row_sign-sign.result (sign_is_entry c.row_sign-sign.result c.row_sign-sign.ensures.sign) in
    let none = none_agrees m n columns row c.row_sign-sign.result c.requires (c.in_ok-groups.ensures.forced row low) c.row_sign-sign.ensures.value
    (λ column. c.rows.ensures.shape.small row column) (λ multiplied. false≢true (c.if-not-is_row_multiplied.ensures.1 (subst (IsRowMultiplied m n columns row) (sym kept) multiplied))) in
    let passed : HasNoViolator m → HasNoFaultBefore n row = λ free. first_rows_free m n c.rows.ensures.shape c.columns-columns.ensures.shape c.requires.height_same c.requires.width_same free
    groups row c.loop-row.rows.items columns c.in_ok-groups.ensures.groups c.loop-row.invariant (omega (arith, low)) in
    record {
      none = none;
      first = λ free. record { before = passed free; here = faulty_where_apart m n (row + 1) c.rows.ensures.shape c.columns-columns.ensures.shape c.requires none free };
    }

pub returns : goal.returns
returns c =
    let m = c.args.from.now in
    let n = c.args.to.now in
    let whole : c.loop-row.row ≡ height m = omega (arith, c.loop-row-test.false, c.loop-row.auto.row-end, c.rows-row-end.ensures.rows) in
    let multiplied = subst (λ (count : ℕ). AreRowsMultiplied m n count c.loop-row.rows.items c.in_ok-groups.groups.signs.items) whole c.loop-row.invariant in
    record {
      row_each = multiplied.row_each;
      column_each = c.in_ok-groups.ensures.groups.sign_each;
      multiplied = all_rows_multiplied m n c.in_ok-groups.groups.groups.items c.loop-row.rows.items c.in_ok-groups.groups.signs.items c.in_ok-groups.ensures.groups multiplied;
      passed = λ free. first_rows_free m n c.rows.ensures.shape c.columns-columns.ensures.shape c.requires.height_same c.requires.width_same free
          c.in_ok-groups.groups.groups.items (height m) c.loop-row.rows.items c.in_ok-groups.groups.signs.items c.in_ok-groups.ensures.groups multiplied (omega arith);
    }
