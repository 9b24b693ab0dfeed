-- The rows that the steps of a run name.
use Rattle.std.proofs.Common.{◌≡◌, ◌++◌, ◌∙◌, ◌⊎◌, inl, inr, ℕ, suc, ℤ, Option, Some, None, List, [], ◌∷◌, length, get_or, map, refl, ap, sym, subst, arith, length-append}
use Rattle.cmr_base.specs.Matrix.{Matrix}
use Rattle.cmr_base.specs.Members.{IsIn, IsDistinct}
use Rattle.cmr_base.proofs.Lists.{HasOneMore, one_more_first}
use Rattle.ghouila.specs.declared.by_pivots.Pivot.{Pivot}
use Rattle.ghouila.specs.SignRuns.{IsPivotNext, SignsBySteps}
use Rattle.ghouila.proofs.LeftRows.{one_more-remove}
use Rattle.sign_tool.specs.SetSignings.{NamesEachOnce}

-- ---- a list with one item more

in_more : (prefix back : List ℕ) (x y : ℕ) → IsIn y (prefix ++ back) → IsIn y (prefix ++ x ∷ back)
in_more [] back x y h = inr h
in_more (z ∷ prefix) back x y (inl e) = inl e
in_more (z ∷ prefix) back x y (inr h) = inr (in_more prefix back x y h)

in_middle : (prefix back : List ℕ) (x : ℕ) → IsIn x (prefix ++ x ∷ back)
in_middle [] back x = inl refl
in_middle (z ∷ prefix) back x = inr (in_middle prefix back x)

in_fewer : (prefix back : List ℕ) (x y : ℕ) → IsIn y (prefix ++ x ∷ back) → (y ≡ x) ⊎ IsIn y (prefix ++ back)
in_fewer [] back x y (inl e) = inl e
in_fewer [] back x y (inr h) = inr h
in_fewer (z ∷ prefix) back x y (inl e) = inr (inl e)
in_fewer (z ∷ prefix) back x y (inr h) = elim (in_fewer prefix back x y h) [ inl e ↦ inl e | inr g ↦ inr (inr g) ]

distinct_fewer : (prefix back : List ℕ) (x : ℕ) → IsDistinct (prefix ++ x ∷ back) → (¬ (IsIn x (prefix ++ back))) × IsDistinct (prefix ++ back)
distinct_fewer [] back x h = h
distinct_fewer (z ∷ prefix) back x h =
    let rest = distinct_fewer prefix back x h.1 in (
      λ there. elim there [ inl e ↦ h.0 (subst (λ y. IsIn y (prefix ++ x ∷ back)) e (in_middle prefix back x)) | inr g ↦ rest.0 g ],
      (λ g. h.0 (in_more prefix back x z g), rest.1),
    )

pub in_left : (rows left : List ℕ) (row i : ℕ) → HasOneMore row left rows → IsIn i left → IsIn i rows
in_left rows left row i more h = subst (IsIn i) (sym more.more_is) (in_more more.prefix more.back row i (subst (IsIn i) more.fewer_is h))

pub in_rows : (rows left : List ℕ) (row : ℕ) → HasOneMore row left rows → IsIn row rows
in_rows rows left row more = subst (IsIn row) (sym more.more_is) (in_middle more.prefix more.back row)

-- the rows before a pivot
pub one_more_next : (m : Matrix) (rows : List ℕ) (row column : ℕ) (left : List ℕ) → IsPivotNext m rows row column left → HasOneMore row left rows
one_more_next m rows row column left next =
    subst (λ r. HasOneMore r left rows) (sym next.row_is) (subst (λ xs. HasOneMore (get_or rows next.place 0) xs rows) (sym next.left_is) (one_more-remove rows next.place next.first.pivot.within))

names_first : (rows left : List ℕ) (step : Pivot) (steps : List Pivot) → HasOneMore step.row left rows → IsDistinct rows
    → (IsDistinct left → NamesEachOnce steps left) → NamesEachOnce (step ∷ steps) rows
names_first rows left step steps more distinct rest =
    let parts = distinct_fewer more.prefix more.back step.row (subst IsDistinct more.more_is distinct) in
    let apart : ¬ (IsIn step.row left) = subst (λ xs. ¬ (IsIn step.row xs)) (sym more.fewer_is) parts.0 in
    let names = rest (subst IsDistinct (sym more.fewer_is) parts.1) in
    record {
      distinct = (λ there. apart ((names.members step.row).0 there), names.distinct);
      members = λ row. (to row names, from row names);
      as_many = ap suc names.as_many ∙ sym (one_longer rows left step.row more);
    }
  where
    one_longer : (rows left : List ℕ) (row : ℕ) → HasOneMore row left rows → length rows ≡ suc (length left)
    one_longer rows left row more = ap length more.more_is ∙ (let a = length-append more.prefix (row ∷ more.back) in let b = length-append more.prefix more.back in let c = ap length more.fewer_is in omega arith)

    to : (row : ℕ) → NamesEachOnce steps left → (row ≡ step.row) ⊎ IsIn row (map (λ s. s.row) steps) → IsIn row rows
    to row names (inl e) = subst (λ y. IsIn y rows) (sym e) (in_rows rows left step.row more)
    to row names (inr h) = in_left rows left step.row row more ((names.members row).0 h)

    from : (row : ℕ) → NamesEachOnce steps left → IsIn row rows → (row ≡ step.row) ⊎ IsIn row (map (λ s. s.row) steps)
    from row names h = elim (in_fewer more.prefix more.back step.row row (subst (IsIn row) more.more_is h)) [
      | inl e ↦ inl e
      | inr g ↦ inr ((names.members row).1 (subst (IsIn row) (sym more.fewer_is) g))
    ]

names_step : (steps : List Pivot) (sign : ℕ → ℤ) → ((m : Matrix) (rows : List ℕ) → SignsBySteps m rows steps sign → IsDistinct rows → NamesEachOnce steps rows)
    → (row : ℕ) (column : Option ℕ) (m : Matrix) (rows : List ℕ) → SignsBySteps m rows (record { row = row; column = column } ∷ steps) sign → IsDistinct rows → NamesEachOnce (record { row = row; column = column } ∷ steps) rows
names_step steps sign others row None m rows (left, (aside, one, rest)) distinct =
    names_first rows left (record { row = row; column = None }) steps (subst (HasOneMore row left) (sym aside.rows_are) (one_more_first row left)) distinct (others m left rest)
names_step steps sign others row (Some column) m rows (left, (next, value, (after, made, rest))) distinct =
    names_first rows left (record { row = row; column = Some column }) steps (one_more_next m rows row column left next) distinct (others after left rest)

pub names_each_once : (steps : List Pivot) (sign : ℕ → ℤ) (m : Matrix) (rows : List ℕ) → SignsBySteps m rows steps sign → IsDistinct rows → NamesEachOnce steps rows
names_each_once [] sign m rows none distinct = subst (NamesEachOnce []) (sym none) (record { distinct = tt; members = λ row. (λ h. h, λ h. h); as_many = refl })
names_each_once (step ∷ steps) sign m rows run distinct = names_step steps sign (names_each_once steps sign) step.row step.column m rows run distinct
