-- Being linked is an equivalence.
use Rattle.std.proofs.Common.{ℕ, Bool, List, [], ◌∷◌, ◌≢◌, ◌∙◌, sym, ap, refl, subst}
use Rattle.cmr_base.specs.Members.{IsIn}
use Rattle.cmr_base.specs.Splits.{AreJoined, LeadsTo, AreLinked}
use Rattle.cmr_base.proofs.RowLists.{not_both}

module _ (M : ℕ → ℕ → Bool) (S : List ℕ) (i : ℕ) where
  pub joined_back : (j k : ℕ) → AreJoined M i j k → AreJoined M i k j
  joined_back j k (column, off, a, b) = (column, off, b, a)

  -- a row that is joined to another row is not row i
  pub joined_off : (j k : ℕ) → AreJoined M i j k → k ≢ i
  joined_off j k (column, off, a, b) e = not_both (M k column) b (ap (λ (z : ℕ). M z column) e ∙ off)

  -- another row at the end
  leads_on : (j k x : ℕ) (rows : List ℕ) → LeadsTo M S i j rows k → IsIn x S → AreJoined M i k x → AreLinked M S i j x
  leads_on j k x [] e hx join = (x ∷ [], (hx, subst (λ (z : ℕ). AreJoined M i z x) (sym e) join, refl))
  leads_on j k x (y ∷ rows) (hy, first, e) hx join = let r = leads_on y k x rows e hx join in (y ∷ r.0, (hy, first, r.1))

  pub linked_on : (j k x : ℕ) → AreLinked M S i j k → IsIn x S → AreJoined M i k x → AreLinked M S i j x
  linked_on j k x (rows, e) hx join = leads_on j k x rows e hx join

  pub linked_from : (x k j : ℕ) → IsIn k S → AreJoined M i x k → AreLinked M S i k j → AreLinked M S i x j
  linked_from x k j hk join (rows, e) = (k ∷ rows, (hk, join, e))
