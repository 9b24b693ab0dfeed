-- Rows multiplied by their signs, one after another.
use Rattle.std.proofs.Common.{◌≡◌, ◌≢◌, ◌<◌, ◌∙◌, ◌⊎◌, inl, inr, ◌+◌, ◌++◌, ℕ, ℤ, pos, List, [], ◌∷◌, length, refl, ap, sym, subst, arith}
use Rattle.std.specs.List.{AllByRecursion}
use Rattle.std.proofs.lemmas.Bool.{cases_eq}
use Rattle.std.proofs.lemmas.List.{length-append, get_or_append_left}
use Rattle.std.proofs.Math.Seq.{get_or-append_seam}
use Rattle.cmr_base.specs.Matrix.{Matrix, height, entry, IsEntry}
use Rattle.cmr_base.specs.Signing.{IsSign}
use Rattle.cmr_base.specs.Supports.{HaveOneSupport}
use Rattle.cmr_base.specs.ReversedNetworks.{IsMultiplied}
use Rattle.cmr_base.proofs.Lists.{all-append, all_by_places}
use Rattle.cmr_base.proofs.SignEntries.{sign_of_entry}
use Rattle.network_orient.specs.SignedGroups.{AgreeBefore, AreSignedGroups, IsRowForced, IsRowMultiplied, row_sign_by, sign_of}
use Rattle.network_orient.proofs.ForcedSigns.{row_multiplied, zero_row_multiplied}

-- the rows below `count` are multiplied
pub record AreRowsMultiplied (m n : Matrix) (count : ℕ) (rows columns : List ℤ) : Type 0 where
  pub row_each : length rows ≡ count
  pub row_signs : AllByRecursion IsSign rows
  pub multiplied : (row : ℕ) → row < count → IsRowMultiplied m n columns row (sign_of rows row)

module _ (m n : Matrix) where
  pub no_row_multiplied : (columns : List ℤ) → AreRowsMultiplied m n 0 [] columns
  no_row_multiplied columns = record { row_each = refl; row_signs = tt; multiplied = λ row l. absurd (omega arith) }

  pub one_row_multiplied : (count : ℕ) (rows columns : List ℤ) (sign : ℤ) → IsSign sign → IsRowMultiplied m n columns count sign → AreRowsMultiplied m n count rows columns
      → AreRowsMultiplied m n (count + 1) (rows ++ sign ∷ []) columns
  one_row_multiplied count rows columns sign is_sign here before = record {
    row_each = let e = length-append rows (sign ∷ []) in omega (arith, e, before.row_each);
    row_signs = all-append IsSign rows (sign ∷ []) before.row_signs (is_sign, tt);
    multiplied = λ row l. go row l (cases_eq row count);
  }
    where
      last : sign_of (rows ++ sign ∷ []) count ≡ sign
      last = ap (sign_of (rows ++ sign ∷ [])) (sym before.row_each) ∙ get_or-append_seam rows sign [] (pos 1)

      go : (row : ℕ) → row < count + 1 → (row ≡ count) ⊎ (row ≢ count) → IsRowMultiplied m n columns row (sign_of (rows ++ sign ∷ []) row)
      go row l (inl e) = subst (λ r. IsRowMultiplied m n columns r (sign_of (rows ++ sign ∷ []) r)) (sym e) (subst (IsRowMultiplied m n columns count) (sym last) here)
      go row l (inr k) =
          let low : row < count = omega arith in
          subst (IsRowMultiplied m n columns row) (sym (get_or_append_left rows (sign ∷ []) (pos 1) row (omega (arith, low, before.row_each)))) (before.multiplied row low)

  pub all_rows_multiplied : (groups : List ℕ) (rows columns : List ℤ) → AreSignedGroups m n (height m) groups columns
      → AreRowsMultiplied m n (height m) rows columns → IsMultiplied (entry m) (entry n) (height m) m.width rows columns
  all_rows_multiplied groups rows columns all multiplied = record {
    rows = multiplied.row_signs;
    columns = all_by_places IsSign columns (pos 1) (λ column l. all.each_sign column);
    entries = λ row column l near. multiplied.multiplied row l column near;
  }

  -- a row that its sign does not turn into the other row
  pub none_agrees : (columns : List ℤ) (row : ℕ) (sign : ℤ) → HaveOneSupport m n → IsRowForced m n columns row
      → ((column : ℕ) → entry m row column ≡ pos 0) ⊎ ((first : ℕ) × (first < m.width) × (entry m row first ≢ pos 0) × (sign ≡ row_sign_by m n columns row first))
      → ((column : ℕ) → IsEntry (entry m row column)) → ¬ (IsRowMultiplied m n columns row sign) → ¬ (AgreeBefore (entry m) (entry n) (row + 1))
  none_agrees columns row sign support forced (inl none) small not_multiplied agreement = not_multiplied (zero_row_multiplied m n columns row sign support none)
  none_agrees columns row sign support forced (inr (first, inside, nonzero, is_sign)) small not_multiplied agreement =
      not_multiplied (row_multiplied m n columns row first sign support forced inside nonzero (sign_of_entry (entry m row first) (small first) nonzero) is_sign agreement)
