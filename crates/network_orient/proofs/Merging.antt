-- The columns of a group moved into another group, column by column.
use Rattle.std.proofs.Common.{◌≡◌, ◌≢◌, ◌<◌, ◌≤◌, ◌∙◌, ◌⊎◌, inl, inr, ◌+◌, ◌*ℤ◌, ℕ, ℤ, pos, List, length, set, refl, ap, sym, arith}
use Rattle.std.proofs.lemmas.Bool.{cases_eq}
use Rattle.std.proofs.lemmas.List.{length-set, get_or-set_same, get_or-set_other}
use Rattle.network_orient.specs.SignedGroups.{group_of, sign_of, IsMerged}

-- the columns below `count` are moved
pub record IsMergedTo (count : ℕ) (old_groups : List ℕ) (old_signs : List ℤ) (groups : List ℕ) (signs : List ℤ) (replaced stays : ℕ) (factor : ℤ) : Type 0 where
  pub group_each : length groups ≡ length old_groups
  pub sign_each : length signs ≡ length old_signs
  pub moved : (column : ℕ) → column < count → group_of old_groups column ≡ replaced → (group_of groups column ≡ stays) × (sign_of signs column ≡ sign_of old_signs column *ℤ factor)
  pub others : (column : ℕ) → group_of old_groups column ≢ replaced → (group_of groups column ≡ group_of old_groups column) × (sign_of signs column ≡ sign_of old_signs column)
  pub later : (column : ℕ) → count ≤ column → (group_of groups column ≡ group_of old_groups column) × (sign_of signs column ≡ sign_of old_signs column)

module _ (old_groups : List ℕ) (old_signs : List ℤ) (replaced stays : ℕ) (factor : ℤ) where
  pub merged_none : IsMergedTo 0 old_groups old_signs old_groups old_signs replaced stays factor
  merged_none = record { group_each = refl; sign_each = refl; moved = λ column l. absurd (omega arith); others = λ column n. (refl, refl); later = λ column l. (refl, refl) }

  pub merged_all : (groups : List ℕ) (signs : List ℤ) → IsMergedTo (length old_groups) old_groups old_signs groups signs replaced stays factor
      → IsMerged old_groups old_signs groups signs replaced stays factor
  merged_all groups signs h = record { group_each = h.group_each; sign_each = h.sign_each; moved = h.moved; others = λ column l n. h.others column n }

  module _ (groups : List ℕ) (signs : List ℤ) (column : ℕ) (h : IsMergedTo column old_groups old_signs groups signs replaced stays factor) where
    pub merged_kept : group_of groups column ≢ replaced → IsMergedTo (column + 1) old_groups old_signs groups signs replaced stays factor
    merged_kept other = record {
      group_each = h.group_each;
      sign_each = h.sign_each;
      moved = λ c l e. go c l e (cases_eq c column);
      others = h.others;
      later = λ c l. h.later c (omega arith);
    }
      where
        go : (c : ℕ) → c < column + 1 → group_of old_groups c ≡ replaced → (c ≡ column) ⊎ (c ≢ column) → (group_of groups c ≡ stays) × (sign_of signs c ≡ sign_of old_signs c *ℤ factor)
        go c l e (inl f) = absurd (other ((h.later column (omega arith)).0 ∙ ap (group_of old_groups) (sym f) ∙ e))
        go c l e (inr f) = h.moved c (omega arith) e

    pub merged_moved : column < length old_groups → length old_signs ≡ length old_groups → group_of groups column ≡ replaced
        → (sign : ℤ) → sign ≡ sign_of signs column *ℤ factor → IsMergedTo (column + 1) old_groups old_signs (set groups column stays) (set signs column sign) replaced stays factor
    merged_moved l same is_gone sign is_sign = record {
      group_each = length-set groups column stays ∙ h.group_each;
      sign_each = length-set signs column sign ∙ h.sign_each;
      moved = λ c k e. go c k e (cases_eq c column);
      others = λ c n. away c n (cases_eq c column);
      later = λ c k. (
        get_or-set_other groups column c stays 0 (λ e. omega arith) ∙ (h.later c (omega arith)).0,
        get_or-set_other signs column c sign (pos 1) (λ e. omega arith) ∙ (h.later c (omega arith)).1,
      );
    }
      where
        go : (c : ℕ) → c < column + 1 → group_of old_groups c ≡ replaced → (c ≡ column) ⊎ (c ≢ column)
            → (group_of (set groups column stays) c ≡ stays) × (sign_of (set signs column sign) c ≡ sign_of old_signs c *ℤ factor)
        go c k e (inl f) = rw f (
          get_or-set_same groups column stays 0 (omega (arith, h.group_each, l)),
          get_or-set_same signs column sign (pos 1) (omega (arith, h.sign_each, l, same)) ∙ is_sign ∙ ap (λ z. z *ℤ factor) (h.later column (omega arith)).1,
        )
        go c k e (inr f) = (
          get_or-set_other groups column c stays 0 f ∙ (h.moved c (omega arith) e).0,
          get_or-set_other signs column c sign (pos 1) f ∙ (h.moved c (omega arith) e).1,
        )

        away : (c : ℕ) → group_of old_groups c ≢ replaced → (c ≡ column) ⊎ (c ≢ column)
            → (group_of (set groups column stays) c ≡ group_of old_groups c) × (sign_of (set signs column sign) c ≡ sign_of old_signs c)
        away c n (inl f) = absurd (n (ap (group_of old_groups) f ∙ sym (h.later column (omega arith)).0 ∙ is_gone))
        away c n (inr f) = (get_or-set_other groups column c stays 0 f ∙ (h.others c n).0, get_or-set_other signs column c sign (pos 1) f ∙ (h.others c n).1)
