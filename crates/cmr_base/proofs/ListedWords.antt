-- The set of the numbers of a list.
use Rattle.std.proofs.Common.{◌≡◌, ◌<◌, ◌≤◌, ◌+◌, ◌⊎◌, ◌∙◌, inl, inr, nat_eq, ℕ, true, false, List, length, get_or, sym, subst, arith}
use Rattle.std.specs.List.{list_any}
use Rattle.cmr_base.specs.ColumnSets.{has_column}
use Rattle.cmr_base.specs.Members.{IsIn}
use Rattle.cmr_base.proofs.Booleans.{not_both, same_test}
use Rattle.cmr_base.proofs.ListedLines.{in_from_listed, listed_from_in}
use Rattle.cmr_base.proofs.Members.{in_at}
use Rattle.cmr_base.proofs.Places.{all_placed, more_placed}

-- the set has the first numbers of the list
pub record AreListed (lines set : List ℕ) (index : ℕ) : Type 0 where
  pub only : (x : ℕ) → has_column set x ≡ true → IsIn x lines
  pub all : (k : ℕ) → k < index → has_column set (get_or lines k 0) ≡ true

pub none_listed : (lines set : List ℕ) → ((x : ℕ) → has_column set x ≡ false) → AreListed lines set 0
none_listed lines set none = record {
  only = λ x e. absurd (not_both (has_column set x) e (none x));
  all = λ k l. absurd (omega arith);
}

pub one_listed : (lines old new : List ℕ) (index line : ℕ) → AreListed lines old index → index < length lines → line ≡ get_or lines index 0
    → ((x : ℕ) → has_column new x ≡ true → (x ≡ line) ⊎ (has_column old x ≡ true)) → has_column new line ≡ true → ((x : ℕ) → has_column old x ≡ true → has_column new x ≡ true)
    → AreListed lines new (index + 1)
one_listed lines old new index line so l is only here kept = record {
  only = λ x e. elim (only x e) [
    | inl same ↦ subst (λ (y : ℕ). IsIn y lines) (sym (same ∙ is)) (in_at lines index l)
    | inr h ↦ so.only x h
  ];
  all = more_placed (λ x. has_column new x ≡ true) lines index (λ k low. kept (get_or lines k 0) (so.all k low)) (subst (λ (y : ℕ). has_column new y ≡ true) is here);
}

pub all_listed : (lines set : List ℕ) (index : ℕ) → AreListed lines set index → length lines ≤ index → (x : ℕ) → has_column set x ≡ list_any (λ y. nat_eq y x) lines
all_listed lines set index so l x = same_test (has_column set x) (list_any (λ y. nat_eq y x) lines)
    (λ e. listed_from_in x lines (so.only x e))
    (λ e. all_placed (λ y. has_column set y ≡ true) lines index l so.all x (in_from_listed x lines e))
