-- The first node that breaks a rule, and its first broken rule, are unique.
use Rattle.std.proofs.Common.{◌≡◌, ◌<◌, ◌≤◌, ◌∙◌, ◌⊎◌, inl, inr, ℕ, List, [], ◌∷◌, ◌++◌, get_or, refl, ap, sym, subst, arith}
use Rattle.std.proofs.lemmas.Bool.{cases_lt}
use Rattle.std.specs.List.{AllByRecursion}
use Rattle.cmr_base.specs.Matrix.{Matrix}
use Rattle.cmr_base.proofs.Lists.{all_back}
use Rattle.tree_type.specs.declared.refusal.Rule.{Rule}
use Rattle.tree_type.specs.declared.refusal.Rule.TheVariants as rule
use Rattle.tree_type.specs.Places.{Place}
use Rattle.tree_type.specs.Soundness.{Keeps, KeepsAll, rule_number, BreaksFirst, IsFirstBroken}

first_item : {A : Type 0} (x y : A) (xs ys : List A) → x ∷ xs ≡ y ∷ ys → x ≡ y
first_item {A = A} x y xs ys e = ap (λ zs. elim zs as (λ _. A) [ [] ↦ x | z ∷ _ ↦ z ]) e

others : {A : Type 0} (x y : A) (xs ys : List A) → x ∷ xs ≡ y ∷ ys → xs ≡ ys
others {A = A} x y xs ys e = ap (λ zs. elim zs as (λ _. List A) [ [] ↦ xs | _ ∷ rest ↦ rest ]) e

-- the first place that breaks a rule
one_place : (m : Matrix) (before before' after after' : List Place) (place place' : Place) (broken broken' : Rule) → AllByRecursion (KeepsAll m) before
    → AllByRecursion (KeepsAll m) before' → ¬ (Keeps m place broken) → ¬ (Keeps m place' broken')
    → before ++ place ∷ after ≡ before' ++ place' ∷ after' → place ≡ place'
one_place m [] [] after after' place place' broken broken' s s' d d' e = first_item place place' after after' e
one_place m [] (x ∷ before') after after' place place' broken broken' s s' d d' e = absurd (d (subst (λ p. Keeps m p broken) (sym (first_item place x after (before' ++ place' ∷ after') e)) (s'.0 broken)))
one_place m (x ∷ before) [] after after' place place' broken broken' s s' d d' e = absurd (d' (subst (λ p. Keeps m p broken') (first_item x place' (before ++ place ∷ after) after' e) (s.0 broken')))
one_place m (x ∷ before) (y ∷ before') after after' place place' broken broken' s s' d d' e =
    one_place m before before' after after' place place' broken broken' s.1 s'.1 d d' (others x y (before ++ place ∷ after) (before' ++ place' ∷ after') e)

abbrev rules : List Rule
rules =
    rule.Size ∷ rule.Lines ∷ rule.NotEmpty ∷ rule.NotViolator ∷ rule.NotReducible ∷ rule.NotApart ∷ rule.NotNetwork ∷ rule.NotR10 ∷ rule.CycleFault
    ∷ rule.TooShort ∷ rule.BadConnector ∷ rule.CornerSign ∷ rule.BadBlock ∷ rule.TooMany ∷ rule.NotClean ∷ rule.NotPivot ∷ rule.BelowPivot ∷ []

abbrev rule_at : ℕ → Rule
rule_at n = get_or rules n rule.Size

rule_back : (r : Rule) → rule_at (rule_number r) ≡ r
rule_back rule.Size = refl
rule_back rule.Lines = refl
rule_back rule.NotEmpty = refl
rule_back rule.NotViolator = refl
rule_back rule.NotReducible = refl
rule_back rule.NotApart = refl
rule_back rule.NotNetwork = refl
rule_back rule.NotR10 = refl
rule_back rule.CycleFault = refl
rule_back rule.TooShort = refl
rule_back rule.BadConnector = refl
rule_back rule.CornerSign = refl
rule_back rule.BadBlock = refl
rule_back rule.TooMany = refl
rule_back rule.NotClean = refl
rule_back rule.NotPivot = refl
rule_back rule.BelowPivot = refl

pub same_rule : (r s : Rule) → rule_number r ≡ rule_number s → r ≡ s
same_rule r s e = sym (rule_back r) ∙ ap rule_at e ∙ rule_back s

one_rule : (m : Matrix) (place : Place) (r s : Rule) → BreaksFirst m place r → BreaksFirst m place s → r ≡ s
one_rule m place r s a b = go (cases_lt (rule_number r) (rule_number s)) (cases_lt (rule_number s) (rule_number r))
  where
    go : (rule_number r < rule_number s) ⊎ (rule_number s ≤ rule_number r) → (rule_number s < rule_number r) ⊎ (rule_number r ≤ rule_number s) → r ≡ s
    go (inl l) k = absurd (a.breaks (b.keeps r l))
    go (inr l) (inl k) = absurd (b.breaks (a.keeps s k))
    go (inr l) (inr k) = same_rule r s (omega (arith, l, k))

pub one_refusal : (m : Matrix) (nodes : List Place) (path path' : List ℕ) (broken broken' : Rule) → IsFirstBroken m nodes path broken
    → IsFirstBroken m nodes path' broken' → (path ≡ path') × (broken ≡ broken')
one_refusal m nodes path path' broken broken' a b =
    let same = one_place m a.before b.before a.after b.after a.place b.place broken broken' a.sound b.sound a.breaks.breaks b.breaks.breaks (sym a.order ∙ b.order) in (
      a.path_is ∙ ap (λ p. p.path) same ∙ sym b.path_is,
      one_rule m a.place broken broken' a.breaks (subst (λ p. BreaksFirst m p broken') (sym same) b.breaks),
    )

pub sound_unbroken : (m : Matrix) (nodes : List Place) (path : List ℕ) (broken : Rule) → AllByRecursion (KeepsAll m) nodes → IsFirstBroken m nodes path broken → ⊥
sound_unbroken m nodes path broken sound a =
    a.breaks.breaks ((all_back (KeepsAll m) a.before (a.place ∷ a.after) (subst (AllByRecursion (KeepsAll m)) a.order sound)).0 broken)
