-- A tree that breaks no rule at any node is not unsound.
use Rattle.std.proofs.Common.{◌<◌, ◌+◌, inl, inr, ℕ, List, [], ◌∷◌, refl, ap, subst, arith}
use Rattle.std.proofs.lemmas.Bool.{cases_lt}
use Rattle.std.specs.List.{AllByRecursion}
use Rattle.cmr_base.specs.Matrix.{Matrix}
use Rattle.tree_type.specs.declared.refusal.Rule.{Rule}
use Rattle.tree_type.specs.declared.refusal.Rule.TheVariants as rule
use Rattle.tree_type.specs.Places.{Place}
use Rattle.tree_type.specs.Soundness.{Keeps, KeepsAll, rule_number, BreaksFirst, IsFirstBroken}
use Rattle.tree_type.proofs.OneRefusal.{same_rule}

module _ (m : Matrix) (place : Place) (none : (broken : Rule) → ¬ (BreaksFirst m place broken)) where
  -- all rules with lower numbers are kept
  abbrev KeepsBelow : ℕ → Type 0
  KeepsBelow n = (earlier : Rule) → rule_number earlier < n → Keeps m place earlier

  one_rule_more : (r : Rule) → KeepsBelow (rule_number r) → ¬ (¬ (KeepsBelow (rule_number r + 1)))
  one_rule_more r before not_all =
      none r (record {
        breaks = λ kept. not_all (λ s below. elim (cases_lt (rule_number s) (rule_number r)) [
          | inl less ↦ before s less
          | inr most ↦ subst (Keeps m place) (same_rule r s (omega (arith, below, most))) kept
        ]);
        keeps = before;
      })

  below_all : (r : Rule) → rule_number r < 17
  below_all rule.Size = omega arith
  below_all rule.Lines = omega arith
  below_all rule.NotEmpty = omega arith
  below_all rule.NotViolator = omega arith
  below_all rule.NotReducible = omega arith
  below_all rule.NotApart = omega arith
  below_all rule.NotNetwork = omega arith
  below_all rule.NotR10 = omega arith
  below_all rule.CycleFault = omega arith
  below_all rule.TooShort = omega arith
  below_all rule.BadConnector = omega arith
  below_all rule.CornerSign = omega arith
  below_all rule.BadBlock = omega arith
  below_all rule.TooMany = omega arith
  below_all rule.NotClean = omega arith
  below_all rule.NotPivot = omega arith
  below_all rule.BelowPivot = omega arith

  keeps_all : ¬ (¬ (KeepsAll m place))
  keeps_all not_all =
      one_rule_more rule.Size (λ r h. absurd (omega (arith, h))) (λ lines. one_rule_more rule.Lines lines (λ empty. one_rule_more rule.NotEmpty empty (λ violator.
      one_rule_more rule.NotViolator violator (λ reducible. one_rule_more rule.NotReducible reducible (λ apart. one_rule_more rule.NotApart apart (λ network.
      one_rule_more rule.NotNetwork network (λ r10. one_rule_more rule.NotR10 r10 (λ cycle. one_rule_more rule.CycleFault cycle (λ short.
      one_rule_more rule.TooShort short (λ connector. one_rule_more rule.BadConnector connector (λ corner. one_rule_more rule.CornerSign corner (λ block.
      one_rule_more rule.BadBlock block (λ many. one_rule_more rule.TooMany many (λ clean. one_rule_more rule.NotClean clean (λ pivot. one_rule_more rule.NotPivot pivot (λ below.
      one_rule_more rule.BelowPivot below (λ all. not_all (λ r. all r (below_all r)))))))))))))))))))

pub sound_or_broken : (m : Matrix) (nodes : List Place) → ((path : List ℕ) (broken : Rule) → ¬ (IsFirstBroken m nodes path broken)) → ¬ (¬ (AllByRecursion (KeepsAll m) nodes))
sound_or_broken m [] none not_all = not_all tt
sound_or_broken m (place ∷ nodes) none not_all =
    keeps_all m place (λ broken first. none place.path broken (record { before = []; place = place; after = nodes; order = refl; sound = tt; breaks = first; path_is = refl })) (λ kept.
    sound_or_broken m nodes
    (λ path broken later. none path broken (record {
      before = place ∷ later.before;
      place = later.place;
      after = later.after;
      order = ap (λ rest. place ∷ rest) later.order;
      sound = (kept, later.sound);
      breaks = later.breaks;
      path_is = later.path_is;
    }))
    (λ rest. not_all (kept, rest)))
