-- The parts before one, while the parts are decided in their order.
use Rattle.std.proofs.Common.{◌≡◌, ◌<◌, ◌≤◌, ◌+◌, ◌++◌, ◌∙◌, inl, inr, drop, take, ℕ, suc, List, [], ◌∷◌, length, Option, Some, None, refl, ap, sym, subst}
use Rattle.std.proofs.Math.Seq.{drop-cons}
use Rattle.std.proofs.lemmas.List.{append_assoc, take-append-drop, take_all, take_more}
use Rattle.std.specs.List.{AllByRecursion}
use Rattle.std.specs.Option.{option_or}
use Rattle.cmr_base.specs.declared.line_set.LineSet.{LineSet}
use Rattle.cmr_base.specs.Components.{no_lines, part_at}
use Rattle.cmr_base.specs.Matrix.{Matrix}
use Rattle.cmr_base.proofs.Lists.{all-append, all_weaker}
use Rattle.tree_type.specs.Soundness.{part}
use Rattle.decomp_tree.specs.Shapes.{set_in}
use Rattle.large_unimodular.specs.declared.part_verdicts.PartVerdict.TheVariants as own
use Rattle.large_unimodular.specs.PartVerdicts.{IsPartVerdict}
use Rattle.large_unimodular.specs.LargeVerdicts.{HasVerdict, IsFirstNo, IsFirstOpen, IsYesOrOpen}

-- of the parts before one, none is a no, and the first that stays open is named
abbrev pub IsSoFar : (limit pivots : ℕ) → Matrix → List LineSet → ℕ → Option ℕ → Type 0
IsSoFar limit pivots m parts index None = AllByRecursion (HasVerdict limit pivots m own.Yes) (take index parts)
IsSoFar limit pivots m parts index (Some first) = (first < length parts) × IsFirstOpen limit pivots m (take index parts) (part_at parts first)

module _ (limit pivots : ℕ) (m : Matrix) (parts : List LineSet) where
  abbrev YesPart : LineSet → Type 0
  YesPart = HasVerdict limit pivots m own.Yes

  abbrev YesOrOpenPart : LineSet → Type 0
  YesOrOpenPart = IsYesOrOpen limit pivots m

  -- one more part after the first that stays open
  longer : (fewer more : List LineSet) (lines x : LineSet) → more ≡ fewer ++ x ∷ [] → YesOrOpenPart x → IsFirstOpen limit pivots m fewer lines → IsFirstOpen limit pivots m more lines
  longer fewer more lines x e is first = record {
    before = first.before;
    after = first.after ++ x ∷ [];
    order = e ∙ ap (λ (xs : List LineSet). xs ++ x ∷ []) first.order ∙ append_assoc first.before (lines ∷ first.after) (x ∷ []);
    earlier = first.earlier;
    stays = first.stays;
    later = all-append YesOrOpenPart first.after (x ∷ []) first.later (is, tt);
  }

  module _ (k : ℕ) (below : k < length parts) where
    abbrev here : LineSet
    here = part_at parts k

    one_more : take (k + 1) parts ≡ take k parts ++ here ∷ []
    one_more = take_more parts k no_lines below

    pub so_far_yes : (found : Option ℕ) → YesPart here → IsSoFar limit pivots m parts k found → IsSoFar limit pivots m parts (k + 1) found
    so_far_yes None is all = subst (AllByRecursion YesPart) (sym one_more) (all-append YesPart (take k parts) (here ∷ []) all (is, tt))
    so_far_yes (Some first) is (inside, open_is) = (inside, longer (take k parts) (take (k + 1) parts) (part_at parts first) here one_more (inl is) open_is)

    pub so_far_open : (found : Option ℕ) → HasVerdict limit pivots m own.Open here → IsSoFar limit pivots m parts k found → IsSoFar limit pivots m parts (k + 1) (option_or found (Some k))
    so_far_open None is all = (below, record { before = take k parts; after = []; order = one_more; earlier = all; stays = is; later = tt })
    so_far_open (Some first) is (inside, open_is) = (inside, longer (take k parts) (take (k + 1) parts) (part_at parts first) here one_more (inr is) open_is)

    none_before : (found : Option ℕ) → IsSoFar limit pivots m parts k found → AllByRecursion YesOrOpenPart (take k parts)
    none_before None all = all_weaker YesPart YesOrOpenPart (λ x is. inl is) (take k parts) all
    none_before (Some first) (inside, open_is) = subst (AllByRecursion YesOrOpenPart) (sym open_is.order)
        (all-append YesOrOpenPart open_is.before (part_at parts first ∷ open_is.after) (all_weaker YesPart YesOrOpenPart (λ x is. inl is) open_is.before open_is.earlier)
        (inr open_is.stays, open_is.later))

    pub so_far_no : (found : Option ℕ) (fault : LineSet) → IsPartVerdict limit pivots (part m here) (own.No fault) → IsSoFar limit pivots m parts k found
        → IsFirstNo limit pivots m parts (set_in here fault)
    so_far_no found fault is so_far = record {
      before = take k parts;
      lines = here;
      after = drop (suc k) parts;
      order = sym (take-append-drop k parts) ∙ ap (λ (xs : List LineSet). take k parts ++ xs) (drop-cons parts k no_lines below);
      earlier = none_before found so_far;
      own_fault = fault;
      refuted = is;
      fault_is = refl;
    }

  pub all_yes : (k : ℕ) → length parts ≤ k → IsSoFar limit pivots m parts k None → AllByRecursion YesPart parts
  all_yes k last all = subst (AllByRecursion YesPart) (take_all k parts last) all

  pub one_open : (k first : ℕ) → length parts ≤ k → IsSoFar limit pivots m parts k (Some first) → IsFirstOpen limit pivots m parts (part_at parts first)
  one_open k first last (inside, open_is) = subst (λ (xs : List LineSet). IsFirstOpen limit pivots m xs (part_at parts first)) (take_all k parts last) open_is
