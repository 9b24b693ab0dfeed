-- Lists that grow at their end.
use Rattle.std.proofs.Common.{ℕ, List, [], ◌∷◌, ◌++◌, ◌∙◌, sym, refl, arith, subst, inl, inr}
use Rattle.std.proofs.lemmas.List.{get_or_append_left}
use Rattle.cmr_base.specs.Members.{IsIn, IsDistinct}
use Rattle.cmr_base.proofs.ListsWithout.{place_of, IsPlaceOf, place_is}
use Rattle.cmr_base.proofs.Members.{in-append, in_at}
use Rattle.cmr_base.proofs.Lists.{length-more}
use Rattle.bridge_split.specs.Forests.{Extends}

pub once-append : (xs : List ℕ) (x : ℕ) → IsDistinct xs → ¬ (IsIn x xs) → IsDistinct (xs ++ x ∷ [])
once-append [] x h n = ((λ g. g), tt)
once-append (y ∷ ys) x h n = (
  (λ g. elim ((in-append ys x y).0 g) [ inl k ↦ h.0 k | inr e ↦ n (inl (sym e)) ]),
  once-append ys x h.1 (λ g. n (inr g)),
)

pub extends_none : (met : List ℕ) → Extends met met
extends_none met = record { longer = omega arith; same = λ p l. refl }

pub extends_more : (met met' met2 : List ℕ) → Extends met met' → Extends met' met2 → Extends met met2
extends_more met met' met2 a b = record {
  longer = let k = a.longer in let l = b.longer in omega arith;
  same = λ p l. b.same p (let k = a.longer in omega arith) ∙ a.same p l;
}

pub extends_one : (met : List ℕ) (x : ℕ) → Extends met (met ++ x ∷ [])
extends_one met x = record {
  longer = let e = length-more met x in omega arith;
  same = λ p l. get_or_append_left met (x ∷ []) 0 p l;
}

pub in_longer : (met met' : List ℕ) (x : ℕ) → Extends met met' → IsIn x met → IsIn x met'
in_longer met met' x extends h = go (place_is x met h)
  where
    go : IsPlaceOf x met (place_of x met) → IsIn x met'
    go p = subst (λ (v : ℕ). IsIn v met') (extends.same (place_of x met) p.in_range ∙ p.there) (in_at met' (place_of x met) (let a = extends.longer in let b = p.in_range in omega arith))
