-- The members of a list of marked positions.
use Rattle.std.proofs.Common.{◌≡◌, ◌≢◌, ◌<◌, ◌+◌, ◌∙◌, inl, inr, ℕ, zero, suc, Bool, true, false, List, [], ◌∷◌, length, get_or, set, refl, sym, subst, arith}
use Rattle.std.specs.Prelude.{◌↔◌}
use Rattle.std.proofs.lemmas.Bool.{false≢true, cases_eq}
use Rattle.std.proofs.lemmas.List.{get_or-set_same, get_or-set_other, length-set, length-replicate}
use Rattle.std.specs.Prelude.{replicate}
use Rattle.cmr_base.specs.Members.{IsIn}
use Rattle.ghouila.specs.Found.{marked_from, marked}

pub iff_then : {A B C : Type 0} → A ↔ B → B ↔ C → A ↔ C
iff_then f g = (λ a. g.0 (f.0 a), λ c. f.1 (g.1 c))

in_marked_from : (first : ℕ) (marks : List Bool) (k n : ℕ) → n ≡ first + k → get_or marks k false ≡ true → IsIn n (marked_from first marks)
in_marked_from first [] k n e is = absurd (false≢true is)
in_marked_from first (true ∷ marks) zero n e is = inl (omega arith)
in_marked_from first (false ∷ marks) zero n e is = absurd (false≢true is)
in_marked_from first (true ∷ marks) (suc k) n e is = inr (in_marked_from (first + 1) marks k n (omega arith) is)
in_marked_from first (false ∷ marks) (suc k) n e is = in_marked_from (first + 1) marks k n (omega arith) is

record IsMarkedAt (first : ℕ) (marks : List Bool) (n : ℕ) : Type 0 where
  place : ℕ
  number : n ≡ first + place
  mark : get_or marks place false ≡ true

marked_later : (first : ℕ) (x : Bool) (marks : List Bool) (n : ℕ) → IsMarkedAt (first + 1) marks n → IsMarkedAt first (x ∷ marks) n
marked_later first x marks n p = record { place = suc p.place; number = let e = p.number in omega arith; mark = p.mark }

place_marked : (first : ℕ) (marks : List Bool) (n : ℕ) → IsIn n (marked_from first marks) → IsMarkedAt first marks n
place_marked first [] n h = absurd h
place_marked first (true ∷ marks) n (inl e) = record { place = zero; number = omega arith; mark = refl }
place_marked first (true ∷ marks) n (inr h) = marked_later first true marks n (place_marked (first + 1) marks n h)
place_marked first (false ∷ marks) n h = marked_later first false marks n (place_marked (first + 1) marks n h)

pub in_marked : (marks : List Bool) (n : ℕ) → IsIn n (marked marks) ↔ (get_or marks n false ≡ true)
in_marked marks n = (
  λ h. let p = place_marked 0 marks n h in let e = p.number in subst (λ k. get_or marks k false ≡ true) (let same : p.place ≡ n = omega arith in same) p.mark,
  λ is. in_marked_from 0 marks n n (omega arith) is,
)

pub in_set_other : (marks : List Bool) (k n : ℕ) (mark : Bool) → n ≢ k → IsIn n (marked (set marks k mark)) ↔ IsIn n (marked marks)
in_set_other marks k n mark apart =
    let same : get_or (set marks k mark) n false ≡ get_or marks n false = get_or-set_other marks k n mark false apart in (
      λ h. (in_marked marks n).1 (sym same ∙ (in_marked (set marks k mark) n).0 h),
      λ h. (in_marked (set marks k mark) n).1 (same ∙ (in_marked marks n).0 h),
    )

pub in_set_same : (marks : List Bool) (k : ℕ) (mark : Bool) → k < length marks → IsIn k (marked (set marks k mark)) ↔ (mark ≡ true)
in_set_same marks k mark inside =
    let same : get_or (set marks k mark) k false ≡ mark = get_or-set_same marks k mark false inside in (
      λ h. sym same ∙ (in_marked (set marks k mark) k).0 h,
      λ e. (in_marked (set marks k mark) k).1 (same ∙ e),
    )

-- two marks in a list without marks
pub in_two_marks : (size first second : ℕ) → first < size → second < size → (n : ℕ) → IsIn n (marked (set (set (replicate size false) first true) second true)) ↔ IsIn n (first ∷ second ∷ [])
in_two_marks size first second first_in second_in n = (to, from)
  where
    to : IsIn n (marked (set (set (replicate size false) first true) second true)) → IsIn n (first ∷ second ∷ [])
    to h = elim (cases_eq n second) [
      | inl e ↦ inr (inl e)
      | inr other ↦ elim (cases_eq n first) [
        | inl e ↦ inl e
        | inr apart ↦ absurd (none n ((in_set_other (replicate size false) first n true apart).0 ((in_set_other (set (replicate size false) first true) second n true other).0 h)))
      ]
    ]
      where
        blank : (size n : ℕ) → get_or (replicate size false) n false ≡ false
        blank zero n = refl
        blank (suc size) zero = refl
        blank (suc size) (suc n) = blank size n

        none : (n : ℕ) → IsIn n (marked (replicate size false)) → ⊥
        none n g = false≢true (sym (blank size n) ∙ (in_marked (replicate size false) n).0 g)

    first_there : IsIn first (marked (set (set (replicate size false) first true) second true))
    first_there = elim (cases_eq first second) [
      | inl e ↦ subst (λ k. IsIn k (marked (set (set (replicate size false) first true) second true))) (sym e) ((in_set_same (set (replicate size false) first true) second true (omega (arith, length-set (replicate size false) first true, length-replicate size false))).1 refl)
      | inr other ↦ (in_set_other (set (replicate size false) first true) second first true other).1 ((in_set_same (replicate size false) first true (omega (arith, length-replicate size false))).1 refl)
    ]

    from : IsIn n (first ∷ second ∷ []) → IsIn n (marked (set (set (replicate size false) first true) second true))
    from (inl e) = subst (λ k. IsIn k (marked (set (set (replicate size false) first true) second true))) (sym e) first_there
    from (inr (inl e)) = subst (λ k. IsIn k (marked (set (set (replicate size false) first true) second true))) (sym e)
        ((in_set_same (set (replicate size false) first true) second true (omega (arith, length-set (replicate size false) first true, length-replicate size false))).1 refl)
    from (inr (inr h)) = absurd h
