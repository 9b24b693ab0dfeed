-- All first cuts of a matrix have the same lines.
use Rattle.std.proofs.Common.{◌≡◌, ◌∙◌, inl, inr, ℕ, List, [], ◌∷◌, length, refl, ap, sym, subst, arith}
use Rattle.cmr_base.specs.declared.line.Line.{Line}
use Rattle.cmr_base.specs.Matrix.{Matrix, height}
use Rattle.cmr_base.specs.Separations.{Lines}
use Rattle.cmr_base.specs.Seeds.{IsBefore, IsLine, line_number}
use Rattle.cmr_base.proofs.Booleans.{neither, same_test}
use Rattle.three_sep.specs.FirstCuts.{CutSeed, IsFirstCut, IsGoodCut, cut_key}
use Rattle.three_sep.specs.Searches.{BeginsWith}
use Rattle.three_sep.proofs.CutSeedLemmas.{cut_seed_at, cut_seed_from_fourth}

-- keys of one length, neither of which is before the other, are equal
pub same_keys : (xs ys : List ℕ) → length xs ≡ length ys → ¬ (IsBefore xs ys) → ¬ (IsBefore ys xs) → xs ≡ ys
same_keys [] [] e a b = refl
same_keys [] (y ∷ ys) e a b = absurd (omega arith)
same_keys (x ∷ xs) [] e a b = absurd (omega arith)
same_keys (x ∷ xs) (y ∷ ys) e a b =
    let first : x ≡ y = neither x y (λ l. a (inl l)) (λ l. b (inl l)) in
    ap (λ (n : ℕ). n ∷ xs) first ∙ ap (λ (ns : List ℕ). y ∷ ns) (same_keys xs ys (omega arith) (λ h. a (inr (first, h))) (λ h. b (inr (sym first, h))))

module _ (m : Matrix) (S T : Lines) (one : IsFirstCut m S) (other : IsFirstCut m T) where
  keys : cut_key m one.seed ≡ cut_key m other.seed
  keys = same_keys (cut_key m one.seed) (cut_key m other.seed) refl (other.earliest one.seed S one.good) (one.earliest other.seed T other.good)

  begins : BeginsWith (cut_key m one.seed) (cut_key m other.seed)
  begins = subst (λ (key : List ℕ). BeginsWith (cut_key m one.seed) key) keys (refl, (refl, (refl, (refl, (refl, (refl, tt))))))

  seeds : other.seed ≡ cut_seed_at one.seed.corners one.seed.third one.seed.fourth
  seeds = cut_seed_from_fourth m one.seed.corners (line_number (height m) one.seed.third) (line_number (height m) one.seed.fourth) one.seed.third one.seed.fourth other.seed
      one.good.third one.good.good.line other.good.third other.good.good.line refl refl begins

  good : IsGoodCut m (cut_seed_at one.seed.corners one.seed.third one.seed.fourth) T
  good = subst (λ (seed : CutSeed). IsGoodCut m seed T) seeds other.good

  pub first_cuts_agree : (x : Line) → IsLine (height m) m.width x → S x ≡ T x
  first_cuts_agree x line =
      same_test (S x) (T x) (one.good.good.grown.least T good.good.grown.closed good.good.grown.has x line)
      (good.good.grown.least S one.good.good.grown.closed one.good.good.grown.has x line)
