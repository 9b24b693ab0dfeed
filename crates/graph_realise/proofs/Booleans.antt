-- Booleans that differ, and equations rewritten by other equations.
use Rattle.std.proofs.Common.{Bool, true, false, not, ◌≡◌, ◌∙◌, sym, ap, refl, ◌⊎◌, inl, inr}
use Rattle.cmr_base.specs.Cuts.{differ}
use Rattle.cmr_base.proofs.Booleans.{not_not}
use Rattle.cmr_base.proofs.CutTrees.{differ_self}
use Rattle.cmr_base.proofs.RowLists.{differ_true}

pub differ_swap : (a b : Bool) → differ a b ≡ differ b a
differ_swap true true = refl
differ_swap true false = refl
differ_swap false true = refl
differ_swap false false = refl

pub differ_same : (a b : Bool) → a ≡ b → differ a b ≡ false
differ_same a b e = ap (differ a) (sym e) ∙ differ_self a

pub differ_other : (a b : Bool) → a ≡ not b → differ a b ≡ true
differ_other true true e = cc
differ_other true false e = refl
differ_other false true e = refl
differ_other false false e = cc

pub other_of : (a b : Bool) → true ≡ differ a b → a ≡ not b
other_of a b e = differ_true b a (e ∙ differ_swap a b)

pub not_swap : (a b : Bool) → a ≡ not b → b ≡ not a
not_swap a b e = sym (not_not b) ∙ ap not (sym e)

pub swap : {A B : Type 0} → A ⊎ B → B ⊎ A
swap (inl a) = inr a
swap (inr b) = inl b

-- one of two equations, rewritten by equalities
pub either : (x x' y y' z z' w w' : Bool) → x ≡ x' → y ≡ y' → z ≡ z' → w ≡ w' → (x' ≡ y') ⊎ (z' ≡ w') → (x ≡ y) ⊎ (z ≡ w)
either x x' y y' z z' w w' a b c d (inl e) = inl (a ∙ e ∙ sym b)
either x x' y y' z z' w w' a b c d (inr e) = inr (c ∙ e ∙ sym d)

-- one of two bits is false, with the equations reversed
pub either_sym : (x y : Bool) → (x ≡ false) ⊎ (y ≡ false) → (false ≡ x) ⊎ (false ≡ y)
either_sym x y (inl a) = inl (sym a)
either_sym x y (inr a) = inr (sym a)
