-- A run is read up to a nonzero that remains.
use Rattle.std.proofs.Common.{◌≡◌, ◌≢◌, ◌<◌, ◌+◌, ◌∙◌, ℕ, pos, Bool, if◌then◌else◌, List, ◌∷◌, length, get_or, drop, refl, ap, sym, subst, add-one}
use Rattle.std.specs.List.{AllByRecursion}
use Rattle.std.proofs.Math.Seq.{drop-cons}
use Rattle.cmr_base.proofs.Booleans.{is_eq, is_ne}
use Rattle.cmr_base.proofs.Lists.{all_at}
use Rattle.cmr_base.proofs.SignEntries.{sign_nonzero}
use Rattle.sparse_matrix.specs.declared.nonzero.Nonzero.{Nonzero}
use Rattle.sparse_matrix.specs.SparseRows.{value_in, IsNonzeroWithin}
use Rattle.sparse_matrix.proofs.MarkedLines.{no_nonzero}

-- the values in these crossing lines are not before a place
abbrev pub SkipsTo : (ℕ → Type 0) → List Nonzero → ℕ → Type 0
SkipsTo P run place = (k : ℕ) → P k → value_in run k ≡ value_in (drop place run) k

module _ (P : ℕ → Type 0) (run : List Nonzero) (place : ℕ) (below : place < length run) (skips : SkipsTo P run place) where
  abbrev here : Nonzero
  here = get_or run place no_nonzero

  split : drop place run ≡ here ∷ drop (place + 1) run
  split = drop-cons run place no_nonzero below ∙ ap (λ (n : ℕ). here ∷ drop n run) (sym (add-one place))

  pub skips_more : ¬ P here.line → SkipsTo P run (place + 1)
  skips_more not_here k p = skips k p ∙ ap (λ (xs : List Nonzero). value_in xs k) split
      ∙ ap (λ (b : Bool). if b then here.value else value_in (drop (place + 1) run) k) (is_ne here.line k (λ e. not_here (subst P (sym e) p)))

  pub nonzero_here : (width : ℕ) → AllByRecursion (IsNonzeroWithin width) run → P here.line → value_in run here.line ≢ pos 0
  nonzero_here width within p e = sign_nonzero here.value (all_at (IsNonzeroWithin width) run place no_nonzero within below).sign
      (sym (skips here.line p ∙ ap (λ (xs : List Nonzero). value_in xs here.line) split
      ∙ ap (λ (b : Bool). if b then here.value else value_in (drop (place + 1) run) here.line) (is_eq here.line here.line refl)) ∙ e)
