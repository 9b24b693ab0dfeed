use Rattle.std.proofs.Common.{◌≡◌, ◌<◌, ◌≤◌, ℕ, true, false, MatchOption, Option, Some, None, subst}
use Rattle.cmr_base.specs.Matrix.{Matrix}
use Rattle.cmr_base.specs.Trees.{support}
use Rattle.three_sep.proofs.concentrated.next_nonzero.Goals as goal

-- a weaker form of the result of `next_nonzero`
less : (A : Type 0) (P Q : A → Type 0) (N : Type 0) (o : Option A) → ((x : A) → P x → Q x) → MatchOption o N P → MatchOption o N Q
less A P Q N (Some x) f h = f x h
less A P Q N None f h = h

pub returns-clause-first : goal.returns-clause-first
returns-clause-first c = less ℕ _ _ _ c.next_nonzero.result (λ x w. (w.0, w.1, w.3))
    (subst (λ (n : Matrix). MatchOption c.next_nonzero.result ((column : ℕ) → c.args.from ≤ column → support n c.args.row column ≡ false)
    (λ next. (c.args.from ≤ next) × (next < n.width) × (support n c.args.row next ≡ true) × ((column : ℕ) → c.args.from ≤ column → column < next → support n c.args.row column ≡ false)))
    c.by_rows.ensures.matrix c.next_nonzero.ensures.first)
