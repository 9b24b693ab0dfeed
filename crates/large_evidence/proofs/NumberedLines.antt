-- The lines of a part by its number.
use Rattle.std.proofs.Common.{◌≡◌, ◌<◌, ◌+◌, ◌∙◌, ap, subst, sym, inl, inr, ℕ, List, length, get_or, arith}
use Rattle.std.proofs.lemmas.Bool.{cases_lt}
use Rattle.std.proofs.lemmas.List.{get_or-map}
use Rattle.cmr_base.specs.Components.{no_lines}
use Rattle.large_evidence.specs.declared.evidence.PartEvidence.{PartEvidence}
use Rattle.large_evidence.specs.declared.numbering.Side.{Side}
use Rattle.large_evidence.specs.LineDivisions.{lines_at, lines_of_side}

pub lines_there : (side : Side) (parts : List PartEvidence) (number : ℕ) (part : PartEvidence) (lines : List ℕ) → number < length parts → part ≡ get_or parts number part
    → lines ≡ lines_of_side side part.lines → lines ≡ lines_at side parts number
lines_there side parts number part lines l is e =
    e ∙ ap (λ (part : PartEvidence). lines_of_side side part.lines) is ∙ ap (lines_of_side side) (sym (get_or-map (λ part. part.lines) parts number part no_lines l))

pub one_more : (P : ℕ → Type 0) (count : ℕ) → P count → ((part : ℕ) → part < count → P part) → (part : ℕ) → part < count + 1 → P part
one_more P count here before part l = elim (cases_lt part count) [
  | inl below ↦ before part below
  | inr above ↦ subst P (let same : count ≡ part = omega (arith, l, above) in same) here
]
