-- The lines of a part among the first marks.
use Rattle.std.proofs.Common.{◌≡◌, ◌≢◌, ◌<◌, ◌+◌, ◌++◌, ◌∙◌, cond, filter, nat_eq, take, ℕ, Bool, true, false, List, [], ◌∷◌, length, get_or, ap, subst, arith}
use Rattle.std.proofs.lemmas.List.{append-nil, get_or_default, length-take}
use Rattle.std.proofs.lemmas.List.Elements.{filter-append}
use Rattle.std.specs.List.{Contains}
use Rattle.cmr_base.proofs.Booleans.{is_eq, is_ne}
use Rattle.ghouila.specs.Found.{marked}
use Rattle.ghouila.proofs.Marks.{marked_there, unmarked_there}
use Rattle.sparse_matrix.specs.LineMarks.{is_marked}
use Rattle.sparse_matrix.proofs.MarkedLines.{mark_inside}
use Rattle.part_numbers.specs.PartNumbering.{lines_of_part, part_number}
use Rattle.part_numbers.proofs.NumberedParts.{line_is}

part_inside : (marks : List Bool) (numbers : List ℕ) (part k : ℕ) → k < length (lines_of_part marks numbers part) → get_or (lines_of_part marks numbers part) k 0 < length marks
part_inside marks numbers part k l =
    let lines = lines_of_part marks numbers part in
    let here : Contains lines (get_or lines k 0) = (k, l, get_or_default lines k (get_or lines k 0) 0 l) in
    mark_inside marks (get_or lines k 0) (line_is marks numbers part (get_or lines k 0) here).0

pub part_below : (marks : List Bool) (numbers : List ℕ) (part line : ℕ) (lines : List ℕ) → lines ≡ lines_of_part (take line marks) numbers part → (k : ℕ) → k < length lines → get_or lines k 0 < line
part_below marks numbers part line lines e k l =
    let inside = part_inside (take line marks) numbers part k (subst (λ (xs : List ℕ). k < length xs) e l) in
    let same : get_or lines k 0 ≡ get_or (lines_of_part (take line marks) numbers part) k 0 = ap (λ (xs : List ℕ). get_or xs k 0) e in
    let long = length-take line marks in
    omega (arith, inside, same, long)

module _ (marks : List Bool) (numbers : List ℕ) (part k : ℕ) (l : k < length marks) where
  abbrev in_part : ℕ → Bool
  in_part line = nat_eq (part_number numbers line) part

  abbrev before : List ℕ
  before = lines_of_part (take k marks) numbers part

  one_more : is_marked marks k ≡ true → lines_of_part (take (k + 1) marks) numbers part ≡ before ++ cond (in_part k) (k ∷ []) []
  one_more h = ap (filter in_part) (marked_there marks k l h) ∙ filter-append in_part (marked (take k marks)) (k ∷ [])

  pub part_with : is_marked marks k ≡ true → part_number numbers k ≡ part → lines_of_part (take (k + 1) marks) numbers part ≡ before ++ k ∷ []
  part_with h e = one_more h ∙ ap (λ (b : Bool). before ++ cond b (k ∷ []) []) (is_eq (part_number numbers k) part e)

  pub part_other : is_marked marks k ≡ true → part_number numbers k ≢ part → lines_of_part (take (k + 1) marks) numbers part ≡ before
  part_other h n = one_more h ∙ ap (λ (b : Bool). before ++ cond b (k ∷ []) []) (is_ne (part_number numbers k) part n) ∙ append-nil before

  pub part_unmarked : is_marked marks k ≡ false → lines_of_part (take (k + 1) marks) numbers part ≡ before
  part_unmarked h = ap (filter in_part) (unmarked_there marks k l h)
