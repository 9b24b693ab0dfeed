-- A matrix has connected parts, at least two of them if some lines, but not all, are apart from the others.
use Rattle.std.proofs.Common.{◌≡◌, ◌<◌, ◌≤◌, ◌+◌, ◌-◌, ◌||◌, inl, inr, filter, ℕ, zero, suc, true, false, List, [], ◌∷◌, ◌++◌, length, refl, sym, ◌∙◌, subst, arith}
use Rattle.std.proofs.lemmas.Bool.{false≢true, cases_lt}
use Rattle.cmr_base.specs.declared.line.Line.{Line}
use Rattle.cmr_base.specs.declared.line.Line.TheVariants.{Row, Column}
use Rattle.cmr_base.specs.declared.line_set.LineSet.{LineSet}
use Rattle.cmr_base.specs.Components.{AreComponents, IsApart, IsLineOf, part_at}
use Rattle.cmr_base.specs.LineSets.{first_lines}
use Rattle.cmr_base.specs.Matrix.{Matrix, height, entry}
use Rattle.cmr_base.specs.Reductions.{HasLine}
use Rattle.cmr_base.specs.Seeds.{line_number}
use Rattle.cmr_base.specs.Separations.{Lines, listed, zeros}
use Rattle.cmr_base.proofs.GrownSets.{grown_exists}
use Rattle.cmr_base.proofs.ListedLines.{listed_from_has_line}
use Rattle.cmr_base.proofs.RowLists.{two_cases}
use Rattle.two_sep.specs.FoundParts.{ArePartsFound}
use Rattle.two_sep.proofs.PartSteps.{found_none, found_passes, found_more, found_all}

module _ (m : Matrix) where
  -- the parts of the lines with numbers below `number`
  record PartsBelow (number : ℕ) : Type 0 where
    parts : List LineSet
    seen : Lines
    are : ArePartsFound m parts seen number

  -- the line with a number
  line_with : (number : ℕ) → number < height m + m.width → (line : Line) × IsLineOf m line × (line_number (height m) line ≡ number)
  line_with number l = elim (cases_lt number (height m)) [
    | inl row ↦ (Row number, row, refl)
    | inr column ↦ (Column (number - height m), omega arith, omega arith)
  ]

  one_more : (number : ℕ) → number < height m + m.width → PartsBelow number → PartsBelow (number + 1)
  one_more number l found =
      let here = line_with number l in
      elim (two_cases (found.seen here.0)) [
        | inl old ↦ record { parts = found.parts; seen = found.seen; are = found_passes m found.parts found.seen number found.are here.0 here.1 here.2 old }
        | inr new ↦
            let grown = grown_exists (height m) m.width (entry m) zeros zeros (here.0 ∷ []) in
            let part : LineSet = record { rows = filter (λ r. grown.0 (Row r)) (first_lines (height m)); columns = filter (λ c. grown.0 (Column c)) (first_lines m.width) } in
            record {
              parts = found.parts ++ part ∷ [];
              seen = λ line. found.seen line || grown.0 line;
              are = found_more m found.parts found.seen number found.are here.0 here.1 here.2 new grown.0 grown.1 part refl refl (λ line. found.seen line || grown.0 line) (λ line. refl);
            }
      ]

  parts_below : (number : ℕ) → number ≤ height m + m.width → PartsBelow number
  parts_below zero l = record { parts = []; seen = λ line. false; are = found_none m (λ line. false) (λ line. refl) }
  parts_below (suc number) l = let e : number + 1 ≡ suc number = omega arith in subst PartsBelow e (one_more number (omega arith) (parts_below number (omega arith)))

  components_exist : (parts : List LineSet) × AreComponents m parts
  components_exist =
      let found = parts_below (height m + m.width) (omega arith) in
      (found.parts, found_all m found.parts found.seen (height m + m.width) found.are (omega arith))

  -- with one part only, each set of lines that is apart is empty or has all lines
  all_in_one : (parts : List LineSet) → AreComponents m parts → length parts < 2 → (S : Lines) → IsApart (height m) m.width (entry m) S → (x y : Line)
      → IsLineOf m x → IsLineOf m y → S x ≡ true → S y ≡ true
  all_in_one parts are one S apart x y x_is y_is x_in =
      (are.components 0 some).least S apart (x, x_is, x_in) (λ line is inside. in_first line is) y y_is (in_first y y_is)
    where
      some : 0 < length parts
      some = let a = are.all x x_is in let l = a.1 in omega arith

      in_first : (line : Line) → IsLineOf m line → listed (part_at parts 0).rows (part_at parts 0).columns line ≡ true
      in_first line is = go (are.all line is)
        where
          go : (a : ℕ) × (a < length parts) × HasLine (part_at parts a).rows (part_at parts a).columns line → listed (part_at parts 0).rows (part_at parts 0).columns line ≡ true
          go (a, l, has) = let first : a ≡ 0 = omega arith in listed_from_has_line (part_at parts 0).rows (part_at parts 0).columns line (subst (λ k. HasLine (part_at parts k).rows (part_at parts k).columns line) first has)

  -- a set that is apart, with a line in it and a line outside
  pub two_parts : (S : Lines) → IsApart (height m) m.width (entry m) S → (x y : Line) → IsLineOf m x → IsLineOf m y → S x ≡ true → S y ≡ false
      → (parts : List LineSet) × AreComponents m parts × (2 ≤ length parts)
  two_parts S apart x y x_is y_is x_in y_out =
      let found = components_exist in (
        found.0,
        found.1,
        elim (cases_lt (length found.0) 2) [
          | inr two ↦ two
          | inl one ↦ absurd (false≢true (sym y_out ∙ all_in_one found.0 found.1 one S apart x y x_is y_is x_in))
        ],
      )
