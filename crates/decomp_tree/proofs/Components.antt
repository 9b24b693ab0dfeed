-- A matrix has one list of connected parts.
use Rattle.std.proofs.Common.{◌≡◌, ◌<◌, ◌⊎◌, ◌∙◌, ◌&&◌, inl, inr, ℕ, zero, suc, Bool, true, false, List, [], ◌∷◌, length, refl, ap, sym, arith}
use Rattle.std.proofs.lemmas.Bool.{and_parts}
use Rattle.cmr_base.specs.declared.line.Line.{Line}
use Rattle.cmr_base.specs.declared.line.Line.TheVariants.{Row, Column}
use Rattle.cmr_base.specs.declared.line_set.LineSet.{LineSet}
use Rattle.cmr_base.specs.Matrix.{Matrix, height, entry}
use Rattle.cmr_base.specs.Separations.{Lines}
use Rattle.cmr_base.specs.Seeds.{IsLine}
use Rattle.cmr_base.specs.Components.{IsApart, IsComponent, AreComponents, part_at, first_number}
use Rattle.cmr_base.proofs.Booleans.{is_and}
use Rattle.cmr_base.proofs.ListedLines.{listed_from_has_line}
use Rattle.separating_places.proofs.SameSets.{HasAllOf, lines_in, same_sets}

-- parts with a line of both are one
module _ (m : Matrix) (some others : Lines) where
  abbrev one : Lines
  one line = some line && others line

  not_both : (a b : Bool) → (a && b) ≡ false → (a ≡ false) ⊎ (b ≡ false)
  not_both false b e = inl refl
  not_both true b e = inr e

  both_apart : IsApart (height m) m.width (entry m) some → IsApart (height m) m.width (entry m) others → IsApart (height m) m.width (entry m) one
  both_apart a b = record {
    upper = λ r c h k x y.
        let p = and_parts (some (Row r)) (others (Row r)) x in
        elim (not_both (some (Column c)) (others (Column c)) y) [ inl e ↦ a.upper r c h k p.0 e | inr e ↦ b.upper r c h k p.1 e ];
    lower = λ r c h k x y.
        let p = and_parts (some (Column c)) (others (Column c)) y in
        elim (not_both (some (Row r)) (others (Row r)) x) [ inl e ↦ a.lower r c h k e p.0 | inr e ↦ b.lower r c h k e p.1 ];
  }

  shared : IsComponent (height m) m.width (entry m) some → IsComponent (height m) m.width (entry m) others → (line : Line) → IsLine (height m) m.width line
      → some line ≡ true → others line ≡ true → HasAllOf m some others
  shared a b line is x y = λ other is' h.
      let both_have = a.least one (both_apart a.apart b.apart) (line, is, is_and (some line) (others line) x y) (λ l k e. (and_parts (some l) (others l) e).0) other is' h in
      (and_parts (some other) (others other) both_have).1

-- lists of parts by increasing numbers, each of which is in the other list
module _ (key : LineSet → ℕ) where
  abbrev IsOrdered : List LineSet → Type 0
  IsOrdered parts = (a b : ℕ) → a < b → b < length parts → key (part_at parts a) < key (part_at parts b)

  abbrev AreIn : List LineSet → List LineSet → Type 0
  AreIn parts others = (a : ℕ) → a < length parts → (b : ℕ) × (b < length others) × (part_at parts a ≡ part_at others b)

  ordered_tail : (p : LineSet) (parts : List LineSet) → IsOrdered (p ∷ parts) → IsOrdered parts
  ordered_tail p parts is a b l k = is (suc a) (suc b) (omega arith) (omega arith)

  head_same : (p q : LineSet) (parts others : List LineSet) → IsOrdered (p ∷ parts) → IsOrdered (q ∷ others) → AreIn (p ∷ parts) (q ∷ others) → AreIn (q ∷ others) (p ∷ parts) → p ≡ q
  head_same p q parts others is is' up down = go (up 0 (omega arith)) (down 0 (omega arith))
    where
      go : (b : ℕ) × (b < length (q ∷ others)) × (p ≡ part_at (q ∷ others) b) → (a : ℕ) × (a < length (p ∷ parts)) × (q ≡ part_at (p ∷ parts) a) → p ≡ q
      go (zero, l, e) y = e
      go (suc b, l, e) (zero, k, f) = sym f
      go (suc b, l, e) (suc a, k, f) =
          let x : key q < key (part_at others b) = is' 0 (suc b) (omega arith) l in
          let y : key p < key (part_at parts a) = is 0 (suc a) (omega arith) k in
          let g : key p ≡ key (part_at others b) = ap key e in
          let h : key q ≡ key (part_at parts a) = ap key f in
          absurd (omega arith)

  tail_in : (p q : LineSet) (parts others : List LineSet) → p ≡ q → IsOrdered (p ∷ parts) → AreIn (p ∷ parts) (q ∷ others) → AreIn parts others
  tail_in p q parts others same is up a l = go (up (suc a) (omega arith))
    where
      go : (b : ℕ) × (b < length (q ∷ others)) × (part_at parts a ≡ part_at (q ∷ others) b) → (b : ℕ) × (b < length others) × (part_at parts a ≡ part_at others b)
      go (zero, k, e) =
          let x : key p < key (part_at parts a) = is 0 (suc a) (omega arith) (omega arith) in
          let g : key (part_at parts a) ≡ key q = ap key e in
          let h : key p ≡ key q = ap key same in
          absurd (omega arith)
      go (suc b, k, e) = (b, omega (arith, k), e)

  same_lists : (parts others : List LineSet) → IsOrdered parts → IsOrdered others → AreIn parts others → AreIn others parts → parts ≡ others
  same_lists [] [] is is' up down = refl
  same_lists [] (q ∷ others) is is' up down = absurd (let d = down 0 (omega arith) in omega (arith, d.1))
  same_lists (p ∷ parts) [] is is' up down = absurd (let d = up 0 (omega arith) in omega (arith, d.1))
  same_lists (p ∷ parts) (q ∷ others) is is' up down =
      let first = head_same p q parts others is is' up down in
      ap (λ (x : LineSet). x ∷ parts) first
      ∙ ap (λ (xs : List LineSet). q ∷ xs)
      (same_lists parts others (ordered_tail p parts is) (ordered_tail q others is') (tail_in p q parts others first is up) (tail_in q p others parts (sym first) is' down))

component_in : (m : Matrix) (parts others : List LineSet) → AreComponents m parts → AreComponents m others → (a : ℕ) → a < length parts
    → (b : ℕ) × (b < length others) × (part_at parts a ≡ part_at others b)
component_in m parts others x y a l =
    let one = x.components a l in
    let some = one.some in
    let found = y.all some.0 some.1 in
    let b = found.0 in
    let other = y.components b found.1 in
    let listed_there = listed_from_has_line (part_at others b).rows (part_at others b).columns some.0 found.2 in (
      b,
      found.1,
      same_sets m (part_at parts a) (part_at others b) (record { rows = x.row_sets a l; columns = x.column_sets a l }) (record { rows = y.row_sets b found.1; columns = y.column_sets b found.1 })
          (shared m (lines_in (part_at parts a)) (lines_in (part_at others b)) one other some.0 some.1 some.2 listed_there)
          (shared m (lines_in (part_at others b)) (lines_in (part_at parts a)) other one some.0 some.1 listed_there some.2),
    )

pub one_components : (m : Matrix) (parts others : List LineSet) → AreComponents m parts → AreComponents m others → parts ≡ others
one_components m parts others x y = same_lists (first_number (height m)) parts others x.ordered y.ordered (component_in m parts others x y) (component_in m others parts y x)
