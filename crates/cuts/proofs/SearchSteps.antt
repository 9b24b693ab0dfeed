-- Searches by other searches.
use Rattle.std.proofs.Common.{Result, Ok, Err, IfOk, Bool, true, false, ◌≡◌, inl, inr, refl, sym, subst}
use Rattle.cmr_base.specs.declared.line.Line.{Line}
use Rattle.cmr_base.specs.Matrix.{Matrix}
use Rattle.cmr_base.specs.Separations.{Lines}
use Rattle.cmr_base.proofs.Booleans.{not_both, two_cases}
use Rattle.cmr_base.specs.declared.line_mask.LineMask.{LineMask}
use Rattle.cmr_base.specs.LineMasks.{as_set, IsMaskOf}
use Rattle.cmr_base.specs.Seeds.{IsLine}
use Rattle.cuts.specs.declared.sides.Side.{Side}
use Rattle.cuts.specs.Covers.{Covers}
use Rattle.cuts.specs.CutSearches.{HaveNumbers, HasMarked}
use Rattle.cuts.specs.CutSides.{HasNumbers}
use Rattle.cuts.proofs.CoverLemmas.{covers_more}
use Rattle.cuts.proofs.MatrixMasks.{line_in, line_of}

-- if the marked lines cover the second state, they cover the first
abbrev pub Leads : Matrix → (from_one from_two to_one to_two : Side) → Type 0
Leads m from_one from_two to_one to_two = (P : Lines) → Covers m (as_set from_one.lines) (as_set from_two.lines) P → Covers m (as_set to_one.lines) (as_set to_two.lines) P

-- no line needs to be marked, since the lines are covered
pub covered_at_once : (m : Matrix) (one two : Side) (separated : LineMask) → Covers m (as_set one.lines) (as_set two.lines) (as_set separated) → HasMarked m one two separated separated true
covered_at_once m one two separated covers = record { more = λ x l e. e; covers = λ e. covers }

-- a search of one state replaces the search of another
pub searched_as : {E : Type 0} (m : Matrix) (one two other_one other_two : Side) (before after : LineMask) (found : Result Bool E)
    → Leads m other_one other_two one two → IfOk found (HasMarked m other_one other_two before after)
    → IfOk found (HasMarked m one two before after)
searched_as m one two other_one other_two before after (Ok covered) leads h = record { more = h.more; covers = λ e. leads (as_set after) (h.covers e) }
searched_as m one two other_one other_two before after (Err e) leads h = h

-- two states are searched, one after the other
pub searched_both : {E : Type 0} (m : Matrix) (one two first_one first_two second_one second_two : Side) (before between after : LineMask) (covered : Bool) (found : Result Bool E)
    → ((P : Lines) → Covers m (as_set first_one.lines) (as_set first_two.lines) P → Covers m (as_set second_one.lines) (as_set second_two.lines) P → Covers m (as_set one.lines) (as_set two.lines) P)
    → covered ≡ true → HasMarked m first_one first_two before between covered → IfOk found (HasMarked m second_one second_two between after) → IfOk found (HasMarked m one two before after)
searched_both m one two first_one first_two second_one second_two before between after covered (Ok last) both is h1 h2 = record {
  more = λ x l e. h2.more x l (h1.more x l e);
  covers = λ e. both (as_set after) (covers_more m (as_set first_one.lines) (as_set first_two.lines) (as_set between) (as_set after) h2.more (h1.covers is)) (h2.covers e);
}
searched_both m one two first_one first_two second_one second_two before between after covered (Err e) both is h1 h2 = h2

-- no cut has a line in side one and in side two
pub covers_shared : (m : Matrix) (one two : Side) (P : Lines) → IsMaskOf m one.lines
    → (x : Line) × IsLine one.lines.rows.size one.lines.columns.size x × (as_set one.lines x ≡ true) × (as_set two.lines x ≡ true)
    → Covers m (as_set one.lines) (as_set two.lines) P
covers_shared m one two P is (x, lx, ex, tx) T w y l e = absurd (not_both (T x) (w.one x (line_of m one.lines x is lx) ex) (w.two x (line_of m one.lines x is lx) tx))

-- all lines are marked except the lines of side one
pub marked_rest : (m : Matrix) (one two : Side) (before after : LineMask) → IsMaskOf m before → ((x : Line) → as_set before x ≡ true → as_set after x ≡ true)
    → ((x : Line) → IsLine before.rows.size before.columns.size x → as_set one.lines x ≡ false → as_set after x ≡ true) → HasMarked m one two before after true
marked_rest m one two before after is more rest = record {
  more = λ x l e. more x e;
  covers = λ e T w x l f. elim (two_cases (as_set one.lines x)) [ inl t ↦ absurd (not_both (T x) (w.one x l t) f) | inr g ↦ rest x (line_in m before x is l) g ];
}

-- a search gives up if a search that it began gave up
pub gave_up : (m : Matrix) (one two other_one other_two : Side) (before after : LineMask) (covered : Bool)
    → HasMarked m other_one other_two before after covered → HasMarked m one two before after false
gave_up m one two other_one other_two before after covered h = record { more = h.more; covers = λ e. absurd (not_both false e refl) }

-- the same, if the search holds an equal matrix
pub marked_at : {E : Type 0} (m m' : Matrix) (one two : Side) (before after : LineMask) (found : Result Bool E) → m' ≡ m
    → IfOk found (HasMarked m' one two before after) → IfOk found (HasMarked m one two before after)
marked_at m m' one two before after found same h = subst (λ (z : Matrix). IfOk found (HasMarked z one two before after)) same h

pub numbered_at : (m m' : Matrix) (one two : Side) → m' ≡ m → HasNumbers m one → HasNumbers m two → HaveNumbers m' one two
numbered_at m m' one two same near far = subst (λ (z : Matrix). HaveNumbers z one two) (sym same) (record { near = near; far = far })
