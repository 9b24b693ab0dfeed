-- The walk over joined rows, with its state in lists.
use Rattle.std.proofs.Common.{ℕ, ◌+◌, Bool, true, not, List, ◌≡◌, ◌≢◌, ◌<◌, ◌∙◌, ◌&&◌, ◌||◌, ap, arith, ◌⊎◌, inl, inr, length, get_or, set, Option, Some, None}
use Rattle.std.proofs.lemmas.List.{get_or-set_same, get_or-set_other}
use Rattle.std.specs.List.Sorted.{IsStrictlyIncreasing}
use Rattle.cmr_base.specs.Matrix.{Matrix, height}
use Rattle.cmr_base.specs.Members.{IsIn}
use Rattle.cmr_base.specs.Trees.{support}
use Rattle.cmr_base.proofs.Places.{more_placed}
use Rattle.cmr_base.specs.ColumnSets.{has_column}
use Rattle.bridge_split.specs.PartNumbers.{number_at, HasPartRoom, IsWalkAt, KeepsParts, IsLeft, IsTouched, IsBetween, ArePassedRows, IsMeeting, IsWalkingFrom}
use Rattle.bridge_split.specs.declared.part_walk.PartWalk.{PartWalk}
use Rattle.bridge_split.proofs.PartWalks.{kept, meets, one_less_left, starts}

module _ (m : Matrix) (S : List ℕ) (i number x : ℕ) (from to : PartWalk) (hx : IsIn x S) (low : x < height m) (left : IsLeft i (number_at from.part.items) x)
    (room : HasPartRoom m from) (set_is : to.part.items ≡ set from.part.items x (Some number)) where
  now : number_at to.part.items x ≡ Some number
  now = ap (λ (v : List (Option ℕ)). number_at v x) set_is ∙ get_or-set_same from.part.items x (Some number) None (let e = room.numbers in omega arith)

  same : (z : ℕ) → z ≢ x → number_at to.part.items z ≡ number_at from.part.items z
  same z n = ap (λ (v : List (Option ℕ)). number_at v z) set_is ∙ get_or-set_other from.part.items x z (Some number) None n

  pub meets_one : (before : PartWalk) (met place : ℕ) → IsMeeting m S i number before from met place → IsWalkAt m i to → (column : ℕ)
      → has_column from.reached.words column ≡ true → support m x column ≡ true
      → ((c : ℕ) → has_column to.reached.words c ≡ (has_column from.reached.words c || (support m x c && not (support m i c)))) → IsMeeting m S i number before to (met + 1) (place + 1)
  meets_one before met place w room' column here meet more = record {
    room = room';
    walk = meets (support m) S i (number_at from.part.items) number x (number_at to.part.items) hx left.0 left.1 now same (has_column from.reached.words) (has_column to.reached.words) w.walk column here meet more;
    keeps = λ k a e. kept (support m) S i (number_at from.part.items) number x (number_at to.part.items) hx left.0 left.1 now same k a (w.keeps k a e);
    fewer = let l = one_less_left (number_at from.part.items) (number_at to.part.items) (kept (support m) S i (number_at from.part.items) number x (number_at to.part.items) hx left.0 left.1 now same) S x number hx left.1 now in
        let f = w.fewer in omega arith;
    none = λ e. absurd (omega arith);
    few = let f = w.few in omega arith;
  }

  pub starts_from : (place : ℕ) → IsStrictlyIncreasing S → IsBetween (support m) S i (number_at from.part.items) number → place < length S
      → x ≡ get_or S place 0 → ArePassedRows (support m) S i (number_at from.part.items) place → number < 1000
      → IsWalkAt m i to → ((c : ℕ) → has_column to.reached.words c ≡ (support m x c && not (support m i c))) → IsWalkingFrom m S i number x from to 1
  starts_from place increases b inside at before few room' more = record {
    room = room';
    walk = starts (support m) S i (number_at from.part.items) number x (number_at to.part.items) hx left.0 left.1 now same (has_column to.reached.words) increases b place inside at before few more;
    keeps = kept (support m) S i (number_at from.part.items) number x (number_at to.part.items) hx left.0 left.1 now same;
    first_in = now;
    none = λ e. absurd (omega arith);
  }

-- a row that is not touched
pub passes_one : (m : Matrix) (S : List ℕ) (i number : ℕ) (before now : PartWalk) (met place : ℕ) → IsMeeting m S i number before now met place
    → ¬ (IsTouched (support m) i (number_at now.part.items) (has_column now.reached.words) (get_or S place 0)) → IsMeeting m S i number before now met (place + 1)
passes_one m S i number before now met place w free = record {
  room = w.room;
  walk = w.walk;
  keeps = w.keeps;
  fewer = w.fewer;
  none = λ e. more_placed (λ x. ¬ (IsTouched (support m) i (number_at now.part.items) (has_column now.reached.words) x)) S place (w.none e) free;
  few = let f = w.few in omega arith;
}

-- the walk has met the rows up to the next position
pub passed_more : (M : ℕ → ℕ → Bool) (S : List ℕ) (i place : ℕ) (part part' : ℕ → Option ℕ) → ArePassedRows M S i part place → KeepsParts part part'
    → (get_or S place 0 ≡ i) ⊎ ((a : ℕ) × (part' (get_or S place 0) ≡ Some a))
    → ArePassedRows M S i part' (place + 1)
passed_more M S i place part part' before keeps here = record {
  passed = more_placed (λ x. (x ≡ i) ⊎ ((a : ℕ) × (part' x ≡ Some a))) S place (λ p l. elim (before.passed p l) [ inl e ↦ inl e | inr f ↦ inr (f.0, keeps (get_or S p 0) f.0 f.1) ]) here;
}
