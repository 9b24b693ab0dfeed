-- Two sides that cross, before and after a line of one of them is removed.
use Rattle.std.proofs.Common.{◌≡◌, ◌<◌, ◌∙◌, ℕ, Bool, List, length, get_or, Some, ap, sym, subst}
use Rattle.cmr_base.specs.declared.line.Reason.{Reason}
use Rattle.cmr_base.specs.Matrix.{Matrix, entry}
use Rattle.cmr_base.proofs.ListsWithout.{contains_from_in, in-get_or}
use Rattle.sp_reduce.specs.declared.kind.LineKind.{LineKind}
use Rattle.sp_reduce.specs.declared.kind.LineKind.TheVariants.{Rows, Columns}
use Rattle.sp_reduce.specs.declared.side.StayingLines.{StayingLines}
use Rattle.sp_reduce.specs.LineKinds.{other_kind, count_of_kind, reason_for}
use Rattle.sp_reduce.specs.StayingSides.{IsSide, IsAcross, AreNonzerosCounted, IsSettled}
use Rattle.sp_reduce.specs.Changes.{IsRemovedAt, WasRightBefore, ArePaired}
use Rattle.sp_reduce.proofs.KindLemmas.{other-other, size-other}
use Rattle.sp_reduce.proofs.SideLemmas.{side_marked, counted_marked}
use Rattle.sp_reduce.proofs.ChangeLemmas.{cut_without, cut_side, cut_counted, cut_settled}

pub paired_swapped : (binary : Bool) (m : Matrix) (own across : StayingLines) → ArePaired binary m own across → ArePaired binary m across own
paired_swapped binary m own across p = record {
  kinds = sym (other-other own.kind) ∙ ap other_kind (sym p.kinds);
  own_side = p.across_side;
  across_side = p.own_side;
  own_counted = p.across_counted;
  across_counted = p.own_counted;
  own_settled = p.across_settled;
  across_settled = p.own_settled;
}

pub across_of_paired : (binary : Bool) (m : Matrix) (own across : StayingLines) → ArePaired binary m own across → IsAcross m own.kind across.stays.items
across_of_paired binary m own across p = record {
  increasing = p.across_side.increasing;
  in_range = λ k h. subst (λ (n : ℕ). get_or across.stays.items k 0 < n) (ap (count_of_kind m) p.kinds ∙ size-other m own.kind) (p.across_side.in_range k h);
}

pub paired_new : (binary : Bool) (m : Matrix) (rows columns : StayingLines) (R C : List ℕ) → rows.kind ≡ Rows → columns.kind ≡ Columns → rows.stays.items ≡ R → columns.stays.items ≡ C
    → IsSide m rows → IsSide m columns → AreNonzerosCounted m rows C → AreNonzerosCounted m columns R → IsSettled binary m rows C → IsSettled binary m columns R → ArePaired binary m rows columns
paired_new binary m rows columns R C r c e f row_side column_side row_counted column_counted row_settled column_settled = record {
  kinds = c ∙ ap other_kind (sym r);
  own_side = row_side;
  across_side = column_side;
  own_counted = subst (λ (lines : List ℕ). AreNonzerosCounted m rows lines) (sym f) row_counted;
  across_counted = subst (λ (lines : List ℕ). AreNonzerosCounted m columns lines) (sym e) column_counted;
  own_settled = subst (λ (lines : List ℕ). IsSettled binary m rows lines) (sym f) row_settled;
  across_settled = subst (λ (lines : List ℕ). IsSettled binary m columns lines) (sym e) column_settled;
}

-- only the marks have changed
pub paired_marked : (binary : Bool) (m : Matrix) (own own' across : StayingLines) → ArePaired binary m own across → own' ≡ record own { settled = own'.settled }
    → length own'.settled.items ≡ length own.stays.items → IsSettled binary m own' across.stays.items → ArePaired binary m own' across
paired_marked binary m own own' across p same long settled = record {
  kinds = p.kinds ∙ ap (λ (s : StayingLines). other_kind s.kind) (sym same);
  own_side = side_marked m own own' same long p.own_side;
  across_side = p.across_side;
  own_counted = counted_marked m own own' across.stays.items same p.own_counted;
  across_counted = subst (λ (s : StayingLines). AreNonzerosCounted m across s.stays.items) (sym same) p.across_counted;
  own_settled = settled;
  across_settled = subst (λ (s : StayingLines). IsSettled binary m across s.stays.items) (sym same) p.across_settled;
}

module _ (binary : Bool) (m : Matrix) (own own' across : StayingLines) (place : ℕ) (p : ArePaired binary m own across) (inside : place < length own.stays.items) (cut : IsRemovedAt place own own') where
  pub before_cut : (reason : Reason) → reason_for binary (entry m) own.kind own.stays.items across.stays.items (get_or own.stays.items place 0) ≡ Some reason
      → WasRightBefore binary m across own'.stays.items (get_or own.stays.items place 0) reason
  before_cut reason why = record {
    before = own.stays.items;
    lines = across_of_paired binary m across own (paired_swapped binary m own across p);
    there = contains_from_in own.stays.items (get_or own.stays.items place 0) (in-get_or own.stays.items place inside);
    left = cut_without m own own' place p.own_side inside cut;
    counted = p.across_counted;
    settled = p.across_settled;
    why = ap (λ (kind : LineKind). reason_for binary (entry m) kind own.stays.items across.stays.items (get_or own.stays.items place 0)) (ap other_kind p.kinds ∙ other-other own.kind) ∙ why;
  }

  pub paired_cut : (across' : StayingLines) → across'.kind ≡ across.kind → across'.stays.items ≡ across.stays.items → IsSide m across' → AreNonzerosCounted m across' own'.stays.items
      → IsSettled binary m across' own'.stays.items → ArePaired binary m own' across'
  paired_cut across' kind stays is counted settled = record {
    kinds = kind ∙ p.kinds ∙ ap other_kind (sym cut.kind);
    own_side = cut_side m own own' place p.own_side inside cut;
    across_side = is;
    own_counted = subst (λ (lines : List ℕ). AreNonzerosCounted m own' lines) (sym stays) (cut_counted m own own' place p.own_side inside cut across.stays.items p.own_counted);
    across_counted = counted;
    own_settled = subst (λ (lines : List ℕ). IsSettled binary m own' lines) (sym stays)
        (cut_settled m own own' place p.own_side inside cut binary across.stays.items p.across_side.increasing p.own_settled);
    across_settled = settled;
  }
