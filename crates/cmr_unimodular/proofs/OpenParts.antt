-- The lines that a decomposition leaves open.
use Rattle.std.proofs.Common.{◌≡◌, inl, inr, ℕ, min, false, length, Option, Some, None, refl, arith}
use Rattle.std.specs.Prelude.{IsSome}
use Rattle.std.proofs.lemmas.Bool.{cases_lt}
use Rattle.cmr_base.specs.declared.line_set.LineSet.{LineSet}
use Rattle.cmr_base.specs.Matrix.{Matrix, height, entry, IsMatrix}
use Rattle.cmr_base.specs.LineSets.{first_lines}
use Rattle.cmr_base.specs.Reductions.{line_reason}
use Rattle.tree_type.specs.Soundness.{part}
use Rattle.tree_type.specs.DecompositionTrees.{Tree}
use Rattle.tree_type.specs.Verdicts.{Open, verdict_of}
use Rattle.decomp_tree.specs.Shapes.{HasFault, IsReducible, IsApart, IsNetwork, IsConetwork, IsR10Matrix, IsTwoSum, IsThreeSum, IsShort, IsLeft, IsFirstCase}
use Rattle.open_parts.specs.TriedShapes.{IsTriedWith}
use Rattle.open_parts.proofs.TriedRoots.{open_lines_are_tried}
use Rattle.cmr_unimodular.specs.Verdict.{IsLeftOpen, IsOpenPart}

no_reason : {X : Type 0} (reason : Option X) → ¬ (IsSome reason) → reason ≡ None
no_reason None none = refl
no_reason (Some x) none = absurd (none refl)

left_open : (budget : ℕ) (n : Matrix) → IsFirstCase budget n IsLeft → IsLeftOpen budget n
left_open budget n is = record {
  no_fault = λ row first last path fault. is.first HasFault (omega arith) (row, first, last, path, fault);
  irreducible = λ line here. no_reason (line_reason false (entry n) (first_lines (height n)) (first_lines n.width) line) (λ some. is.first IsReducible (omega arith) (line, here, some));
  connected = λ parts are. elim (cases_lt (length parts) 2) [ inl one ↦ one | inr two ↦ absurd (is.first IsApart (omega arith) (parts, are, two)) ];
  no_network = is.first IsNetwork (omega arith);
  no_conetwork = is.first IsConetwork (omega arith);
  no_r10 = is.first IsR10Matrix (omega arith);
  no_two_separation = λ i j side separates. is.first IsTwoSum (omega arith) (i, j, side, separates);
  no_three_separation = λ form first second side separates. is.first IsThreeSum (omega arith) (form, first, second, side, separates);
  above = elim (cases_lt budget (min (height n) n.width)) [ inl less ↦ less | inr short ↦ absurd (is.first IsShort (omega arith) short) ];
}

-- the lines that a verdict leaves open
pub open_part : (budget pivots : ℕ) (m : Matrix) (tree : Tree) (lines : LineSet) → IsMatrix m → IsTriedWith budget pivots m tree → verdict_of tree ≡ Open lines → IsOpenPart budget pivots m lines
open_part budget pivots m tree lines is shape says =
    let case = open_lines_are_tried budget pivots m tree lines is shape says in
    record { are_lines = case.0; left = left_open budget (part m lines) case.1; tried = case.2; ends = case.3 }
