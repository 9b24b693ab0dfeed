-- What accepted evidence says.
use Rattle.cmr_base.specs.Matrix.{Matrix, IsTernary}
use Rattle.tree_laws.specs.Laws.{IsProved}
use Rattle.large_evidence.specs.declared.evidence.UnimodularityEvidence.{UnimodularityEvidence}
use Rattle.large_evidence.specs.LargeEvidence.{IsAccepted}

-- a matrix with accepted evidence is totally unimodular, and has no violator
abbrev pub AcceptedMatricesAreUnimodular : Type 0
AcceptedMatricesAreUnimodular = (m : Matrix) (evidence : UnimodularityEvidence) → IsTernary m → IsAccepted m evidence → IsProved m
