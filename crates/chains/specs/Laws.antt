-- Laws of chains.
use Rattle.cmr_base.specs.Matrix.{Matrix, IsTernary}
use Rattle.cmr_base.specs.Supports.{HaveOneSupport}
use Rattle.cmr_base.specs.Violator.{HasNoViolator}
use Rattle.cmr_base.specs.Trees.{IsBinary}
use Rattle.chains.specs.declared.step.SizedChain.{SizedChain}
use Rattle.chains.specs.Chains.{IsSoundChain, IsRegular}

-- if a chain is sound, each signing of the support has a violator
abbrev pub ChainsMeanViolators : Type 0
ChainsMeanViolators = (a m signs : Matrix) (chain : SizedChain) → IsBinary a → IsTernary a → IsSoundChain a chain signs → IsTernary m → HaveOneSupport a m → ¬ (HasNoViolator m)

-- if a chain is sound, no signing is totally unimodular
abbrev pub ChainsRefuteRegularity : Type 0
ChainsRefuteRegularity = (a signs : Matrix) (chain : SizedChain) → IsBinary a → IsTernary a → IsSoundChain a chain signs → ¬ (IsRegular a)
