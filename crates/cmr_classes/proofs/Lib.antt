pub mod TransposedBinary
pub mod SeriesParallelAnswers
pub mod GraphicNetworkAnswers
pub mod GraphMatrixAnswers
pub mod AlikeNetworks
pub mod GraphsGiveBack
