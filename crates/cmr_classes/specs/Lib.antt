pub mod SeriesParallel
pub mod GraphicNetwork
pub mod GraphMatrix
pub mod AlikeNetworks
pub mod GraphsGiveBack
