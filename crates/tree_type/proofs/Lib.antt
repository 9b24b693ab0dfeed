pub mod Forests
mod Examples
pub mod NodeTrees
pub mod NodeChildren
pub mod OtherKinds
pub mod PlacedLines
pub mod OneRefusal
mod SoundOrBroken
pub mod SideLemmas
pub mod Among
mod ChildLines
