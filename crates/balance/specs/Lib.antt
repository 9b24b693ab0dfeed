pub mod BalanceFaults
pub mod Laws
pub mod SearchedFaults
pub mod CandidateColumns
