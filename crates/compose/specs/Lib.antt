pub mod Arrangements
pub mod SumKinds
pub mod RoundTrips
