pub mod Exchanges
pub mod Lines
pub mod Moments
pub mod Serving
pub mod Turns
