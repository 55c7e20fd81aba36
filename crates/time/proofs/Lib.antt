pub mod DistanceLaws
pub mod Group
pub mod Laws
pub mod Ordered
pub mod Signed
pub mod Ways
