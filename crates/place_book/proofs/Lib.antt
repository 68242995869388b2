pub mod Around
pub mod Climbing
pub mod Following
pub mod Laws
