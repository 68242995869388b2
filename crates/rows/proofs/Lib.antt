pub mod Gathering
pub mod Members
pub mod Ascents
pub mod Properties
