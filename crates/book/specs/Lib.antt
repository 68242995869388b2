pub mod Meaning
pub mod Lists
